use Rattle.std.proofs.Common.{sym, subst}
use Rattle.std.proofs.lemmas.Result.{IfOk-weaker}
use Rattle.serde_json.specs.View.{view}
use Rattle.schema_meaning.specs.Keywords.{rule}
use Rattle.schema_engine.specs.Refusals.{IsReason}
use Rattle.schema_engine.specs.Rules.{AreOf}
use Rattle.compiled_keywords.specs.Applied.{name_of, combining_of, asks_of}
use Rattle.compiled_keywords.specs.Forms.{form_of}
use Rattle.compiled_keywords.specs.Shapes.{shape_of}
use Rattle.compiled_keywords.specs.declared.keyword.Keyword.{Keyword}
use Rattle.compiled_keywords.proofs.NamedLemmas.{asks_of_others}
use Rattle.compiled_keywords.proofs.RuleLemmas.{is_keyword, reason_so}
use Rattle.compiled_keywords.proofs.keyword.KeywordValidate.reason.Goals as goal

pub returns-in-Applicator : goal.returns-in-Applicator
returns-in-Applicator c =
    let d = view c.args.situation.now.value.now in
    let a = c.in-Applicator.applicator in
    let qs = c.args.questions.now in
    IfOk-weaker c.reason_of.result _ _
    (λ r noted m are. subst (λ (k : Keyword). IsReason (rule m d (shape_of k)) d r) (sym c.in-Applicator.is)
    (reason_so m d (name_of a) (combining_of a) (form_of (asks_of a)) r (is_keyword a)
    (noted m (asks_of_others m d (name_of a) (combining_of a) qs (form_of (asks_of a)) a.stands (subst (λ (k : Keyword). AreOf (rule m d (shape_of k)) qs) c.in-Applicator.is are)))))
    c.reason_of.ensures
