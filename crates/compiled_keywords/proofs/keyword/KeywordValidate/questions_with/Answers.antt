use Rattle.std.proofs.Common.{sym, subst}
use Rattle.std.proofs.lemmas.Result.{on_ok_weaker}
use Rattle.schema_meaning.specs.Keywords.{rule}
use Rattle.schema_engine.specs.Led.{MayAskFor}
use Rattle.schema_engine.specs.Matches.{completed}
use Rattle.schema_engine.specs.Places.{value_at}
use Rattle.schema_engine.specs.Together.{PushesBoth}
use Rattle.compiled_keywords.specs.Applied.{name_of, combining_of, asks_of}
use Rattle.compiled_keywords.specs.Forms.{form_of}
use Rattle.compiled_keywords.specs.Paired.{Pairs}
use Rattle.compiled_keywords.specs.Shapes.{shape_of}
use Rattle.compiled_keywords.specs.declared.keyword.Keyword.{Keyword}
use Rattle.compiled_keywords.specs.declared.keyword.Keyword.TheVariants as keyword
use Rattle.compiled_keywords.proofs.MatchLemmas.{asked_in}
use Rattle.compiled_keywords.proofs.PairLemmas.{pushed_beside}
use Rattle.compiled_keywords.proofs.RuleLemmas.{is_keyword}
use Rattle.compiled_keywords.proofs.keyword.KeywordValidate.questions_with.Goals as goal

pub push_both-requires-clause-asked : goal.push_both-requires-clause-asked
push_both-requires-clause-asked g c =
    let m = g.T.Matching.matches c.args.matching.now in
    let d = value_at c.args.place in
    let a = c.in-Applicator.applicator in
    asked_in m d (name_of a) (combining_of a) (form_of (asks_of a)) (is_keyword a)
    (subst (λ (k : Keyword). MayAskFor m (shape_of k) d) c.in-Applicator.is c.requires.asked)

pub returns-in-Applicator-other-clause-pushed : goal.returns-in-Applicator-other-clause-pushed
returns-in-Applicator-other-clause-pushed g c =
    let reads = completed (g.T.Matching.matches c.args.matching.now) in
    let d = value_at c.args.place in
    let a = c.in-Applicator.applicator in
    let b = c.in-Applicator-other.beside in
    let old = c.args.into.now.items in
    let new = c.push_both.new.into.items in
    let pairs = subst (λ (k : Keyword). Pairs (keyword.Applicator a) k) c.in-Applicator-other.is (subst (λ (k : Keyword). Pairs k c.args.other.now) c.in-Applicator.is c.requires.pairs) in
    on_ok_weaker c.push_both.result
    (λ pushed rest. subst (λ (k : Keyword). PushesBoth old new (rule (reads rest) d (shape_of k)) (rule (reads rest) d (shape_of c.args.other.now))) (sym c.in-Applicator.is)
    (subst (λ (k : Keyword). PushesBoth old new (rule (reads rest) d (shape_of (keyword.Applicator a))) (rule (reads rest) d (shape_of k))) (sym c.in-Applicator-other.is)
    (pushed_beside (reads rest) d a b old new pairs (pushed rest))))
    c.push_both.ensures.pushed
