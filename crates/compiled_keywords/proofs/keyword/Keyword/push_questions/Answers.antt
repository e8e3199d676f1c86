use Rattle.std.proofs.Common.{sym, subst}
use Rattle.std.proofs.lemmas.Result.{on_ok_weaker}
use Rattle.schema_meaning.specs.Keywords.{rule, reference_name}
use Rattle.schema_engine.specs.Led.{MayAskFor}
use Rattle.schema_engine.specs.Matches.{completed}
use Rattle.schema_engine.specs.Places.{value_at}
use Rattle.compiled_keywords.specs.Applied.{name_of, combining_of, asks_of}
use Rattle.compiled_keywords.specs.Forms.{form_of, added_in}
use Rattle.compiled_keywords.specs.Seen.{Puts, beside_in}
use Rattle.compiled_keywords.specs.Shapes.{shape_of, added_by, reference_of}
use Rattle.compiled_keywords.specs.declared.keyword.Keyword.{Keyword}
use Rattle.compiled_keywords.proofs.MatchLemmas.{asked_in}
use Rattle.compiled_keywords.proofs.RuleLemmas.{is_keyword, beside_so}
use Rattle.compiled_keywords.proofs.keyword.Keyword.push_questions.Goals as goal

pub push_asked-requires-clause-asked : goal.push_asked-requires-clause-asked
push_asked-requires-clause-asked g c =
    let m = g.T.Matching.matches c.args.matching.now in
    let d = value_at c.args.place in
    let a = c.in-Applicator.applicator in
    asked_in m d (name_of a) (combining_of a) (form_of (asks_of a)) (is_keyword a)
    (subst (λ (k : Keyword). MayAskFor m (shape_of k) d) c.in-Applicator.is c.requires.asked)

pub returns-in-Applicator-clause-put : goal.returns-in-Applicator-clause-put
returns-in-Applicator-clause-put g c =
    let reads = completed (g.T.Matching.matches c.args.matching.now) in
    let d = value_at c.args.place in
    let a = c.in-Applicator.applicator in
    let old = c.args.into.now.items in
    let new = c.push_asked.new.into.items in
    on_ok_weaker c.push_asked.result
    (λ puts rest. subst (λ (k : Keyword). Puts (added_by k) old new (beside_in (rule (reads rest) d (shape_of k)))) (sym c.in-Applicator.is)
    (subst (λ qs. Puts (added_in (name_of a) (form_of (asks_of a))) old new qs) (sym (beside_so (reads rest) d (name_of a) (combining_of a) (form_of (asks_of a)) (is_keyword a))) (puts rest (name_of a))))
    c.push_asked.ensures.put

pub returns-in-Reference-clause-put : goal.returns-in-Reference-clause-put
returns-in-Reference-clause-put g c =
    let reads = completed (g.T.Matching.matches c.args.matching.now) in
    let d = value_at c.args.place in
    let old = c.args.into.now.items in
    let new = c.push_target.new.into.items in
    on_ok_weaker c.push_target.result
    (λ puts rest. subst (λ (k : Keyword). Puts (added_by k) old new (beside_in (rule (reads rest) d (shape_of k)))) (sym c.in-Reference.is) (puts (reference_name (reference_of c.in-Reference.kind))))
    c.push_target.ensures
