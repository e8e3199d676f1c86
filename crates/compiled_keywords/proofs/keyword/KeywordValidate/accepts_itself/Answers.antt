use Rattle.std.proofs.Common.{◌≡◌, ◌∙◌, sym, subst}
use Rattle.schema_meaning.specs.Keywords.{rule}
use Rattle.schema_engine.specs.Itself.{is_fine}
use Rattle.schema_engine.specs.Led.{MayAskFor}
use Rattle.schema_engine.specs.Matches.{completed}
use Rattle.schema_engine.specs.Places.{value_at}
use Rattle.schema_engine.specs.Rules.{is_right}
use Rattle.compiled_keywords.specs.Owned.{text_of}
use Rattle.compiled_keywords.specs.Shapes.{shape_of}
use Rattle.compiled_keywords.specs.declared.keyword.Keyword.{Keyword}
use Rattle.compiled_keywords.proofs.AcceptLemmas.{empty_unless}
use Rattle.compiled_keywords.proofs.MatchLemmas.{text_asked}
use Rattle.compiled_keywords.proofs.keyword.KeywordValidate.accepts_itself.Goals as goal

pub is_matched-requires-clause-asked : goal.is_matched-requires-clause-asked
is_matched-requires-clause-asked g c =
    let m = g.T.Matching.matches c.args.matching.now in
    let d = value_at c.args.place in
    text_asked m (text_of c.in-Pattern.pattern) d
    (subst (λ (k : Keyword). MayAskFor m (shape_of k) d) c.in-Pattern.is c.requires.asked)

pub returns-in_ok-is_matched-in-Pattern-clause-right :
    goal.returns-in_ok-is_matched-in-Pattern-clause-right
returns-in_ok-is_matched-in-Pattern-clause-right g c =
    let reads = completed (g.T.Matching.matches c.args.matching.now) in
    let d = value_at c.args.place in
    let said = c.settled_if-in-Pattern.result in
    λ rest. subst (λ (k : Keyword). is_fine said ≡ is_right (rule (reads rest) d (shape_of k))) (sym c.in-Pattern.is)
    (c.settled_if-in-Pattern.ensures.fine ∙ c.in_ok-is_matched-in-Pattern.ensures.read rest ∙ empty_unless _ _ d)
