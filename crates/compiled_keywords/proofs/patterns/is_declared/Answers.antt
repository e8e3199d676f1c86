use Rattle.std.proofs.Common.{◌≡◌, ◌||◌, ◌∙◌, List, false, map, string_bytes, sym, ap}
use Rattle.std.proofs.lemmas.Result.{IfOk-weaker}
use Rattle.std.specs.List.{list_any}
use Rattle.json_values.specs.Patterns.{matched}
use Rattle.schema_meaning.specs.Members.{is_listed}
use Rattle.schema_engine.specs.Matches.{completed}
use Rattle.compiled_keywords.specs.Owned.{text_of}
use Rattle.compiled_keywords.specs.declared.subschemas.Pattern.{Pattern}
use Rattle.compiled_keywords.proofs.patterns.is_declared.Goals as goal

pub returns-else-contains-clause-read : goal.returns-else-contains-clause-read
returns-else-contains-clause-read g c =
    let entry = g.T.Matching.matches c.args.matching.now in
    let w = c.args.declared.now in
    let name = c.args.name.now in
    let unnamed : is_listed name (map string_bytes w.names.list.items) ≡ false = sym c.contains.ensures ∙ c.if-contains.false in
    IfOk-weaker c.is_matched_by.result _ _
    (λ b read rest.
    read rest ∙ ap (λ (ps : List Pattern). list_any (λ p. matched (completed entry rest) p name) (map text_of ps)) c.deref.ensures.value
    ∙ sym (ap (λ a. a || list_any (λ p. matched (completed entry rest) p name) (map text_of w.patterns.items)) unnamed))
    c.is_matched_by.ensures.read
