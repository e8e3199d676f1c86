use Rattle.std.proofs.Common.{◌≡◌, ◌∙◌, ◌||◌, ap, sym}
use Rattle.std.specs.List.{list_any}
use Rattle.schema_drafts.specs.Vocabularies.{custom, vocabulary_named}
use Rattle.schema_dialects.specs.Sets.{required}
use Rattle.schema_dialects.proofs.dialect.mark_named.Goals as goal

pub returns-in-Some : goal.returns-in-Some
returns-in-Some c = λ test never. c.mark.ensures test ∙ ap (λ v. test v || list_any test (required c.args.known.now)) c.in-Some.ensures

pub returns-in_default : goal.returns-in_default
returns-in_default c = λ test never.
    let name = c.args.name.now in
    let is : custom name ≡ vocabulary_named name = c.in_default.ensures in
    sym (ap (λ v. test v || list_any test (required c.args.known.now)) (sym is) ∙ ap (λ b. b || list_any test (required c.args.known.now)) (never name))
