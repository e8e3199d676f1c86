use Rattle.std.proofs.Common.{◌≡◌, Bool, false, ◌||◌, ℕ, List}
use Rattle.std.specs.List.{list_any}
use Rattle.serde_json.specs.View.{members_view}
use Rattle.schema_drafts.specs.Vocabularies.{Vocabulary, custom}
use Rattle.schema_definitions.specs.Bearers.{required_in}
use Rattle.schema_dialects.specs.Sets.{required}
use Rattle.schema_dialects.proofs.dialect.required_among.Given as goal

abbrev pub invariant-loop-name : goal.invariant-loop-name
invariant-loop-name l = (test : Vocabulary → Bool) → ((uri : List ℕ) → test (custom uri) ≡ false)
    → (list_any test (required l.required) || list_any test (required_in (members_view l.name-iterator))) ≡ list_any test (required_in (members_view l.members.entries))
