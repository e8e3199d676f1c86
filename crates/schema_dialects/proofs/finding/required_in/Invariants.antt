use Rattle.std.proofs.Common.{◌≡◌, Bool, false, ◌||◌}
use Rattle.std.specs.List.{list_any}
use Rattle.serde_json.specs.View.{members_view}
use Rattle.schema_drafts.specs.Vocabularies.{Vocabulary}
use Rattle.schema_definitions.specs.Bearers.{required_in}
use Rattle.schema_dialects.specs.Sets.{listed}
use Rattle.schema_dialects.proofs.finding.required_in.Given as goal

abbrev pub invariant-loop-name : goal.invariant-loop-name
invariant-loop-name l = record {
  part : l.vocabularies.is_whole ≡ false;
  told : (test : Vocabulary → Bool)
      → (list_any test (listed l.vocabularies) || list_any test (required_in (members_view l.name-iterator))) ≡ list_any test (required_in (members_view l.members.entries));
}
