use Rattle.std.proofs.Common.{◌≡◌, map}
use Rattle.std.specs.Vec.Iter.{into_iter_items}
use Rattle.serde_json.specs.View.{members_view}
use Rattle.error_texts.specs.Fields.{field_data, with_fields}
use Rattle.error_texts.proofs.objects.insert_all.Given as goal

-- the members so far with the fields that are left
abbrev pub invariant-loop-name : goal.invariant-loop-name
invariant-loop-name l = with_fields (map field_data (into_iter_items l.name-iterator)) (members_view l.members.entries)
    ≡ with_fields (map field_data (into_iter_items l.initial.name-iterator)) (members_view l.initial.members.entries)
