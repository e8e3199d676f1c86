use Rattle.std.proofs.Common.{◌≡◌, ◌++◌, drop}
use Rattle.serde_json.specs.View.{items_view, members_view}
use Rattle.schema_patterns.specs.Texts.{texts_of_items, texts_of_members, bytes_of}
use Rattle.schema_patterns.proofs.texts.+texts.Given as goal

abbrev pub invariant-push_texts_of_items-loop-item : goal.invariant-push_texts_of_items-loop-item
invariant-push_texts_of_items-loop-item l = bytes_of l.fn.texts.items ++ texts_of_items (items_view l.items) ≡ bytes_of l.texts.items ++ texts_of_items (items_view (drop l.item-index l.items))

abbrev pub invariant-push_texts_of_members-loop-name : goal.invariant-push_texts_of_members-loop-name
invariant-push_texts_of_members-loop-name l = bytes_of l.fn.texts.items ++ texts_of_members (members_view l.members.entries) ≡ bytes_of l.texts.items ++ texts_of_members (members_view l.name-iterator)
