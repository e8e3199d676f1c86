-- What an iterator over the schemas inside a schema has left.
use Rattle.std.specs.Prelude.{List, [], ◌++◌, Option, Some, None, String}
use Rattle.std.specs.declared.alloc.Global.{Global}
use Rattle.std.specs.Slice.Iter.{iter_rest}
use Rattle.serde_json.specs.Data.{Data}
use Rattle.serde_json.specs.View.{items_view, members_view}
use Rattle.serde_json.specs.declared.value.Value.{Value}
use Rattle.schema_drafts.specs.Children.{among_items, of_members}
use Rattle.schema_drafts.specs.declared.children.Held.{Held}
use Rattle.schema_drafts.specs.declared.children.Held.TheVariants.{Listed, Named}
use Rattle.schema_drafts.specs.declared.children.ChildIter.{ChildIter}

abbrev pub values_left : Held → List Value
values_left (Listed values) = iter_rest values
values_left (Named values) = values

-- the schemas among the values of the member at hand
abbrev pub held_left : Held → List Data
held_left held = among_items (items_view (values_left held))

abbrev pub members_left : Option (List (String Global × Value)) → List (String Global × Value)
members_left None = []
members_left (Some members) = members

-- those of the member at hand, and then those of the members after it
abbrev pub left : ChildIter → List Data
left c = held_left c.held ++ of_members c.draft c.hidden (members_view (members_left c.members))
