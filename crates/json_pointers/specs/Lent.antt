-- What the segments, nodes and errors of the code stand for.
use Rattle.std.specs.Prelude.{List, [], ◌∷◌, ◌++◌}
use Rattle.std.specs.Cow.{cow_str_bytes}
use Rattle.json_values.specs.Parts.{Part, name, index}
use Rattle.json_values.specs.Pointers.{Stop, not_a_pointer, nowhere, not_an_index}
use Rattle.json_pointers.specs.declared.path.JsonPointerSegment.{JsonPointerSegment}
use Rattle.json_pointers.specs.declared.path.JsonPointerSegment.TheVariants.{Key, Index}
use Rattle.json_pointers.specs.declared.path.JsonPointerNode.{JsonPointerNode, JsonPointerNode', Held-JsonPointerNode-parent, None', Some'}
use Rattle.json_pointers.specs.declared.pointers.PointerError.{PointerError}
use Rattle.json_pointers.specs.declared.pointers.PointerError.TheVariants.{NotAPointer, Nowhere, InvalidArrayIndex}

abbrev pub part_of : JsonPointerSegment → Part
part_of (Key text) = name (cow_str_bytes text)
part_of (Index n) = index n

abbrev pub stop_of : PointerError → Stop
stop_of NotAPointer = not_a_pointer
stop_of Nowhere = nowhere
stop_of (InvalidArrayIndex token) = not_an_index token.now

-- the part of a node's own segment
abbrev pub last_of : JsonPointerNode → Part
last_of (JsonPointerNode' segment parent) = part_of segment

-- the path from the root to a node; the segment of a node with no parent is none of it
abbrev mutual
  pub path_of : JsonPointerNode → List Part
  path_of (JsonPointerNode' segment parent) = path_below parent (part_of segment)

  pub path_below : Held-JsonPointerNode-parent → Part → List Part
  path_below None' part = []
  path_below (Some' p node) part = path_of node ++ part ∷ []
