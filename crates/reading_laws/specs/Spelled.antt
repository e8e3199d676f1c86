-- Schema paths as pointers spell them: the text of an index is that of a name of the same digits (RFC 6901, section 4).
use Rattle.std.specs.Prelude.{List, map, decimal}
use Rattle.json_values.specs.Parts.{Part, name, index}

abbrev pub by_name : Part → Part
by_name (name text) = name text
by_name (index i) = name (decimal i)

abbrev pub spelled : List Part → List Part
spelled path = map by_name path
