-- The names of `required`, sought among members.
use Rattle.std.specs.Prelude.{◌≡◌, ℕ, List, Bool, String, map, string_bytes}
use Rattle.std.specs.declared.alloc.Global.{Global}
use Rattle.std.specs.List.{filter}
use Rattle.serde_json.specs.Data.{Members}
use Rattle.serde_json.specs.Find.{get_member}
use Rattle.schema_meaning.specs.Keywords.{none_there}
use Rattle.schema_meaning.specs.Members.{is_empty, is_listed}

-- each name is among the one just where it is among the other
abbrev pub ListTheSame : List (String Global) → List (String Global) → Type 0
ListTheSame xs ys = (k : List ℕ) → is_listed k (map string_bytes xs) ≡ is_listed k (map string_bytes ys)

-- whether none of the names is missing among the members
abbrev pub are_members : List (String Global) → Members → Bool
are_members xs ms = is_empty (filter (λ k. none_there (get_member k ms)) (map string_bytes xs))
