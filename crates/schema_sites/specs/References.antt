-- The keywords of references: their names, their rows, and what they lead to.
use Rattle.std.specs.Prelude.{◌≡◌, ℕ, List, bytes_eq, codes, if◌then◌else◌, Option, Some, None, Result}
use Rattle.serde_json.specs.Data.{Data}
use Rattle.serde_json.specs.Find.{as_str}
use Rattle.schema_definitions.specs.Bearers.{Documents}
use Rattle.schema_definitions.specs.Lookup.{LookupCause, Target, lookup}
use Rattle.schema_definitions.specs.Scopes.{dynamic_lookup, recursive_lookup}
use Rattle.schema_meaning.specs.Keywords.{Reference, static, dynamic, recursive, reference_name}
use Rattle.schema_definitions.specs.Rows.{Row, Context, ref_row, dynamic_row, recursive_row}
use Rattle.schema_sites.specs.declared.reference_keyword.ReferenceKeyword.{ReferenceKeyword}
use Rattle.schema_sites.specs.declared.reference_keyword.ReferenceKeyword.TheVariants.{Ref, DynamicRef, RecursiveRef}

abbrev pub kind_of : ReferenceKeyword → Reference
kind_of Ref = static
kind_of DynamicRef = dynamic
kind_of RecursiveRef = recursive

abbrev pub name_of : ReferenceKeyword → List ℕ
name_of r = reference_name (kind_of r)

abbrev pub named : List ℕ → Option ReferenceKeyword
named k =
    if bytes_eq k (codes "$ref") then Some Ref
    else (if bytes_eq k (codes "$dynamicRef") then Some DynamicRef else (if bytes_eq k (codes "$recursiveRef") then Some RecursiveRef else None))

abbrev pub reference_row : ReferenceKeyword → Context → Data → Row
reference_row Ref x d = ref_row x (codes "$ref") (as_str d)
reference_row DynamicRef x d = dynamic_row x (codes "$dynamicRef") (as_str d)
reference_row RecursiveRef x d = recursive_row x (codes "$recursiveRef") d

-- what a text leads to from a base and a scope; the text of `$recursiveRef` is always `#`
abbrev pub looked_up : ReferenceKeyword → Documents → List ℕ → List (List ℕ) → List ℕ → Result Target LookupCause
looked_up Ref docs base scope t = lookup docs base t
looked_up DynamicRef docs base scope t = dynamic_lookup docs base scope t
looked_up RecursiveRef docs base scope t = recursive_lookup docs base scope

-- the texts that a keyword may have
abbrev pub MayBe : ReferenceKeyword → List ℕ → Type 0
MayBe Ref t = Unit {0}
MayBe DynamicRef t = Unit {0}
MayBe RecursiveRef t = t ≡ codes "#"

-- the value of a keyword is a text that it may have
pub record Says (r : ReferenceKeyword) (d : Data) (t : List ℕ) : Type 0 where
  pub text : as_str d ≡ Some t
  pub may_be : MayBe r t
