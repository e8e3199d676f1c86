-- What of a scope dynamic and recursive references depend on (Core 8.2.3.2; 2019-09, Core 8.2.4.2).
use Rattle.std.specs.Prelude.{ℕ, ◌≡◌, List, Some, slice_get}
use Rattle.schema_definitions.specs.Bearers.{Documents}
use Rattle.schema_definitions.specs.Scopes.{entered_scope, dynamic_lookup, recursive_lookup}
use Rattle.schema_definitions.specs.CompileKeys.{scope_key}

-- the base is the present resource of a scope, its innermost
abbrev pub IsPresent : List ℕ → List (List ℕ) → Type 0
IsPresent base scope = slice_get scope 0 ≡ Some base

-- from a base, two scopes answer every dynamic and every recursive reference alike, and have one scope key after one more entry on both
pub record Alike (docs : Documents) (base : List ℕ) (left right : List (List ℕ)) : Type 0 where
  pub dynamic : (reference : List ℕ) → dynamic_lookup docs base left reference ≡ dynamic_lookup docs base right reference
  pub recursive : recursive_lookup docs base left ≡ recursive_lookup docs base right
  pub entered : (new : List ℕ) → scope_key docs new (entered_scope new base left) ≡ scope_key docs new (entered_scope new base right)

abbrev pub KeysDecide : Type 0
KeysDecide = (docs : Documents) (base : List ℕ) (left right : List (List ℕ)) → IsPresent base left → IsPresent base right
    → scope_key docs base left ≡ scope_key docs base right → Alike docs base left right

abbrev pub EnteredIsPresent : Type 0
EnteredIsPresent = (new base : List ℕ) (scope : List (List ℕ)) → IsPresent base scope → IsPresent new (entered_scope new base scope)
