-- What added documents leave as it was: the dialects of meta-schemas, and the targets of references. Each statement is the contract of a function.
use Rattle.std.specs.Prelude.{ℕ, ◌≡◌, List, [], Option, Some, None, Ok}
use Rattle.std.specs.List.{AllByRecursion}
use Rattle.schema_drafts.specs.Drafts.{draft_named}
use Rattle.schema_definitions.specs.Places.{Dialect, uri_named}
use Rattle.schema_definitions.specs.Bearers.{Documents, dialects, meta, bearer_under}
use Rattle.schema_definitions.specs.DocumentCauses.{told_anew}
use Rattle.schema_definitions.specs.Lookup.{Target, lookup}
use Rattle.schema_definitions.specs.Scopes.{dynamic_lookup, recursive_lookup}
use Rattle.added_documents.specs.Added.{Joined, EachNamedBy, IsToldAlike, NamesDraft, IsFree, LeftAlone}

-- where the documents name drafts alone, any two tell the same of what they name
abbrev pub DraftsAreToldAlike : Type 0
DraftsAreToldAlike = (told after : List ℕ → Option Dialect) (docs : Documents) → EachNamedBy NamesDraft docs → EachNamedBy (IsToldAlike told after) docs

-- at no stage an added document bears the meta-schema that a `$schema` names
abbrev pub IsNeverAdded : Documents → Documents → List ℕ → Type 0
IsNeverAdded more new t = (uri : List ℕ) → uri_named t (draft_named t) ≡ Some uri → (n : ℕ) → bearer_under (dialects new n) more uri ≡ None

-- where no meta-schema of the old documents is told anew, and none that they name is added, its dialect stays
abbrev pub DialectsStay : Type 0
DialectsStay = (old more new : Documents) → Joined old more new → told_anew old ≡ [] → EachNamedBy (IsNeverAdded more new) old
    → EachNamedBy (IsToldAlike (meta old) (meta new)) old

-- references that lead somewhere lead to the same targets, those by dynamic scope where no added document bears a resource of it
pub record SameTargets (old more new : Documents) : Type 0 where
  pub static : (base reference : List ℕ) (t : Target) → lookup old base reference ≡ Ok t → lookup new base reference ≡ Ok t
  pub dynamic : (base : List ℕ) (scope : List (List ℕ)) (reference : List ℕ) (t : Target) → AllByRecursion (IsFree more new) scope
      → dynamic_lookup old base scope reference ≡ Ok t → dynamic_lookup new base scope reference ≡ Ok t
  pub recursive : (base : List ℕ) (scope : List (List ℕ)) (t : Target) → AllByRecursion (IsFree more new) scope
      → recursive_lookup old base scope ≡ Ok t → recursive_lookup new base scope ≡ Ok t

abbrev pub TargetsStay : Type 0
TargetsStay = (old more new : Documents) → LeftAlone old more new → SameTargets old more new
