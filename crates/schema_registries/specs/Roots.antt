-- Roots: where validation begins.
use Rattle.std.specs.Prelude.{◌≡◌, ℕ, List, [], ◌∷◌, true, Result, Ok, Err, is_ok}
use Rattle.schema_definitions.specs.Bearers.{Documents}
use Rattle.schema_definitions.specs.Lookup.{LookupCause, Target, lookup}
use Rattle.schema_definitions.specs.Scopes.{entered_scope}
use Rattle.schema_definitions.specs.Sites.{Site, root_site}
use Rattle.schema_definitions.specs.Rows.{BuildCause}
use Rattle.schema_definitions.specs.BuildCauses.{IsCauseOf}
pub use Rattle.schema_patterns.specs.Makers.{Patterns}
use Rattle.schema_registries.specs.Seen.{documents_in_registry}
use Rattle.schema_registries.specs.declared.registry.SchemaRegistry.{SchemaRegistry}

-- documents, a reference from a base into them, and the resources entered before it is followed, the innermost first
pub record Root : Type 0 where
  pub documents : Documents
  pub base : List ℕ
  pub reference : List ℕ
  pub before : List (List ℕ)

-- what the reference leads to
abbrev pub Finds : Root → Target → Type 0
Finds r target = lookup r.documents r.base r.reference ≡ Ok target

-- the scope behind the resources entered before: a base is entered, unless it is the present one
abbrev pub scope_behind : List (List ℕ) → List ℕ → List (List ℕ)
scope_behind [] base = base ∷ []
scope_behind (u ∷ us) base = entered_scope base u (u ∷ us)

abbrev pub site_behind : List (List ℕ) → Target → Site
site_behind before t = record (root_site t) { scope = scope_behind before t.base }

-- the site of what it leads to: where nothing was entered before, the scope begins with the target's base
abbrev pub site_of_root : Root → Target → Site
site_of_root r target = site_behind r.before target

-- the reference leads somewhere, and nothing is wrong at the schemas reached from there
pub record IsSound (p : Patterns) (r : Root) : Type 0 where
  pub found : is_ok (lookup r.documents r.base r.reference) ≡ true
  pub right : (target : Target) → Finds r target → (cause : BuildCause) → IsCauseOf r.documents p.makes (site_of_root r target) cause → ⊥

-- it is by some patterns: said by what would follow if it were by none, so that there is one proof of it at most
abbrev pub IsSoundBySome : Root → Type 0
IsSoundBySome r = ((p : Patterns) → IsSound p r → ⊥) → ⊥

-- in the documents of a registry, from its base: nothing was entered before
abbrev pub root_on : SchemaRegistry → List ℕ → Root
root_on r reference = record { documents = documents_in_registry r; base = r.base; reference = reference; before = [] }

-- ---- roots inside a document

-- the base of the resource that a URI leads to, or the URI where that is none
abbrev pub base_of_answer : List ℕ → Result Target LookupCause → List ℕ
base_of_answer uri (Ok t) = t.base
base_of_answer uri (Err e) = uri

abbrev pub base_at : Documents → List ℕ → List ℕ
base_at docs uri = base_of_answer uri (lookup docs uri [])

-- a reference from the root of the document at a URI: the resource of that root is entered, as a lookup there leaves it (Core 7.1)
abbrev pub root_inside : Documents → List ℕ → List ℕ → Root
root_inside docs uri reference = record { documents = docs; base = uri; reference = reference; before = base_at docs uri ∷ [] }
