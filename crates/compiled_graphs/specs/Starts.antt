-- Where references from a base begin.
use Rattle.std.specs.Prelude.{◌≡◌, ℕ, List, [], ◌∷◌, ◌++◌, Option, Some, None, Result, Ok, Err}
use Rattle.std.specs.List.{AllZip}
use Rattle.schema_definitions.specs.Bearers.{Document}
use Rattle.schema_definitions.specs.Lookup.{LookupCause, Target, lookup}
use Rattle.schema_definitions.specs.Sites.{Site}
use Rattle.referencing.specs.Resolved.{base_of, scope_of, documents_in}
use Rattle.referencing.specs.declared.resolver.Resolver.{Resolver}
use Rattle.reached_sites.specs.Growing.{AddsOne, StandsAt}
use Rattle.reached_sites.specs.Visits.{Met, Belongs}
use Rattle.reached_sites.specs.declared.visit.Visit.{Visit}
use Rattle.schema_registries.specs.Roots.{base_at, site_behind}
use Rattle.compiled_graphs.specs.Graphs.{IsVisited}

-- what one leads to is read behind the resource that the base leads to
abbrev pub site_inside : List Document → List ℕ → Target → Site
site_inside own base t = site_behind (base_at own base ∷ []) t

abbrev pub site_of_answer : List Document → List ℕ → Result Target LookupCause → List Site
site_of_answer own base (Ok t) = site_inside own base t ∷ []
site_of_answer own base (Err e) = []

-- the sites of those that lead somewhere
abbrev pub sites_from : List Document → List ℕ → List (List ℕ) → List Site
sites_from own base [] = []
sites_from own base (r ∷ rs) = site_of_answer own base (lookup own base r) ++ sites_from own base rs

abbrev pub LeadsNowhere : List Document → List ℕ → List ℕ → Type 0
LeadsNowhere own base r = (e : LookupCause) × (lookup own base r ≡ Err e)

-- what a reference leads to is visited at a position
pub record Starts (own : List Document) (base r : List ℕ) (vs : List Visit) (i : ℕ) : Type 0 where
  pub target : Target
  pub found : lookup own base r ≡ Ok target
  pub visited : IsVisited vs i (site_inside own base target)

abbrev pub StartsAt : List Document → List ℕ → List Visit → List ℕ → Option ℕ → Type 0
StartsAt own base vs r None = LeadsNowhere own base r
StartsAt own base vs r (Some i) = Starts own base r vs i

abbrev pub Start : List Document → List ℕ → List Visit → List (List ℕ) → List (Option ℕ) → Type 0
Start own base vs rs starts = AllZip (StartsAt own base vs) rs starts

-- the visit of what one reference leads to was put behind others, unless it is one of them
pub record Begins (own : List Document) (base r : List ℕ) (old new : List Visit) (i : ℕ) : Type 0 where
  pub target : Target
  pub found : lookup own base r ≡ Ok target
  pub visit : Visit
  pub met : Met visit (site_inside own base target)
  pub belongs : Belongs own visit
  pub adds : AddsOne old new visit
  pub stands : StandsAt new i visit

-- nothing is visited where it leads nowhere
abbrev pub StartsOne : List Document → List ℕ → List ℕ → List Visit → List Visit → Option ℕ → Type 0
StartsOne own base r old new None = LeadsNowhere own base r × (new ≡ old)
StartsOne own base r old new (Some i) = Begins own base r old new i

-- a resolver at the resource that a base leads to, the one that is entered
pub record IsInside (own : List Document) (base : List ℕ) (r : Resolver) : Type 0 where
  pub documents : documents_in r ≡ own
  pub base_is : base_of r ≡ base_at own base
  pub scope : scope_of r ≡ base_at own base ∷ []
