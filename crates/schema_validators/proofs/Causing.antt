-- What is known of a root once its causes are listed.
use Rattle.std.proofs.Common.{◌≡◌, ◌⊎◌, ℕ, List, [], Ok, is_ok, inl, inr, ap, sym, subst}
use Rattle.schema_definitions.specs.Bearers.{Document}
use Rattle.schema_definitions.specs.Lookup.{Target, lookup}
use Rattle.schema_definitions.specs.Sites.{root_site}
use Rattle.schema_definitions.specs.Rows.{BuildCause}
use Rattle.schema_definitions.specs.BuildCauses.{IsCauseOf}
use Rattle.reached_sites.specs.declared.cause.BuildCause as refused
use Rattle.compiled_graphs.specs.Told.{AreCausesOf, RefusesTelling}
use Rattle.compiled_graphs.proofs.Told.{none-told, right-none}
use Rattle.schema_registries.specs.Roots.{Root, Patterns, Finds, IsSound}
use Rattle.schema_registries.proofs.Found.{finds_one}
use Rattle.schema_validators.specs.Caused.{ListsCauses, NoneWhereSound, RefusesListing}
use Rattle.schema_validators.specs.Refused.{IsOfPlaces}
use Rattle.schema_validators.specs.declared.error.BuildError as error

module _ (own : List Document) (base reference : List ℕ) (t : Target) (found : lookup own base reference ≡ Ok t) (p : Patterns) where
  abbrev root_here : Root
  root_here = record { documents = own; base = base; reference = reference; before = [] }

  refuses_here : (limit : ℕ) (e : refused.BuildCause) (b : error.BuildError) → RefusesTelling own p.makes (root_site t) limit e → IsOfPlaces e b → RefusesListing p limit root_here b
  refuses_here limit e b h (inl m) = rw (m.1) (inl tt)
  refuses_here limit e b (inl x) (inr n) = inr (record { cause = e; is = n.1; target = t; found = found; exceeded = x })
  refuses_here limit e b (inr m) (inr n) = absurd (n.0 m)

  pub refuses_there : (limit : ℕ) (e : refused.BuildCause) (b : error.BuildError) → RefusesTelling own p.makes (root_site t) limit e → IsOfPlaces e b → (r : Root) → root_here ≡ r → RefusesListing p limit r b
  refuses_there limit e b h o r same = subst (λ (x : Root). RefusesListing p limit x b) same (refuses_here limit e b h o)

module _ (own : List Document) (base reference : List ℕ) (t : Target) (found : lookup own base reference ≡ Ok t) (p : Patterns) (told : List refused.BuildCause)
    (causes : AreCausesOf own p.makes (root_site t) told) where
  abbrev here : Root
  here = record { documents = own; base = base; reference = reference; before = [] }

  abbrev NoCause : Target → Type 0
  NoCause u = (c : BuildCause) → IsCauseOf own p.makes (root_site u) c → ⊥

  pub lists_there : (r : Root) → here ≡ r → ListsCauses p r told
  lists_there r e = subst (λ (x : Root). ListsCauses p x told) e (record {
    found = ap is_ok found;
    causes = λ u there. subst (λ (v : Target). AreCausesOf own p.makes (root_site v) told) (finds_one here t u found there) causes;
  })

  pub none_there : (r : Root) → here ≡ r → NoneWhereSound p r told
  none_there r e = subst (λ (x : Root). NoneWhereSound p x told) e (
    λ none. record { found = ap is_ok found; right = λ u there. subst NoCause (finds_one here t u found there) (none-told own p.makes (root_site t) told causes none) },
    λ sound. right-none own p.makes (root_site t) told causes (sound.right t found),
  )
