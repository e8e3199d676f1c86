-- A walk that begins with one visit.
use Rattle.std.proofs.Common.{◌≡◌, ◌∙◌, ℕ, List, [], ◌∷◌, ◌++◌, Bool, refl, sym, ap, subst, inl, inr, arith}
use Rattle.schema_meaning.specs.Members.{In, first}
use Rattle.schema_definitions.specs.Bearers.{Document}
use Rattle.schema_definitions.specs.BuildCauses.{at_root}
use Rattle.schema_definitions.specs.Sites.{Site}
use Rattle.reached_sites.specs.Growing.{AddsOne}
use Rattle.reached_sites.specs.Visits.{Met, Belongs}
use Rattle.reached_sites.specs.declared.visit.Visit.{Visit}
use Rattle.reached_sites.proofs.Listing.{in-one, none-in}
use Rattle.compiled_graphs.specs.Graphs.{IsVisited, IsGraph}

pub alone-of : (old new : List Visit) (v : Visit) → old ≡ [] → AddsOne old new v → new ≡ v ∷ []
alone-of old new v empty (inl e) = e ∙ ap (λ vs. vs ++ v ∷ []) empty
alone-of old new v empty (inr h) = none-in (subst (λ (vs : List Visit). In h.1.visit vs) empty h.1.listed)

module _ (own : List Document) (makes : List ℕ → Bool) (root : Site) (v : Visit) (vs : List Visit) (alone : vs ≡ v ∷ []) (met : Met v root) where
  pub alone-visited : IsVisited vs 0 root
  alone-visited = subst (λ (us : List Visit). IsVisited us 0 root) (sym alone) (record { visit = v; there = refl; met = met })

  same : (w : Visit) → In w vs → w ≡ v
  same w i = in-one (subst (λ (us : List Visit). In w us) alone i)

  pub alone-begun : Belongs own v → IsGraph own makes (root ∷ []) vs [] [] 0
  alone-begun b = record {
    belongs = λ w i. subst (λ u. Belongs own u) (sym (same w i)) b;
    reached = λ w i. record { site = root; met = subst (λ u. Met u root) (sym (same w i)) met; root = root; listed = first; reached = at_root };
    edges_lead = λ e i. none-in i;
    read = λ i h w there s m. absurd (omega (arith, h));
    wrong_ones = λ i j. none-in j;
  }
