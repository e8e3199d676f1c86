-- What is known of a root once it was checked.
use Rattle.std.proofs.Common.{◌≡◌, ℕ, List, [], ◌∷◌, Bool, true, Option, Ok, is_ok, refl, sym, ap, subst, ◌∙◌}
use Rattle.std.specs.List.{list_all}
use Rattle.schema_definitions.specs.Bearers.{Document}
use Rattle.schema_definitions.specs.Lookup.{Target, lookup}
use Rattle.schema_definitions.specs.Sites.{root_site}
use Rattle.schema_definitions.specs.Rows.{BuildCause}
use Rattle.schema_definitions.specs.BuildCauses.{IsCauseOf}
use Rattle.document_laws.specs.TargetLaws.{are_apart, contents_rise, by_reference}
use Rattle.reached_sites.specs.Passed.{AreWithin}
use Rattle.reached_sites.specs.Roots.{IsPlaced}
use Rattle.schema_registries.specs.Roots.{Root, Patterns, Finds, IsSound}
use Rattle.schema_registries.proofs.Found.{finds_one}
use Rattle.schema_registries.specs.Matched.{HoldsPatterns}
use Rattle.reading_laws.specs.Asked.{AreAmong}
use Rattle.schema_engine.specs.declared.node.Node.{Node}
use Rattle.compiled_keywords.specs.declared.keyword.Keyword.{Keyword}
use Rattle.compiled_graphs.specs.Linking.{IsCompiledAt}
use Rattle.schema_validators.specs.Counted.{IsWithin}
use Rattle.schema_validators.specs.Meant.{Means}

module _ (own : List Document) (base reference : List ℕ) (t : Target) (found : lookup own base reference ≡ Ok t)
    (apart : are_apart own ≡ true) (rise : list_all contents_rise own ≡ true) where
  abbrev here : Root
  here = record { documents = own; base = base; reference = reference; before = [] }

  placed : IsPlaced own t
  placed = record { apart = apart; rise = rise; target = by_reference base reference found }

  module _ (p : Patterns) where
    abbrev NoCause : Target → Type 0
    NoCause u = (c : BuildCause) → IsCauseOf own p.makes (root_site u) c → ⊥

    pub sound_there : (IsPlaced own t → NoCause t) → (r : Root) → here ≡ r → IsSound p r
    sound_there h r e = subst (IsSound p) e (record {
      found = ap is_ok found;
      right = λ u there. subst NoCause (finds_one here t u found there) (h placed);
    })

    pub within_there : (limit : ℕ) → (IsPlaced own t → AreWithin own p.makes (root_site t ∷ []) limit) → (r : Root) → here ≡ r → IsWithin p limit r
    within_there limit h r e = subst (IsWithin p limit) e
        (λ u there. subst (λ (v : Target). AreWithin own p.makes (root_site v ∷ []) limit) (finds_one here t u found there) (h placed))

    pub patterns_there : (patterns : List (List ℕ)) → (IsPlaced own t → AreAmong own p.makes (root_site t) patterns) → (r : Root) → here ≡ r → HoldsPatterns p r patterns
    patterns_there patterns h r e = subst (λ (x : Root). HoldsPatterns p x patterns) e
        (λ u there. subst (λ (v : Target). AreAmong own p.makes (root_site v) patterns) (finds_one here t u found there) (h placed))

    pub means_there : (nodes : List (Node Keyword)) (start : ℕ) → IsCompiledAt own p.makes nodes (root_site t) start → (r : Root) → here ≡ r → Means p r nodes start
    means_there nodes start h r e = subst (λ (x : Root). Means p x nodes start) e
        (λ u there. subst (λ (v : Target). IsCompiledAt own p.makes nodes (root_site v) start) (finds_one here t u found there) h)

abbrev root_from : List Document → List ℕ → List ℕ → Root
root_from own base reference = record { documents = own; base = base; reference = reference; before = [] }

pub one_root : {own other : List Document} {base other_base reference other_reference : List ℕ} → own ≡ other → base ≡ other_base → reference ≡ other_reference
    → root_from own base reference ≡ root_from other other_base other_reference
one_root d b r = rw (d, b, r) refl
