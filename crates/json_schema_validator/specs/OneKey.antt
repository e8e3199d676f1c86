-- Two sites of one compile key answer alike, where they are reached from what references lead to, in documents that can be told apart.
use Rattle.std.specs.Prelude.{◌≡◌, ℕ, List, [], Bool, true, false, option_map}
use Rattle.std.specs.List.{list_all}
use Rattle.json_values.specs.Parts.{Part}
use Rattle.schema_meaning.specs.Places.{Spot}
use Rattle.schema_meaning.specs.Readings.{verdicts, bags, unfolded}
use Rattle.schema_meaning.specs.Order.{SameOrOut}
use Rattle.schema_meaning.specs.Certificates.{Certificate}
use Rattle.schema_definitions.specs.Bearers.{Documents}
use Rattle.schema_definitions.specs.BuildCauses.{Reached}
use Rattle.schema_definitions.specs.CompileKeys.{dynamic_names, scope_key}
use Rattle.schema_definitions.specs.Lookup.{Target}
use Rattle.schema_definitions.specs.Plain.{plain}
use Rattle.schema_definitions.specs.Scopes.{recurs}
use Rattle.schema_definitions.specs.Sites.{Site}
use Rattle.document_laws.specs.TargetLaws.{are_apart, contents_rise, IsTarget}
use Rattle.linked_meanings.specs.Moved.{moved}
use Rattle.reading_laws.specs.Keys.{key_of_site}
use Rattle.reading_laws.specs.SiteLaws.{AreAlike}
use Rattle.reading_laws.specs.Spelled.{spelled}
use Rattle.schema_registries.specs.Roots.{site_behind}

-- a site that is reached from what a reference leads to, behind whatever resources were entered before
pub record IsSomewhere (docs : Documents) (makes : List ℕ → Bool) (s : Site) : Type 0 where
  pub before : List (List ℕ)
  pub root : Target
  pub is_target : IsTarget docs root
  pub reached : Reached docs makes (site_behind before root) s

-- of each value, at each depth, the same verdict, and the same faults up to order, with schema paths as pointers spell them
pub record TellTheSame (docs : Documents) (makes : List ℕ → Bool) (matches : List ℕ → List ℕ → Bool) (s t : Site) : Type 0 where
  pub verdict : (n : ℕ) (w : Spot) → unfolded verdicts (plain docs makes matches) n s w ≡ unfolded verdicts (plain docs makes matches) n t w
  pub faults : (n : ℕ) (w : Spot)
      → SameOrOut (option_map (moved spelled) (unfolded bags (plain docs makes matches) n s w)) (option_map (moved spelled) (unfolded bags (plain docs makes matches) n t w))
  pub certificates : (w : Spot) (i e : List Part) → Certificate (plain docs makes matches) s w i e → Certificate (plain docs makes matches) t w i e

abbrev pub OneKeyTellsTheSame : Type 0
OneKeyTellsTheSame = (docs : Documents) → are_apart docs ≡ true → list_all contents_rise docs ≡ true
    → (makes : List ℕ → Bool) (s t : Site) → IsSomewhere docs makes s → IsSomewhere docs makes t → key_of_site docs s ≡ key_of_site docs t
    → AreAlike docs s t × ((matches : List ℕ → List ℕ → Bool) → TellTheSame docs makes matches s t)

-- what was entered before tells no scopes apart, where no place is a dynamic anchor and the base says nothing recursive
abbrev pub OneKeyWithoutAnchors : Type 0
OneKeyWithoutAnchors = (docs : Documents) (base : List ℕ) (left right : List (List ℕ)) → dynamic_names docs ≡ [] → recurs docs base ≡ false
    → scope_key docs base left ≡ scope_key docs base right
