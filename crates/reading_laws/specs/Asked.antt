-- The patterns of keywords, and what is known of the matches that they ask for.
use Rattle.std.specs.Prelude.{◌≡◌, ℕ, List, [], ◌∷◌, map, Bool, true, Option, Some}
use Rattle.serde_json.specs.Data.{Data}
use Rattle.json_values.specs.Patterns.{matched, known}
use Rattle.schema_meaning.specs.Members.{In, is_listed}
use Rattle.schema_meaning.specs.Places.{Spot, Key, whole}
use Rattle.schema_meaning.specs.Keywords.{Assertion, types, constant, enumeration, multiple_of, maximum, exclusive_maximum, minimum, exclusive_minimum, maximum_of_draft_4, minimum_of_draft_4, max_length, min_length, pattern, max_items, min_items, unique_items, max_properties, min_properties, required, dependent_required, Form, each_from, by_index, by_name, by_pattern, of_others, of_members, of_names, of_triggered, of_dependencies, of_branches, of_value, of_condition, Shape, never, asserts, asks_every, asks_together, asks_names, asks_some, asks_one, asks_no, contains, condition, reference}
use Rattle.schema_meaning.specs.Matches.{match_sites}
use Rattle.schema_meaning.specs.Circular.{Leads}
use Rattle.schema_definitions.specs.Bearers.{Documents}
use Rattle.schema_definitions.specs.Sites.{Site}
use Rattle.schema_definitions.specs.BuildCauses.{Reached}
use Rattle.schema_definitions.specs.Plain.{keywords_at, plain}
use Rattle.schema_patterns.specs.Texts.{texts_in}

abbrev pub pattern_in : Assertion → List (List ℕ)
pattern_in (types ts) = []
pattern_in (constant e) = []
pattern_in (enumeration ds) = []
pattern_in (multiple_of n) = []
pattern_in (maximum z) = []
pattern_in (exclusive_maximum z) = []
pattern_in (minimum z) = []
pattern_in (exclusive_minimum z) = []
pattern_in (maximum_of_draft_4 z b) = []
pattern_in (minimum_of_draft_4 z b) = []
pattern_in (max_length n) = []
pattern_in (min_length n) = []
pattern_in (pattern p) = p ∷ []
pattern_in (max_items n) = []
pattern_in (min_items n) = []
pattern_in unique_items = []
pattern_in (max_properties n) = []
pattern_in (min_properties n) = []
pattern_in (required names) = []
pattern_in (dependent_required ps) = []

-- the patterns of what is asked
abbrev pub patterns_in : {S : Type 0} → Form S → List (List ℕ)
patterns_in (each_from start s) = []
patterns_in (by_index ss) = []
patterns_in (by_name ps) = []
patterns_in (by_pattern ps) = map (λ p. p.0) ps
patterns_in (of_others declared s) = declared.patterns
patterns_in (of_members s) = []
patterns_in (of_names s) = []
patterns_in (of_triggered ps) = []
patterns_in (of_dependencies ps) = []
patterns_in (of_branches ss) = []
patterns_in (of_value schema s) = []
patterns_in (of_condition s t e) = []

-- the patterns of a keyword
abbrev pub patterns_of : {S : Type 0} → Shape S → List (List ℕ)
patterns_of never = []
patterns_of (asserts a) = pattern_in a
patterns_of (asks_every k form) = patterns_in form
patterns_of (asks_together k form) = patterns_in form
patterns_of (asks_names k s) = []
patterns_of (asks_some k form) = patterns_in form
patterns_of (asks_one k form) = patterns_in form
patterns_of (asks_no k schema s) = []
patterns_of (contains s least most) = []
patterns_of (condition s t e) = []
patterns_of (reference r s) = []

module _ (docs : Documents) (makes : List ℕ → Bool) (root : Site) where
  -- each pattern of a schema that is reached is among these
  pub record AreAmong (patterns : List (List ℕ)) : Type 0 where
    pub each : (s : Site) → Reached docs makes root s → (k : Shape Site) → In k (keywords_at docs makes s) → (p : List ℕ) → In p (patterns_of k) → is_listed p patterns ≡ true

  -- a match that a whole value asks for
  pub record IsAsked (matches : List ℕ → List ℕ → Bool) (d : Data) (p t : List ℕ) : Type 0 where
    pub keys : List Key
    pub site : Site
    pub spot : Spot
    pub chain : Leads (plain docs makes matches) root (whole d) keys site spot
    pub keyword : Shape Site
    pub stands : In keyword (keywords_at docs makes site)
    pub asked : In (p, t) (match_sites spot.value keyword)

  -- its schema is reached, its pattern is one of the keyword's, and its text is one of the value's
  pub record IsOf (s : Site) (k : Shape Site) (d : Data) (p t : List ℕ) : Type 0 where
    pub reached : Reached docs makes root s
    pub pattern : In p (patterns_of k)
    pub text : In t (texts_in d)

  -- every match that a value asks for is finished by a matcher, as `matches` says
  pub record AreFinished (finished : List ℕ → List ℕ → Option Bool) (matches : List ℕ → List ℕ → Bool) (d : Data) : Type 0 where
    pub each : (p t : List ℕ) → IsAsked matches d p t → known finished p t ≡ Some (matched matches p t)
