-- The matches that keywords ask for: a pattern with a text, or with a member's name.
use Rattle.std.specs.Prelude.{◌≡◌, ℕ, List, [], ◌∷◌, map, Bool}
use Rattle.std.specs.List.{flat_map}
use Rattle.serde_json.specs.Data.{Data, null, boolean, number, string, array, object}
use Rattle.json_values.specs.Patterns.{matched}
use Rattle.schema_meaning.specs.Members.{In}
use Rattle.schema_meaning.specs.Questions.{names_of}
use Rattle.schema_meaning.specs.Keywords.{Assertion, types, constant, enumeration, multiple_of, maximum, exclusive_maximum, minimum, exclusive_minimum, maximum_of_draft_4, minimum_of_draft_4, max_length, min_length, pattern, max_items, min_items, unique_items, max_properties, min_properties, required, dependent_required, Form, each_from, by_index, by_name, by_pattern, of_others, of_members, of_names, of_triggered, of_dependencies, of_branches, of_value, of_condition, Shape, never, asserts, asks_every, asks_together, asks_names, asks_some, asks_one, asks_no, contains, condition, reference}

abbrev pub of_text : List ℕ → Data → List (List ℕ × List ℕ)
of_text p null = []
of_text p (boolean b) = []
of_text p (number n) = []
of_text p (string s) = (p, s) ∷ []
of_text p (array ds) = []
of_text p (object ms) = []

-- a pattern with each name of the object
abbrev pub with_names : Data → List ℕ → List (List ℕ × List ℕ)
with_names d p = map (λ k. (p, k)) (names_of d)

abbrev pub asserted_matches : Assertion → Data → List (List ℕ × List ℕ)
asserted_matches (types ts) d = []
asserted_matches (constant e) d = []
asserted_matches (enumeration ds) d = []
asserted_matches (multiple_of n) d = []
asserted_matches (maximum z) d = []
asserted_matches (exclusive_maximum z) d = []
asserted_matches (minimum z) d = []
asserted_matches (exclusive_minimum z) d = []
asserted_matches (maximum_of_draft_4 z b) d = []
asserted_matches (minimum_of_draft_4 z b) d = []
asserted_matches (max_length n) d = []
asserted_matches (min_length n) d = []
asserted_matches (pattern p) d = of_text p d
asserted_matches (max_items n) d = []
asserted_matches (min_items n) d = []
asserted_matches unique_items d = []
asserted_matches (max_properties n) d = []
asserted_matches (min_properties n) d = []
asserted_matches (required names) d = []
asserted_matches (dependent_required ps) d = []

-- the matches that a form asks for at a value
abbrev pub form_matches : {S : Type 0} → Data → Form S → List (List ℕ × List ℕ)
form_matches d (each_from start s) = []
form_matches d (by_index ss) = []
form_matches d (by_name ps) = []
form_matches d (by_pattern ps) = flat_map (λ p. with_names d p.0) ps
form_matches d (of_others declared s) = flat_map (with_names d) declared.patterns
form_matches d (of_members s) = []
form_matches d (of_names s) = []
form_matches d (of_triggered ps) = []
form_matches d (of_dependencies ps) = []
form_matches d (of_branches ss) = []
form_matches d (of_value schema s) = []
form_matches d (of_condition s t e) = []

-- the matches that a keyword asks for at a value
abbrev pub match_sites : {S : Type 0} → Data → Shape S → List (List ℕ × List ℕ)
match_sites d never = []
match_sites d (asserts a) = asserted_matches a d
match_sites d (asks_every k form) = form_matches d form
match_sites d (asks_together k form) = form_matches d form
match_sites d (asks_names k s) = []
match_sites d (asks_some k form) = form_matches d form
match_sites d (asks_one k form) = form_matches d form
match_sites d (asks_no k schema s) = []
match_sites d (contains s least most) = []
match_sites d (condition s t e) = []
match_sites d (reference r s) = []

-- two ways to read matches that are the same at each of these
pub record ReadAlike (read other : List ℕ → List ℕ → Bool) (sites : List (List ℕ × List ℕ)) : Type 0 where
  pub same : (p t : List ℕ) → In (p, t) sites → matched read p t ≡ matched other p t
