-- A keyword reads only the matches that it asks for.
use Rattle.std.proofs.Common.{◌≡◌, ◌++◌, ◌||◌, ℕ, List, [], ◌∷◌, Bool, true, false, not, cond, map, refl, ap, ap₂}
use Rattle.std.specs.List.{flat_map, filter, list_any}
use Rattle.serde_json.specs.Data.{Data, null, boolean, number, string, array, object}
use Rattle.json_values.specs.Patterns.{matched}
use Rattle.schema_meaning.specs.Members.{In, first, later, is_listed}
use Rattle.schema_meaning.specs.Places.{to_member}
use Rattle.schema_meaning.specs.Faults.{AdditionalProperties, Pattern}
use Rattle.schema_meaning.specs.Questions.{question, at, at_name, members_of, Declared, other_members, each_member, each_matching}
use Rattle.schema_meaning.specs.Rules.{every, together, some_branch, one_branch}
use Rattle.schema_meaning.specs.Keywords.{Assertion, types, constant, enumeration, multiple_of, maximum, exclusive_maximum, minimum, exclusive_minimum, maximum_of_draft_4, minimum_of_draft_4, max_length, min_length, pattern, max_items, min_items, unique_items, max_properties, min_properties, required, dependent_required, Form, each_from, by_index, by_name, by_pattern, of_others, of_members, of_names, of_triggered, of_dependencies, of_branches, of_value, of_condition, Shape, never, asserts, asks_every, asks_together, asks_names, asks_some, asks_one, asks_no, contains, condition, reference, unless, wrong, named, asked, noted, kind_in, value_in, rule}
use Rattle.schema_meaning.specs.Matches.{with_names, asserted_matches, form_matches, match_sites, ReadAlike}
use Rattle.meaning_laws.specs.Laws.{RulesReadTheirMatches}
use Rattle.meaning_laws.proofs.Obliged.{in_map}

in_left : {A : Type 0} (x : A) (xs ys : List A) → In x xs → In x (xs ++ ys)
in_left x [] ys i = elim i [ ]
in_left x (y ∷ xs) ys first = first
in_left x (y ∷ xs) ys (later i) = later (in_left x xs ys i)

in_right : {A : Type 0} (x : A) (xs ys : List A) → In x ys → In x (xs ++ ys)
in_right x [] ys i = i
in_right x (y ∷ xs) ys i = later (in_right x xs ys i)

module _ (read other : List ℕ → List ℕ → Bool) where
  assertion_reads : (a : Assertion) (d : Data) → ReadAlike read other (asserted_matches a d) → wrong read a d ≡ wrong other a d
  assertion_reads (types ts) d h = refl
  assertion_reads (constant e) d h = refl
  assertion_reads (enumeration ds) d h = refl
  assertion_reads (multiple_of n) d h = refl
  assertion_reads (maximum z) d h = refl
  assertion_reads (exclusive_maximum z) d h = refl
  assertion_reads (minimum z) d h = refl
  assertion_reads (exclusive_minimum z) d h = refl
  assertion_reads (maximum_of_draft_4 z true) d h = refl
  assertion_reads (maximum_of_draft_4 z false) d h = refl
  assertion_reads (minimum_of_draft_4 z true) d h = refl
  assertion_reads (minimum_of_draft_4 z false) d h = refl
  assertion_reads (max_length n) d h = refl
  assertion_reads (min_length n) d h = refl
  assertion_reads (pattern p) null h = refl
  assertion_reads (pattern p) (boolean b) h = refl
  assertion_reads (pattern p) (number n) h = refl
  assertion_reads (pattern p) (string s) h = ap (λ b. unless b (Pattern p) (string s)) (h.same p s first)
  assertion_reads (pattern p) (array ds) h = refl
  assertion_reads (pattern p) (object ms) h = refl
  assertion_reads (max_items n) d h = refl
  assertion_reads (min_items n) d h = refl
  assertion_reads unique_items d h = refl
  assertion_reads (max_properties n) d h = refl
  assertion_reads (min_properties n) d h = refl
  assertion_reads (required names) d h = refl
  assertion_reads (dependent_required ps) d h = refl

  filter_same : {X : Type 0} (f g : X → Bool) (xs : List X) → ((x : X) → In x xs → f x ≡ g x) → filter f xs ≡ filter g xs
  filter_same f g [] h = refl
  filter_same f g (x ∷ xs) h = ap₂ (λ b ys. cond b (x ∷ ys) ys) (h x first) (filter_same f g xs (λ y i. h y (later i)))

  any_same : {X : Type 0} (f g : X → Bool) (xs : List X) → ((x : X) → In x xs → f x ≡ g x) → list_any f xs ≡ list_any g xs
  any_same f g [] h = refl
  any_same f g (x ∷ xs) h = ap₂ (λ b c. b || c) (h x first) (any_same f g xs (λ y i. h y (later i)))

  flat_same : {X Y : Type 0} (f g : X → List Y) (xs : List X) → ((x : X) → In x xs → f x ≡ g x) → flat_map f xs ≡ flat_map g xs
  flat_same f g [] h = refl
  flat_same f g (x ∷ xs) h = ap₂ (λ ys zs. ys ++ zs) (h x first) (flat_same f g xs (λ y i. h y (later i)))

  in_flat : {X Y : Type 0} (f : X → List Y) (xs : List X) (x : X) (y : Y) → In x xs → In y (f x) → In y (flat_map f xs)
  in_flat f [] x y i j = elim i [ ]
  in_flat f (z ∷ xs) x y first j = in_left y (f z) (flat_map f xs) j
  in_flat f (z ∷ xs) x y (later i) j = in_right y (f z) (flat_map f xs) (in_flat f xs x y i j)

  name_site : (d : Data) (p : List ℕ) (m : List ℕ × Data) → In m (members_of d) → In (p, m.0) (with_names d p)
  name_site d p m i = in_map (λ k. (p, k)) m.0 _ (in_map (λ (x : List ℕ × Data). x.0) m (members_of d) i)

  matching_reads : {S : Type 0} (keyword : List ℕ) (d : Data) (ps : List (List ℕ × S)) → ReadAlike read other (flat_map (λ p. with_names d p.0) ps)
      → each_matching read keyword d ps ≡ each_matching other keyword d ps
  matching_reads keyword d ps h =
      flat_same _ _ ps (λ p i. ap (λ ms. map (λ m. question p.1 (to_member m.0 m.1) (at_name keyword p.0)) ms)
      (filter_same (λ m. matched read p.0 m.0) (λ (m : List ℕ × Data). matched other p.0 m.0) (members_of d)
      (λ m j. h.same p.0 m.0 (in_flat (λ p. with_names d p.0) ps p (p.0, m.0) i (name_site d p.0 m j)))))

  others_read : (d : Data) (declared : Declared) → ReadAlike read other (flat_map (with_names d) declared.patterns) → other_members read declared d ≡ other_members other declared d
  others_read d declared h =
      filter_same _ _ (members_of d) (λ m j. ap (λ b. not (is_listed m.0 declared.names || b))
      (any_same (λ p. matched read p m.0) (λ (p : List ℕ). matched other p m.0) declared.patterns
      (λ p i. h.same p m.0 (in_flat (with_names d) declared.patterns p (p, m.0) i (name_site d p m j)))))

  form_asks : {S : Type 0} (keyword : List ℕ) (d : Data) (form : Form S) → ReadAlike read other (form_matches d form) → asked read keyword d form ≡ asked other keyword d form
  form_asks keyword d (each_from start s) h = refl
  form_asks keyword d (by_index ss) h = refl
  form_asks keyword d (by_name ps) h = refl
  form_asks keyword d (by_pattern ps) h = matching_reads keyword d ps h
  form_asks keyword d (of_others declared s) h = ap (each_member keyword s) (others_read d declared h)
  form_asks keyword d (of_members s) h = refl
  form_asks keyword d (of_names s) h = refl
  form_asks keyword d (of_triggered ps) h = refl
  form_asks keyword d (of_dependencies ps) h = refl
  form_asks keyword d (of_branches ss) h = refl
  form_asks keyword d (of_value schema s) h = refl
  form_asks keyword d (of_condition s t e) h = refl

  form_tells : {S : Type 0} (d : Data) (form : Form S) → ReadAlike read other (form_matches d form) → kind_in read form d ≡ kind_in other form d
  form_tells d (each_from start s) h = refl
  form_tells d (by_index ss) h = refl
  form_tells d (by_name ps) h = refl
  form_tells d (by_pattern ps) h = refl
  form_tells d (of_others declared s) h = ap (λ ms. AdditionalProperties (map (λ m. m.0) ms)) (others_read d declared h)
  form_tells d (of_members s) h = refl
  form_tells d (of_names s) h = refl
  form_tells d (of_triggered ps) h = refl
  form_tells d (of_dependencies ps) h = refl
  form_tells d (of_branches ss) h = refl
  form_tells d (of_value schema s) h = refl
  form_tells d (of_condition s t e) h = refl

  pub rule_reads : {S : Type 0} (d : Data) (k : Shape S) → ReadAlike read other (match_sites d k) → rule read d k ≡ rule other d k
  rule_reads d never h = refl
  rule_reads d (asserts a) h = ap (λ ns. every (at (named a)) ns []) (assertion_reads a d h)
  rule_reads d (asks_every keyword form) h = ap (every (at keyword) (noted form d)) (form_asks keyword d form h)
  rule_reads d (asks_together keyword form) h =
      ap₂ (λ kind qs. together (at keyword) (record { kind = kind; value = value_in form d }) qs) (form_tells d form h) (form_asks keyword d form h)
  rule_reads d (asks_names keyword s) h = refl
  rule_reads d (asks_some keyword form) h = ap (some_branch (at keyword)) (form_asks keyword d form h)
  rule_reads d (asks_one keyword form) h = ap (one_branch (at keyword)) (form_asks keyword d form h)
  rule_reads d (asks_no keyword schema s) h = refl
  rule_reads d (contains s least most) h = refl
  rule_reads d (condition s t e) h = refl
  rule_reads d (reference r s) h = refl

pub rules_read_their_matches : (S : Type 0) → RulesReadTheirMatches S
rules_read_their_matches S read other d k h = rule_reads read other d k h
