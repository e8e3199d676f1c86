-- Rows of keywords whose values are objects of schemas.
use Rattle.std.proofs.Common.{◌≡◌, ℕ, List, [], ◌∷◌, ◌++◌, Bool, true, false, codes, Some, None, refl, sym, ap, ap₂, ◌∙◌, subst}
use Rattle.std.specs.Prelude.{if◌then◌else◌, option_map}
use Rattle.serde_json.specs.Data.{Data, Members}
use Rattle.serde_json.specs.Find.{as_object}
use Rattle.json_values.specs.Parts.{name}
use Rattle.schema_definitions.specs.Words.{or}
use Rattle.schema_meaning.specs.Members.{In, first, later}
use Rattle.schema_definitions.specs.Rows.{Row, BuildCause, row_of, reads, bad_value, keyword_value, bad_pattern, place_at, at, Context, each_named, sites_named, is_made, member_names, names_of_object, patterns_wrong, with_causes, schema_map}
use Rattle.applicators.specs.Made.{is_made_by, patterns_in}
use Rattle.applicators.specs.Shapes.{sites_of_map, shape_of, leads_of}
use Rattle.applicators.specs.Applied.{Applicator}
use Rattle.applicator_reading.specs.Arms.{map_name, map_shape, map_row, map_patterns}
use Rattle.applicator_reading.specs.Others.{first_other_member}
use Rattle.applicator_reading.specs.Reads.{site_in, IsCause, AppliesAs}
use Rattle.applicator_reading.specs.declared.keyword.MapKeyword.{MapKeyword}
use Rattle.applicator_reading.specs.declared.keyword.MapKeyword.TheVariants.{Properties, PatternProperties, DependentSchemas}
use Rattle.applicator_reading.proofs.RowLemmas.{if-true, if-false, plainly, value-cause}
use Rattle.applicator_reading.proofs.ListLemmas.{object-there, no-object, in_front, row_refused, members_right, members_wrong}

-- ---- objects of schemas

abbrev by_members : MapKeyword → Context → Members → Row
by_members w x ms = row_of sites_named (λ ps. map_shape w ps ∷ []) (each_named x (map_name w) ms)

abbrev plain_row : MapKeyword → Context → Data → Row
plain_row w x d = schema_map x (map_name w) (map_shape w) d

module _ (w : MapKeyword) (x : Context) (d : Data) where
  plain-right : (ms : Members) (a : Applicator) → Some ms ≡ as_object d → None ≡ first_other_member ms → shape_of (site_in x) a ≡ map_shape w (sites_of_map (site_in x) (map_name w) ms)
      → leads_of (site_in x) a ≡ sites_named (sites_of_map (site_in x) (map_name w) ms) → plain_row w x d ≡ reads (leads_of (site_in x) a) (shape_of (site_in x) a ∷ [])
  plain-right ms a e none shape leads =
      object-there (by_members w x) (bad_value x (map_name w) (codes "object")) d ms e ∙ ap (row_of sites_named (λ ps. map_shape w ps ∷ [])) (members_right x (map_name w) ms (sym none))
      ∙ ap₂ reads (sym leads) (ap (λ s. s ∷ []) (sym shape))

  plain-wrong : (ms : Members) (n : List ℕ) → Some ms ≡ as_object d → Some n ≡ first_other_member ms
      → IsCause (keyword_value (place_at x (name n ∷ name (map_name w) ∷ [])) (codes "schema")) (plain_row w x d)
  plain-wrong ms n e other =
      subst (λ (row : Row). IsCause (keyword_value (place_at x (name n ∷ name (map_name w) ∷ [])) (codes "schema")) row) (sym (object-there (by_members w x) (bad_value x (map_name w) (codes "object")) d ms e))
      (row_refused sites_named (λ ps. map_shape w ps ∷ []) _ (each_named x (map_name w) ms) (members_wrong x (map_name w) n ms (sym other)))

  plain-other : None ≡ as_object d → IsCause (keyword_value (place_at x (at (map_name w))) (codes "object")) (plain_row w x d)
  plain-other e = value-cause x (map_name w) (codes "object") (plain_row w x d) (no-object (by_members w x) (bad_value x (map_name w) (codes "object")) d e)

-- ---- causes beside

none_wrong : (bs : List BuildCause) (row : Row) → bs ≡ [] → with_causes bs row ≡ row
none_wrong [] row e = refl
none_wrong (b ∷ bs) row e = cc

nothing_wrong : (bs : List BuildCause) (row : Row) → (with_causes bs row).causes ≡ [] → bs ≡ []
nothing_wrong [] row e = refl
nothing_wrong (b ∷ bs) row e = cc

in_back : {A : Type 0} (x : A) (xs ys : List A) → In x ys → In x (xs ++ ys)
in_back x [] ys h = h
in_back x (y ∷ xs) ys h = later (in_back x xs ys h)

wrong_told : (bs : List BuildCause) (row : Row) (cause : BuildCause) → In cause bs → In cause (with_causes bs row).causes
wrong_told [] row cause i = elim i [ ]
wrong_told (b ∷ bs) row cause i = in_front cause (b ∷ bs) row.causes i

still_wrong : (bs : List BuildCause) (row : Row) (cause : BuildCause) → IsCause cause row → IsCause cause (with_causes bs row)
still_wrong [] row cause h = h
still_wrong (b ∷ bs) row cause h = record { stands = in_back cause (b ∷ bs) row.causes h.stands; alone = refl }

-- ---- patterns that are made, and those that are refused

module _ (x : Context) (k : List ℕ) where
  abbrev bad_at : List ℕ → BuildCause
  bad_at p = bad_pattern (place_at x (name p ∷ name k ∷ []))

  all_made : (ps : List (List ℕ)) → ((p : List ℕ) → In p ps → is_made_by x.makes p ≡ true) → patterns_wrong x k ps ≡ []
  all_made [] h = refl
  all_made (p ∷ ps) h =
      ap₂ (λ (here rest : List BuildCause). here ++ rest) (if-true (is_made x p) [] (bad_at p ∷ []) (h p first)) (all_made ps (λ q i. h q (later i)))

  first_made : (p : List ℕ) (rest : List BuildCause) (b : Bool) → is_made x p ≡ b → (if b then [] else bad_at p ∷ []) ++ rest ≡ [] → is_made x p ≡ true
  first_made p rest true is e = is
  first_made p rest false is e = cc

  rest_made : (p : List ℕ) (rest : List BuildCause) (b : Bool) → (if b then [] else bad_at p ∷ []) ++ rest ≡ [] → rest ≡ []
  rest_made p rest true e = e
  rest_made p rest false e = cc

  each_made : (ps : List (List ℕ)) → patterns_wrong x k ps ≡ [] → (p : List ℕ) → In p ps → is_made_by x.makes p ≡ true
  each_made [] e p i = elim i [ ]
  each_made (q ∷ qs) e p first = first_made q (patterns_wrong x k qs) (is_made x q) refl e
  each_made (q ∷ qs) e p (later i) = each_made qs (rest_made q (patterns_wrong x k qs) (is_made x q) e) p i

  bad_told : (p : List ℕ) (ps : List (List ℕ)) → In p ps → is_made_by x.makes p ≡ false → In (bad_at p) (patterns_wrong x k ps)
  bad_told p [] i e = elim i [ ]
  bad_told p (q ∷ qs) first e =
      subst (λ (here : List BuildCause). In (bad_at q) (here ++ patterns_wrong x k qs)) (sym (if-false (is_made x q) [] (bad_at q ∷ []) e)) first
  bad_told p (q ∷ qs) (later i) e = in_back (bad_at p) (if is_made x q then [] else bad_at q ∷ []) (patterns_wrong x k qs) (bad_told p qs i e)

-- ---- the rows

module _ (x : Context) (d : Data) where
  abbrev patterns : List (List ℕ)
  patterns = names_of_object (Some d)

  abbrev wrong_there : List BuildCause
  wrong_there = patterns_wrong x (codes "patternProperties") patterns

  patterns-right : (ms : Members) (a : Applicator) → Some ms ≡ as_object d → patterns_in a ≡ member_names ms
      → plain_row PatternProperties x d ≡ reads (leads_of (site_in x) a) (shape_of (site_in x) a ∷ []) → AppliesAs x (codes "patternProperties") (map_row PatternProperties x d) a
  patterns-right ms a e its is =
      let k = codes "patternProperties" in
      let same : patterns_in a ≡ patterns = its ∙ ap (λ o. or [] (option_map member_names o)) e in
      record {
        made = λ m. none_wrong wrong_there (plain_row PatternProperties x d) (all_made x k patterns (λ p i. m.each p (subst (λ (ps : List (List ℕ)). In p ps) (sym same) i))) ∙ is;
        right = λ h. record { each = λ p i. each_made x k patterns (nothing_wrong wrong_there (plain_row PatternProperties x d) h) p (subst (λ (ps : List (List ℕ)). In p ps) same i) };
        bad = λ p i refused. wrong_told wrong_there (plain_row PatternProperties x d) _ (bad_told x k p patterns (subst (λ (ps : List (List ℕ)). In p ps) same i) refused);
      }

pub map-right : (w : MapKeyword) (x : Context) (d : Data) (ms : Members) (a : Applicator) → Some ms ≡ as_object d → None ≡ first_other_member ms
    → shape_of (site_in x) a ≡ map_shape w (sites_of_map (site_in x) (map_name w) ms) → leads_of (site_in x) a ≡ sites_named (sites_of_map (site_in x) (map_name w) ms)
    → patterns_in a ≡ map_patterns w ms → AppliesAs x (map_name w) (map_row w x d) a
map-right Properties x d ms a e none shape leads its = plainly x (codes "properties") _ a its (plain-right Properties x d ms a e none shape leads)
map-right PatternProperties x d ms a e none shape leads its = patterns-right x d ms a e its (plain-right PatternProperties x d ms a e none shape leads)
map-right DependentSchemas x d ms a e none shape leads its = plainly x (codes "dependentSchemas") _ a its (plain-right DependentSchemas x d ms a e none shape leads)

pub map-wrong : (w : MapKeyword) (x : Context) (d : Data) (ms : Members) (n : List ℕ) → Some ms ≡ as_object d → Some n ≡ first_other_member ms
    → IsCause (keyword_value (place_at x (name n ∷ name (map_name w) ∷ [])) (codes "schema")) (map_row w x d)
map-wrong Properties x d ms n e other = plain-wrong Properties x d ms n e other
map-wrong PatternProperties x d ms n e other = still_wrong (wrong_there x d) (plain_row PatternProperties x d) _ (plain-wrong PatternProperties x d ms n e other)
map-wrong DependentSchemas x d ms n e other = plain-wrong DependentSchemas x d ms n e other

pub map-other : (w : MapKeyword) (x : Context) (d : Data) → None ≡ as_object d → IsCause (keyword_value (place_at x (at (map_name w))) (codes "object")) (map_row w x d)
map-other Properties x d e = plain-other Properties x d e
map-other PatternProperties x d e = still_wrong (wrong_there x d) (plain_row PatternProperties x d) _ (plain-other PatternProperties x d e)
map-other DependentSchemas x d e = plain-other DependentSchemas x d e
