-- The rows of keywords that apply one schema, by what stands beside.
use Rattle.std.proofs.Common.{◌≡◌, ℕ, List, [], ◌∷◌, Bool, true, false, not, ◌&&◌, ◌||◌, codes, Option, Some, None, option_map, Bor, refl, sym, ap, ap₂, ◌∙◌}
use Rattle.std.specs.Prelude.{if◌then◌else◌, is_some, option_and_then, Ok, Err}
use Rattle.serde_json.specs.Data.{Data, null, boolean, number, string, array, object, Items}
use Rattle.serde_json.specs.Find.{as_bool}
use Rattle.serde_json.specs.View.{view}
use Rattle.serde_json.specs.declared.value.Value.{Value}
use Rattle.schema_definitions.specs.Places.{is_schema}
use Rattle.json_values.specs.Texts.{count_items}
use Rattle.schema_meaning.specs.Questions.{Declared}
use Rattle.schema_meaning.specs.Keywords.{Shape, items, item_list, additional_items, no_additional_items, additional_properties, no_additional_properties, no_properties, condition}
use Rattle.schema_definitions.specs.Sites.{Site}
use Rattle.schema_definitions.specs.Values.{count_of}
use Rattle.schema_definitions.specs.Rows.{Row, nothing_read, reads, bad_value, keyword_value, place_at, at, Context, beside, subschema, one_schema, schema_list, length_of_list, takes_list, items_row, is_false, behind_items, asserted, bound_row, names_of_object, declared_beside, is_alone, refuses_others, additional_properties_row, schema_beside, if_row, consequent_row}
use Rattle.applicators.specs.Shapes.{site_of, shape_of, leads_of, declared_by}
use Rattle.applicators.specs.Applied.{Applicator}
use Rattle.applicators.specs.Lent as beside_all
use Rattle.applicator_reading.specs.Beside.{schema_in, beside_in, declared_in, Surrounds}
use Rattle.applicator_reading.specs.Reads.{site_in, IsCause}
use Rattle.applicator_reading.specs.declared.neighbours.Neighbours.{Neighbours}
use Rattle.applicator_reading.proofs.RowLemmas.{if-true, if-false, one-read, value-cause, neighbour}

module _ (x : Context) (k : List ℕ) (d : Data) where
  -- ---- `items`

  abbrev items_shape : Site → List (Shape Site)
  items_shape s = items (length_of_list (beside x (codes "prefixItems"))) s ∷ []

  abbrev other_items : Row
  other_items = if takes_list x.site.dialect.draft then schema_list x k (codes "schema or list") (λ ss. item_list ss) d else bad_value x k (codes "schema")

  pub items-one : (start : ℕ) → is_schema d ≡ true → start ≡ length_of_list (beside x (codes "prefixItems")) → items_row x k d ≡ reads (site_in x (at k) d ∷ []) (items start (site_in x (at k) d) ∷ [])
  items-one start e is =
      if-true (is_schema d) (one_schema x k items_shape d) other_items e ∙ one-read x k items_shape d e ∙ ap (λ n. reads (site_in x (at k) d ∷ []) (items n (site_in x (at k) d) ∷ [])) (sym is)

  pub items-list : is_schema d ≡ false → takes_list x.site.dialect.draft ≡ true
      → items_row x k d ≡ schema_list x k (codes "schema or list") (λ ss. item_list ss) d
  items-list e takes =
      if-false (is_schema d) (one_schema x k items_shape d) other_items e
      ∙ if-true (takes_list x.site.dialect.draft) (schema_list x k (codes "schema or list") (λ ss. item_list ss) d) (bad_value x k (codes "schema")) takes

  pub items-refused : is_schema d ≡ false → takes_list x.site.dialect.draft ≡ false → IsCause (keyword_value (place_at x (at k)) (codes "schema")) (items_row x k d)
  items-refused e takes =
      value-cause x k (codes "schema") (items_row x k d)
      (if-false (is_schema d) (one_schema x k items_shape d) other_items e
      ∙ if-false (takes_list x.site.dialect.draft) (schema_list x k (codes "schema or list") (λ ss. item_list ss) d) (bad_value x k (codes "schema")) takes)

  -- ---- `additionalItems`

  abbrev pub behind_shape : ℕ → Site → List (Shape Site)
  behind_shape start s = (if is_false d then no_additional_items start s else additional_items start s) ∷ []

  pub behind-none : (o : Option Items) → None ≡ option_map (λ ds. count_items ds) o → behind_items x k d o ≡ nothing_read
  behind-none None e = refl
  behind-none (Some ds) e = cc

  pub behind-some : (o : Option Items) (start : ℕ) → Some start ≡ option_map (λ ds. count_items ds) o → behind_items x k d o ≡ one_schema x k (behind_shape start) d
  behind-some None start e = cc
  behind-some (Some ds) start e = let same : start ≡ count_items ds = cc in ap (λ n. one_schema x k (behind_shape n) d) (sym same)

  -- ---- `minContains` and `maxContains`

  pub bound-refused : is_some (beside x (codes "contains")) ≡ true → None ≡ count_of d → IsCause (keyword_value (place_at x (at k)) (codes "count")) (bound_row x k d)
  bound-refused there none =
      value-cause x k (codes "count") (bound_row x k d)
      (if-true (is_some (beside x (codes "contains"))) (asserted x k (codes "count") (λ n. []) (count_of d)) nothing_read there ∙ ap (asserted x k (codes "count") (λ n. [])) (sym none))

  -- ---- conditions

  abbrev pub condition_shape : Site → List (Shape Site)
  condition_shape s = condition s (schema_beside x (codes "then")) (schema_beside x (codes "else")) ∷ []

  pub condition-there : (is_some (beside x (codes "then")) || is_some (beside x (codes "else"))) ≡ true → if_row x k d ≡ one_schema x k condition_shape d
  condition-there e = if-true (is_some (beside x (codes "then")) || is_some (beside x (codes "else"))) (one_schema x k condition_shape d) nothing_read e

  pub condition-alone : (is_some (beside x (codes "then")) || is_some (beside x (codes "else"))) ≡ false → if_row x k d ≡ nothing_read
  condition-alone e = if-false (is_some (beside x (codes "then")) || is_some (beside x (codes "else"))) (one_schema x k condition_shape d) nothing_read e

  pub consequent-there : is_some (beside x (codes "if")) ≡ true → consequent_row x k d ≡ one_schema x k (λ s. []) d
  consequent-there e = if-true (is_some (beside x (codes "if"))) (one_schema x k (λ s. []) d) nothing_read e

  pub consequent-alone : is_some (beside x (codes "if")) ≡ false → consequent_row x k d ≡ nothing_read
  consequent-alone e = if-false (is_some (beside x (codes "if"))) (one_schema x k (λ s. []) d) nothing_read e

schema_step : (x : Context) (k : List ℕ) (d : Data) (b : Bool) → is_schema d ≡ b
    → elim (subschema x (at k) d) [ Ok s ↦ Some s | Err e ↦ None ] ≡ option_map (site_in x (at k)) (if b then Some d else None)
schema_step x k d true e = rw e refl
schema_step x k d false e = rw e refl

schema_found : (x : Context) (k : List ℕ) (o : Option Data) → option_and_then (λ d. elim (subschema x (at k) d) [ Ok s ↦ Some s | Err e ↦ None ]) o ≡ option_map (site_in x (at k)) (schema_in o)
schema_found x k None = refl
schema_found x k (Some d) = schema_step x k d (is_schema d) refl

lent : (x : Context) (k : List ℕ) (o : Option (Bor Value)) → option_map (site_in x (at k)) (option_map (λ v. view v.now) o) ≡ option_map (λ v. site_of (site_in x) k (view v.now)) o
lent x k None = refl
lent x k (Some v) = refl

pub schema-there : (x : Context) (k : List ℕ) (o : Option (Bor Value)) → option_map (λ v. view v.now) o ≡ schema_in (beside x k)
    → schema_beside x k ≡ option_map (λ v. site_of (site_in x) k (view v.now)) o
schema-there x k o e = schema_found x k (beside x k) ∙ ap (option_map (site_in x (at k))) (sym e) ∙ lent x k o

-- ---- `additionalProperties`

-- it is read as one schema where it is no boolean
pub others-row : (x : Context) (k : List ℕ) (d : Data) → None ≡ as_bool d → additional_properties_row x k d ≡ one_schema x k (λ s. additional_properties (declared_beside x) s ∷ []) d
others-row x k null e = refl
others-row x k (boolean b) e = cc
others-row x k (number n) e = refl
others-row x k (string s) e = refl
others-row x k (array ds) e = refl
others-row x k (object ms) e = refl

pub others-allowed : (x : Context) (k : List ℕ) (d : Data) → Some true ≡ as_bool d → additional_properties_row x k d ≡ nothing_read
others-allowed x k null e = cc
others-allowed x k (boolean true) e = refl
others-allowed x k (boolean false) e = cc
others-allowed x k (number n) e = cc
others-allowed x k (string s) e = cc
others-allowed x k (array ds) e = cc
others-allowed x k (object ms) e = cc

pub others-refused : (x : Context) (k : List ℕ) (d : Data) (a : Applicator) → Some false ≡ as_bool d → shape_of (site_in x) a ≡ refuses_others x (site_in x (at k) d)
    → leads_of (site_in x) a ≡ site_in x (at k) d ∷ [] → additional_properties_row x k d ≡ reads (leads_of (site_in x) a) (shape_of (site_in x) a ∷ [])
others-refused x k null a e shape leads = cc
others-refused x k (boolean true) a e shape leads = cc
others-refused x k (boolean false) a e shape leads = rw (shape, leads) refl
others-refused x k (number n) a e shape leads = cc
others-refused x k (string s) a e shape leads = cc
others-refused x k (array ds) a e shape leads = cc
others-refused x k (object ms) a e shape leads = cc

pub declared-there : (n : Neighbours) (x : Context) → Surrounds n x → declared_beside x ≡ declared_in n
declared-there n x s =
    ap₂ (λ (names patterns : List (List ℕ)). let w : Declared = record { names = names; patterns = patterns } in w)
    (ap names_of_object (neighbour n x s (codes "properties"))) (ap names_of_object (neighbour n x s (codes "patternProperties")))

pub alone-there : (n : Neighbours) (x : Context) → Surrounds n x → is_alone x ≡ (not (is_some (beside_in n (codes "properties"))) && not (is_some (beside_in n (codes "patternProperties"))))
alone-there n x s = ap₂ (λ (p q : Option Data). not (is_some p) && not (is_some q)) (neighbour n x s (codes "properties")) (neighbour n x s (codes "patternProperties"))

pub others-named : (x : Context) (s : Site) (declared : beside_all.Declared) → is_alone x ≡ false → declared_by declared ≡ declared_beside x
    → no_additional_properties (declared_by declared) s ≡ refuses_others x s
others-named x s declared some is =
    ap (λ (w : Declared). no_additional_properties w s) is ∙ sym (if-false (is_alone x) (no_properties s) (no_additional_properties (declared_beside x) s) some)

pub others-alone : (x : Context) (s : Site) → is_alone x ≡ true → no_properties s ≡ refuses_others x s
others-alone x s alone = sym (if-true (is_alone x) (no_properties s) (no_additional_properties (declared_beside x) s) alone)
