-- Lines of answers that are read.
use Rattle.std.proofs.Common.{◌≡◌, ◌<◌, ◌≤◌, ◌+◌, ◌∙◌, ℕ, List, [], ◌∷◌, ◌++◌, Bool, true, false, if◌then◌else◌, Option, Some, None, option_map, option_and_then, length, drop, drop_of_length-le, arith, ap, refl, sym, append-nil, append_assoc}
use Rattle.std.specs.List.{slice_index_or}
use Rattle.std.specs.Str.{is_utf8}
use Rattle.std.proofs.lemmas.List.{drop_more}
use Rattle.serde_json.specs.Data.{Data}
use Rattle.serde_json.specs.Read.{read}
use Rattle.serde_json.specs.View.{view, items_view}
use Rattle.serde_json.specs.declared.value.Value.{Value}
use Rattle.schema_registries.specs.Refused.{text_value}
use Rattle.answer_checks.specs.Paths.{Paths, path_among, path_in, paths_among}

pub value_there : (text : List ℕ) (d : Data) → is_utf8 text ≡ true → read text ≡ Some d → text_value text ≡ Some d
value_there text d valid e = ap (λ u. if u then read text else None) valid ∙ e

by_test : (b : Bool) (o : Option Data) → (b ≡ true → o ≡ None) → (if b then o else None) ≡ None
by_test true o h = h refl
by_test false o h = refl

pub value_none : (text : List ℕ) → (is_utf8 text ≡ true → read text ≡ None) → text_value text ≡ None
value_none text h = by_test (is_utf8 text) (read text) h

-- fewer than two items are no path, and more are none
pub path_few : (vs : List Value) → length vs < 2 → None ≡ path_among (items_view vs)
path_few [] few = refl
path_few (v ∷ []) few = refl
path_few (v ∷ w ∷ vs) few = absurd (omega arith)

pub path_many : (vs : List Value) → 2 < length vs → None ≡ path_among (items_view vs)
path_many [] many = absurd (omega arith)
path_many (v ∷ []) many = absurd (omega arith)
path_many (v ∷ w ∷ []) many = absurd (omega arith)
path_many (v ∷ w ∷ x ∷ vs) many = refl

in_front : (done rest : List Paths) (path : Paths) (o : Option (List Paths)) → option_map (λ ps. done ++ ps) (option_map (λ ps. path ∷ ps) o) ≡ option_map (λ ps. (done ++ path ∷ []) ++ ps) o
in_front done rest path None = refl
in_front done rest path (Some ps) = ap Some (sym (append_assoc done (path ∷ []) ps))

pub none_before : (o : Option (List Paths)) → o ≡ option_map (λ ps. [] ++ ps) o
none_before None = refl
none_before (Some ps) = refl

-- the paths so far, and those of the items that are left
abbrev pub SoFar : List Value → ℕ → List Paths → Type 0
SoFar vs i done = paths_among (items_view vs) ≡ option_map (λ ps. done ++ ps) (paths_among (items_view (drop i vs)))

module _ (vs : List Value) (i : ℕ) (v : Value) (within : i < length vs) (is : v ≡ slice_index_or vs i v) (done : List Paths) (h : SoFar vs i done) where
  next : paths_among (items_view (drop i vs)) ≡ option_and_then (λ path. option_map (λ ps. path ∷ ps) (paths_among (items_view (drop (i + 1) vs)))) (path_in (view v))
  next = ap (λ ws. paths_among (items_view ws)) (drop_more vs i v within ∙ ap (λ w. w ∷ drop (i + 1) vs) (sym is))

  pub one_more : (path : Paths) → Some path ≡ path_in (view v) → SoFar vs (i + 1) (done ++ path ∷ [])
  one_more path e =
      h ∙ ap (option_map (λ ps. done ++ ps)) (next ∙ ap (option_and_then (λ q. option_map (λ ps. q ∷ ps) (paths_among (items_view (drop (i + 1) vs))))) (sym e))
      ∙ in_front done [] path (paths_among (items_view (drop (i + 1) vs)))

  pub none_there : None ≡ path_in (view v) → None ≡ paths_among (items_view vs)
  none_there e =
      sym (h ∙ ap (option_map (λ ps. done ++ ps)) (next ∙ ap (option_and_then (λ q. option_map (λ ps. q ∷ ps) (paths_among (items_view (drop (i + 1) vs))))) (sym e)))

pub all_read : (vs : List Value) (i : ℕ) (done : List Paths) → length vs ≤ i → SoFar vs i done → Some done ≡ paths_among (items_view vs)
all_read vs i done past h =
    sym (h ∙ ap (λ ws. option_map (λ ps. done ++ ps) (paths_among (items_view ws))) (drop_of_length-le vs past) ∙ ap Some (append-nil done))
