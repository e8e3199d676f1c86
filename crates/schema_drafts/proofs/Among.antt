-- The schemas among values, one by one.
use Rattle.std.proofs.Common.{◌≡◌, List, [], ◌∷◌, ◌++◌, Bool, true, false, true≢false, if◌then◌else◌, String, Global, refl, sym, ap}
use Rattle.std.specs.Map.{values_of}
use Rattle.serde_json.specs.Data.{Data}
use Rattle.serde_json.specs.View.{view, items_view, members_view}
use Rattle.serde_json.specs.declared.value.Value.{Value}
use Rattle.schema_drafts.specs.Children.{is_schema, if_schema, among_items, among_members}

kept : (b : Bool) (d : Data) (ds : List Data) → b ≡ true → (if b then d ∷ [] else []) ++ ds ≡ d ∷ ds
kept true d ds is = refl
kept false d ds is = absurd (true≢false (sym is))

passed : (b : Bool) (d : Data) (ds : List Data) → b ≡ false → (if b then d ∷ [] else []) ++ ds ≡ ds
passed true d ds is = absurd (true≢false is)
passed false d ds is = refl

pub first_kept : (v : Value) (vs : List Value) → is_schema (view v) ≡ true → among_items (items_view (v ∷ vs)) ≡ view v ∷ among_items (items_view vs)
first_kept v vs is = kept (is_schema (view v)) (view v) (among_items (items_view vs)) is

pub first_passed : (v : Value) (vs : List Value) → is_schema (view v) ≡ false → among_items (items_view (v ∷ vs)) ≡ among_items (items_view vs)
first_passed v vs is = passed (is_schema (view v)) (view v) (among_items (items_view vs)) is

-- the schemas among the members of an object are those among its values
pub among_values : (es : List (String Global × Value)) → among_items (items_view (values_of es)) ≡ among_members (members_view es)
among_values [] = refl
among_values (e ∷ es) = ap (λ ds. if_schema (view e.1) ++ ds) (among_values es)
