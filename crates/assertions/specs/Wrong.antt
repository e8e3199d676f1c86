-- What is wrong with a value, as the code tells it.
use Rattle.std.specs.Prelude.{ℕ, ℤ, List, [], ◌∷◌, ◌++◌, map, Bool, true, false, Option, Some, None, option_and_then, if◌then◌else◌}
use Rattle.serde_json.specs.Data.{Data, Items, no_items, item, Members}
use Rattle.serde_json.specs.Find.{as_str, get_member}
use Rattle.serde_json.specs.View.{view, items_view}
use Rattle.schema_definitions.specs.Words.{listed}
use Rattle.schema_meaning.specs.Faults as told
use Rattle.schema_meaning.specs.Rules.{Note}
use Rattle.schema_meaning.specs.Keywords.{none_there}
use Rattle.json_values.specs.Numbers.{at_most, at_least, below, above}
use Rattle.assertions.specs.Named.{names_in}
use Rattle.assertions.specs.Shapes.{integer_of}
use Rattle.assertions.specs.declared.keyword.Count.{Count}
use Rattle.assertions.specs.declared.keyword.Count.TheVariants as count
use Rattle.assertions.specs.declared.keyword.Limit.{Limit}
use Rattle.assertions.specs.declared.keyword.Limit.TheVariants as side
use Rattle.assertions.specs.declared.assertion.Bound.{Bound}
use Rattle.assertions.specs.declared.assertion.Bound.TheVariants as bound
use Rattle.assertions.specs.declared.assertion.Wrong.{Wrong}
use Rattle.assertions.specs.declared.assertion.Wrong.TheVariants as wrong

-- the comparison of a bound
abbrev pub bound_test : Bound → ℤ → ℤ → Bool
bound_test bound.Maximum limit z = at_most limit z
bound_test bound.ExclusiveMaximum limit z = below limit z
bound_test bound.Minimum limit z = at_least limit z
bound_test bound.ExclusiveMinimum limit z = above limit z

abbrev pub bound_kind : Bound → ℤ → told.Kind
bound_kind bound.Maximum z = told.Maximum z
bound_kind bound.ExclusiveMaximum z = told.ExclusiveMaximum z
bound_kind bound.Minimum z = told.Minimum z
bound_kind bound.ExclusiveMinimum z = told.ExclusiveMinimum z

-- Draft 4's limit as a bound
abbrev pub old_bound : Limit → Bool → Bound
old_bound side.Maximum false = bound.Maximum
old_bound side.Maximum true = bound.ExclusiveMaximum
old_bound side.Minimum false = bound.Minimum
old_bound side.Minimum true = bound.ExclusiveMinimum

abbrev pub count_kind : Count → ℕ → told.Kind
count_kind count.MaxLength n = told.MaxLength n
count_kind count.MinLength n = told.MinLength n
count_kind count.MaxItems n = told.MaxItems n
count_kind count.MinItems n = told.MinItems n
count_kind count.MaxProperties n = told.MaxProperties n
count_kind count.MinProperties n = told.MinProperties n

abbrev pub kind_of : Wrong → told.Kind
kind_of (wrong.Types names) = told.Types (names_in names.now)
kind_of (wrong.Enumeration options) = told.Enumeration (items_view options.now)
kind_of (wrong.Constant expected) = told.Constant (view expected.now)
kind_of (wrong.MultipleOf divisor) = told.MultipleOf divisor.value
kind_of (wrong.Limit b limit) = bound_kind b (integer_of limit)
kind_of (wrong.Count c limit) = count_kind c limit
kind_of wrong.UniqueItems = told.UniqueItems
kind_of (wrong.Required name) = told.Required name.now

-- the notes that they stand for, of a value
abbrev pub note_of : Data → Wrong → Note
note_of d w = record { kind = kind_of w; value = d }

abbrev pub notes_of : Data → List Wrong → List Note
notes_of d ws = map (note_of d) ws

abbrev pub note_of_name : Data → List ℕ → Note
note_of_name d k = record { kind = told.Required k; value = d }

abbrev pub head : {A : Type 0} → List A → Option A
head [] = None
head (x ∷ xs) = Some x

-- a text that is no member's name
abbrev pub missing_of : Data → Members → Option (List ℕ)
missing_of d ms = option_and_then (λ k. if none_there (get_member k ms) then Some k else None) (as_str d)

-- the texts of a list that are no member's name
abbrev pub missing_in : Items → Members → List (List ℕ)
missing_in no_items ms = []
missing_in (item d ds) ms = listed (missing_of d ms) ++ missing_in ds ms
