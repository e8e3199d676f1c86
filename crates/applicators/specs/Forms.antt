-- What keywords ask of a value, over the places of their subschemas, and the shapes that they stand for.
use Rattle.std.specs.Prelude.{◌≡◌, ◌==◌, ℕ, List, Bool, true, false, ◌&&◌, codes, bytes_eq}
use Rattle.serde_json.specs.Data.{Data}
pub use Rattle.schema_meaning.specs.Keywords.{Form, each_from, by_index, by_name, by_pattern, of_others, of_members, of_names, of_triggered, of_dependencies, of_branches, of_value, of_condition, asked, noted, kind_in, value_in}
use Rattle.schema_meaning.specs.Rules.{asks}
use Rattle.schema_meaning.specs.Keywords.{rule, Shape, never, asks_every, asks_together, asks_names, asks_some, asks_one, asks_no, contains, condition}
use Rattle.applicators.specs.Combining.{Named, Combines}
use Rattle.applicators.specs.declared.combining.Combining.{Combining}
use Rattle.applicators.specs.declared.combining.Combining.TheVariants as code

-- the shape of a keyword of this name that combines and asks so
abbrev pub shape_by : {S : Type 0} → List ℕ → Combining → Form S → Shape S
shape_by k code.Every form = asks_every k form
shape_by k code.Together form = asks_together k form
shape_by k code.EachNamed (of_names s) = asks_names k s
shape_by k code.SomeBranch form = asks_some k form
shape_by k code.OneBranch form = asks_one k form
shape_by k code.Refusal (of_value schema s) = asks_no k schema s
shape_by k (code.Counted least most) (each_from start s) = contains s least most
shape_by k code.Conditional (of_condition s t e) = condition s t e
shape_by k combining form = never

-- whether each answer counts: that to a condition chooses among the others
abbrev pub counts_each : {S : Type 0} → Form S → Bool
counts_each (of_condition s t e) = false
counts_each form = true

-- of those, whether every answer may tell its own faults: names are no values
abbrev pub asks_each : {S : Type 0} → Form S → Bool
asks_each (of_names s) = false
asks_each (of_condition s t e) = false
asks_each form = true

-- whether one fault may speak for all: nothing is noted beside it
abbrev pub asks_all : {S : Type 0} → Form S → Bool
asks_all (of_dependencies ps) = false
asks_all (of_condition s t e) = false
asks_all form = true

-- whether the answers may be branches: the fault is of the value itself
abbrev pub asks_some_of : {S : Type 0} → Form S → Bool
asks_some_of (of_members s) = false
asks_some_of (of_names s) = false
asks_some_of (of_dependencies ps) = false
asks_some_of (of_condition s t e) = false
asks_some_of form = true

-- whether a keyword of this name combines and asks so: `contains` and `if` refuse under names of their own
abbrev pub stands : {S : Type 0} → List ℕ → Combining → Form S → Bool
stands k code.Every form = asks_each form
stands k code.Together form = asks_all form
stands k code.EachNamed (of_names s) = true
stands k code.SomeBranch form = asks_some_of form
stands k code.OneBranch form = asks_some_of form
stands k code.Refusal (of_value schema s) = true
stands k (code.Counted least most) (each_from start s) = bytes_eq k (codes "contains") && (start == 0)
stands k code.Conditional (of_condition s t e) = bytes_eq k (codes "if")
stands k combining form = false

-- what its rule at a value is made of beside its questions
abbrev pub named_in : {S : Type 0} → (List ℕ → List ℕ → Bool) → List ℕ → Form S → Data → Named
named_in matches k form d = record { name = k; notes = noted form d; note = record { kind = kind_in matches form d; value = value_in form d } }

-- the rule of that shape combines the answers to the keyword's questions so
pub record IsBuilt {S : Type 0} (matches : List ℕ → List ℕ → Bool) (d : Data) (c : Combining) (form : Form S) (k : List ℕ) : Type 0 where
  pub combined : Combines (named_in matches k form d) d c (rule matches d (shape_by k c form))
  pub asked : asks (rule matches d (shape_by k c form)) ≡ asked matches k d form
