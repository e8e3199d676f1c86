-- What a keyword asks where that is simple.
use Rattle.std.specs.Prelude.{◌≡◌, ℕ, suc, List, [], ◌∷◌, map, drop, Bool, true, false, Option}
use Rattle.serde_json.specs.Data.{Data, Items, no_items, item}
use Rattle.serde_json.specs.View.{items_view}
use Rattle.schema_meaning.specs.Members.{count_true}
use Rattle.schema_meaning.specs.Places.{stay, to_item}
use Rattle.schema_meaning.specs.Rules.{Rule}
use Rattle.schema_engine.specs.declared.asking.Asking.{Asking}
use Rattle.schema_engine.specs.declared.asking.Asking.TheVariants as asking
use Rattle.schema_engine.specs.declared.combination.Combination.TheVariants as combination
use Rattle.schema_engine.specs.Questions.{Call}
use Rattle.schema_engine.specs.Rules.{combination_of, is_counted, questions_of}
use Rattle.schema_engine.specs.Together.{answered}

abbrev pub target_call : ℕ → Call
target_call n = record { node = n; step = stay; follows = true; beside = true }

abbrev pub item_call : ℕ → ℕ → Data → Call
item_call n i d = record { node = n; step = to_item i d; follows = false; beside = true }

-- each item by one node; the first has index i
abbrev pub item_calls : ℕ → ℕ → Items → List Call
item_calls n i no_items = []
item_calls n i (item d ds) = item_call n i d ∷ item_calls n (suc i) ds

-- the place itself by a node
abbrev pub branch_call : ℕ → Call
branch_call n = record { node = n; step = stay; follows = false; beside = true }

-- the rule asks these, and wants a yes of each
pub record AsksEach (k : Rule ℕ) (calls : List Call) : Type 0 where
  pub combination : combination_of k ≡ combination.Every
  pub questions : questions_of k ≡ calls

-- the rule asks these, and wants so many to be answered yes
pub record AsksCounted (k : Rule ℕ) (least : ℕ) (most : Option ℕ) (calls : List Call) : Type 0 where
  pub verdict : (ask : Call → Bool) → answered k ask ≡ is_counted least most (count_true (map ask calls))
  pub questions : questions_of k ≡ calls

abbrev pub AsksSo : Asking → Rule ℕ → Type 0
AsksSo asking.Nothing k = AsksEach k []
AsksSo (asking.Target n) k = AsksEach k (target_call n ∷ [])
AsksSo (asking.Items start n items) k = AsksEach k (item_calls n start (items_view (drop start items.now)))
AsksSo (asking.Each branches) k = AsksEach k (map branch_call branches.now)
AsksSo (asking.Counted branches least most) k = AsksCounted k least most (map branch_call branches.now)
AsksSo asking.Listed k = Unit {0}
