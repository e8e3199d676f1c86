-- What a compiled keyword asks where that is simple.
use Rattle.std.proofs.Common.{◌≡◌, ◌∙◌, ℕ, suc, List, [], ◌∷◌, Bool, true, Option, Vec, Global, map, drop, refl, sym, ap}
use Rattle.serde_json.specs.Data.{Data, Items}
use Rattle.serde_json.specs.View.{items_view}
use Rattle.serde_json.specs.declared.value.Value.{Value}
use Rattle.schema_meaning.specs.Keywords.{rule}
use Rattle.schema_meaning.specs.Members.{count_true}
use Rattle.schema_meaning.specs.Questions.{items_of, items_from, each_item, each_branch}
use Rattle.schema_meaning.specs.Rules.{Rule}
use Rattle.schema_engine.specs.Asking.{AsksEach, AsksCounted, branch_call, item_calls, target_call}
use Rattle.schema_engine.specs.Questions.{Call, call}
use Rattle.schema_engine.specs.Rules.{combination_of, combined, is_counted, questions_of}
use Rattle.schema_engine.specs.declared.combination.Combination.{Combination}
use Rattle.schema_engine.proofs.Items.{calls_of_items}
use Rattle.applicators.specs.Forms.{shape_by}
use Rattle.compiled_keywords.specs.Applied.{name_of, combining_of, asks_of}
use Rattle.compiled_keywords.specs.Forms.{form_of, asked_beside}
use Rattle.compiled_keywords.specs.Rules.{combination_by}
use Rattle.compiled_keywords.specs.Shapes.{shape_of}
use Rattle.compiled_keywords.specs.declared.applicator.Applicator.{Applicator}
use Rattle.compiled_keywords.specs.declared.asks.Asks.{Asks}
use Rattle.compiled_keywords.specs.declared.asks.Asks.TheVariants as asking
use Rattle.compiled_keywords.specs.declared.keyword.Keyword.{Keyword}
use Rattle.compiled_keywords.specs.declared.keyword.Keyword.TheVariants as keyword
use Rattle.compiled_keywords.specs.declared.keyword.ReferenceKind.{ReferenceKind}
use Rattle.compiled_keywords.specs.declared.subschemas.ShownNode.{ShownNode}
use Rattle.compiled_keywords.proofs.PushLemmas.{drop_items}
use Rattle.compiled_keywords.proofs.RuleLemmas.{is_keyword, combination_so, beside_so}
use Rattle.compiled_keywords.proofs.SeenLemmas.{call_in, calls_so, calls_alone}

-- the questions of branches are those of the definitions, without the parts that they add to a road
calls_of_branches : (keyword : List ℕ) (i : ℕ) (ns : List ℕ) → map (call true) (each_branch keyword i ns) ≡ map branch_call ns
calls_of_branches keyword i [] = refl
calls_of_branches keyword i (n ∷ ns) = ap (λ cs. branch_call n ∷ cs) (calls_of_branches keyword (suc i) ns)

-- a rule of this combination counts its answers
pub counted_so : (k : Rule ℕ) (c : Combination) (least : ℕ) (most : Option ℕ) (calls : List Call)
    → ((ask : Call → Bool) → combined c ask calls ≡ is_counted least most (count_true (map ask calls)))
    → combination_of k ≡ c → questions_of k ≡ calls → AsksCounted k least most calls
counted_so k c least most calls counts by questions = record {
  verdict = λ ask. ap (λ j. combined j ask (questions_of k)) by ∙ ap (combined c ask) questions ∙ counts ask;
  questions = questions;
}

-- the items that are there
pub items_there : (node start : ℕ) (ds : Items) (vs : List Value) → items_view vs ≡ ds → item_calls node start (items_from start ds) ≡ item_calls node start (items_view (drop start vs))
items_there node start ds vs same = ap (λ es. item_calls node start (items_from start es)) (sym same) ∙ ap (item_calls node start) (drop_items start vs)

module _ (matches : List ℕ → List ℕ → Bool) (d : Data) where
  module _ (a : Applicator) where
    -- it combines as its name says
    pub combines_so : combination_of (rule matches d (shape_by (name_of a) (combining_of a) (form_of (asks_of a)))) ≡ combination_by (combining_of a) d
    combines_so = combination_so matches d (name_of a) (combining_of a) (form_of (asks_of a)) (is_keyword a)

    asks_this : (asks : Asks) → asks_of a ≡ asks
        → questions_of (rule matches d (shape_by (name_of a) (combining_of a) (form_of (asks_of a)))) ≡ map call_in (asked_beside matches (name_of a) d (form_of asks))
    asks_this asks is =
        sym (calls_so (rule matches d (shape_by (name_of a) (combining_of a) (form_of (asks_of a)))))
        ∙ ap (map call_in) (beside_so matches d (name_of a) (combining_of a) (form_of (asks_of a)) (is_keyword a))
        ∙ ap (λ asks. map call_in (asked_beside matches (name_of a) d (form_of asks))) is

    -- the place by each of some branches, and by one node
    pub branches_so : (nodes : Vec ℕ Global) → asks_of a ≡ asking.Branches nodes
        → questions_of (rule matches d (shape_by (name_of a) (combining_of a) (form_of (asks_of a)))) ≡ map branch_call nodes.items
    branches_so nodes is =
        asks_this (asking.Branches nodes) is ∙ calls_alone (each_branch (name_of a) 0 nodes.items) ∙ calls_of_branches (name_of a) 0 nodes.items

    -- each item from one on by one node
    pub items_so : (start node : ℕ) → asks_of a ≡ asking.ItemsFrom start node
        → questions_of (rule matches d (shape_by (name_of a) (combining_of a) (form_of (asks_of a)))) ≡ item_calls node start (items_from start (items_of d))
    items_so start node is =
        asks_this (asking.ItemsFrom start node) is
        ∙ calls_alone (each_item (name_of a) node start (items_from start (items_of d)))
        ∙ calls_of_items (name_of a) node start (items_from start (items_of d))

    pub value_so : (shown : ShownNode) → asks_of a ≡ asking.Value shown
        → questions_of (rule matches d (shape_by (name_of a) (combining_of a) (form_of (asks_of a)))) ≡ map branch_call (shown.node ∷ [])
    value_so shown is = asks_this (asking.Value shown) is

  -- the target of a reference
  pub target_so : (r : ReferenceKind) (node : ℕ) → AsksEach (rule matches d (shape_of (keyword.Reference r node))) (target_call node ∷ [])
  target_so r node = record { combination = refl; questions = refl }

  -- what only asserts asks nothing
  pub nothing_so : (k : Keyword) → ((a : Applicator) → k ≡ keyword.Applicator a → ⊥) → ((r : ReferenceKind) (node : ℕ) → k ≡ keyword.Reference r node → ⊥)
      → AsksEach (rule matches d (shape_of k)) []
  nothing_so keyword.Never not other = record { combination = refl; questions = refl }
  nothing_so (keyword.Assertion alloc a) not other = record { combination = refl; questions = refl }
  nothing_so (keyword.Pattern p) not other = record { combination = refl; questions = refl }
  nothing_so (keyword.Applicator a) not other = absurd (not a refl)
  nothing_so (keyword.Reference r node) not other = absurd (other r node refl)
