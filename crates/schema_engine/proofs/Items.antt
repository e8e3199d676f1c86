-- The items of a list, asked one by one.
use Rattle.std.proofs.Common.{◌≡◌, ◌<◌, ◌≤◌, ◌+◌, ℕ, suc, List, ◌∷◌, true, false, map, drop, length, get_or, refl, sym, ap, ◌∙◌, subst, arith}
use Rattle.std.proofs.lemmas.List.{drop_more, drop_all}
use Rattle.serde_json.specs.Data.{Data, Items, no_items, item}
use Rattle.serde_json.specs.View.{view, items_view}
use Rattle.serde_json.specs.declared.value.Value.{Value}
use Rattle.schema_meaning.specs.Members.{first, later}
use Rattle.schema_meaning.specs.Questions.{each_item}
use Rattle.schema_meaning.specs.Readings.{Reading}
use Rattle.schema_engine.specs.declared.node.Node.{Node}
use Rattle.schema_engine.specs.declared.place.Place.{Place}
use Rattle.schema_engine.specs.Asking.{item_call, item_calls}
use Rattle.schema_engine.specs.Matches.{Matches}
use Rattle.schema_engine.specs.Questions.{call}
use Rattle.schema_engine.specs.Rules.{all_beside}
use Rattle.schema_engine.specs.Verdicts.{Setting, Fits, Tells, asked_in, MayAsk, EachMayAsk}

-- the questions of the items are those of the definitions, without the parts that they add to a road
pub calls_of_items : (keyword : List ℕ) (n i : ℕ) (ds : Items) → map (call true) (each_item keyword n i ds) ≡ item_calls n i ds
calls_of_items keyword n i no_items = refl
calls_of_items keyword n i (item d ds) = ap (λ cs. item_call n i d ∷ cs) (calls_of_items keyword n (suc i) ds)

one_more : (i : ℕ) → suc i ≡ i + 1
one_more i = omega arith

-- the first of those that are left
next_item : (n i : ℕ) (vs : List Value) (v : Value) → i < length vs → v ≡ get_or vs i v
    → item_calls n i (items_view (drop i vs)) ≡ item_call n i (view v) ∷ item_calls n (i + 1) (items_view (drop (i + 1) vs))
next_item n i vs v high is =
    ap (λ ws. item_calls n i (items_view ws)) (drop_more vs i v high ∙ ap (λ w. w ∷ drop (i + 1) vs) (sym is))
    ∙ ap (λ j. item_call n i (view v) ∷ item_calls n j (items_view (drop (i + 1) vs))) (one_more i)

module _ {K : Type 0} {m : Matches} (nodes : List (Node K)) (rank : ℕ) (d : Data) (n i : ℕ) (vs : List Value) (v : Value) (high : i < length vs) (is : v ≡ get_or vs i v) where
  asked_next : EachMayAsk m nodes rank d (item_calls n i (items_view (drop i vs))) → EachMayAsk m nodes rank d (item_call n i (view v) ∷ item_calls n (i + 1) (items_view (drop (i + 1) vs)))
  asked_next may = subst (EachMayAsk m nodes rank d) (next_item n i vs v high is) may

  pub may_ask_item : EachMayAsk m nodes rank d (item_calls n i (items_view (drop i vs))) → MayAsk m nodes rank d (item_call n i (view v))
  may_ask_item may = (asked_next may).each (item_call n i (view v)) first

  pub may_ask_items : EachMayAsk m nodes rank d (item_calls n i (items_view (drop i vs))) → EachMayAsk m nodes rank d (item_calls n (i + 1) (items_view (drop (i + 1) vs)))
  may_ask_items may = record { each = λ c j. (asked_next may).each c (later j) }

module _ (r : Reading ℕ) (p : Place) (progress : List ℕ) (enough n start : ℕ) (vs : List Value) where
  -- of all items, the rest decides
  pub record ItemsLeft (i : ℕ) : Type 0 where
    pub left : (x : Setting) → Fits p progress x → enough ≤ x.depth
        → all_beside (asked_in r x) true (item_calls n start (items_view (drop start vs))) ≡ all_beside (asked_in r x) true (item_calls n i (items_view (drop i vs)))

  pub items_begin : ItemsLeft start
  items_begin = record { left = λ x fits deep. refl }

  module _ (i : ℕ) (v : Value) (high : i < length vs) (is : v ≡ get_or vs i v) (before : ItemsLeft i) where
    to_next : (x : Setting) → Fits p progress x → enough ≤ x.depth
        → all_beside (asked_in r x) true (item_calls n start (items_view (drop start vs)))
        ≡ all_beside (asked_in r x) true (item_call n i (view v) ∷ item_calls n (i + 1) (items_view (drop (i + 1) vs)))
    to_next x fits deep = before.left x fits deep ∙ ap (all_beside (asked_in r x) true) (next_item n i vs v high is)

    pub items_yes : Tells p progress enough (λ x. asked_in r x (item_call n i (view v))) true → ItemsLeft (i + 1)
    items_yes taken = record { left = λ x fits deep. (let e = to_next x fits deep in e ∙ rw (sym (taken.same x fits deep)) refl) }

    pub items_no : Tells p progress enough (λ x. asked_in r x (item_call n i (view v))) false
        → Tells p progress enough (λ x. all_beside (asked_in r x) true (item_calls n start (items_view (drop start vs)))) false
    items_no refused = record { same = λ x fits deep. (let e = to_next x fits deep in sym (e ∙ rw (sym (refused.same x fits deep)) refl)) }

  pub items_end : (i : ℕ) → length vs ≤ i → ItemsLeft i → Tells p progress enough (λ x. all_beside (asked_in r x) true (item_calls n start (items_view (drop start vs)))) true
  items_end i all before = record {
    same = λ x fits deep. sym (before.left x fits deep ∙ ap (λ ws. all_beside (asked_in r x) true (item_calls n i (items_view ws))) (drop_all i vs all));
  }
