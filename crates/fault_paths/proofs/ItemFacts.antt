-- Items of a list in memory.
use Rattle.std.proofs.Common.{◌≡◌, ◌∙◌, ◌<◌, ◌^◌, ℕ, List, Option, Bool, true, false, None, Some, length, nat_lt, ltb-false, refl, sym, ap, subst, arith}
use Rattle.std.proofs.lemmas.Bool.Decides.{nat_tests}
use Rattle.serde_json.specs.Data.{Data, null, boolean, number, string, array, object, no_items}
use Rattle.serde_json.specs.Find.{at, get_item}
use Rattle.serde_json.specs.View.{items_view}
use Rattle.serde_json.specs.declared.value.Value.{Value}
use Rattle.serde_json.proofs.Views.{get_item_past}
use Rattle.schema_meaning.specs.Questions.{items_of}
use Rattle.fault_paths.specs.Found.{IsIndexed}

pub at_items : (n : ℕ) (d e : Data) → get_item n (items_of d) ≡ Some e → at n d ≡ Some e
at_items n null e g = (let no : None ≡ Some e = g in cc)
at_items n (boolean b) e g = (let no : None ≡ Some e = g in cc)
at_items n (number m) e g = (let no : None ≡ Some e = g in cc)
at_items n (string s) e g = (let no : None ≡ Some e = g in cc)
at_items n (array ds) e g = g
at_items n (object ms) e g = (let no : None ≡ Some e = g in cc)

pub items_at : (n : ℕ) (d e : Data) → at n d ≡ Some e → get_item n (items_of d) ≡ Some e
items_at n null e g = (let no : None ≡ Some e = g in cc)
items_at n (boolean b) e g = (let no : None ≡ Some e = g in cc)
items_at n (number m) e g = (let no : None ≡ Some e = g in cc)
items_at n (string s) e g = (let no : None ≡ Some e = g in cc)
items_at n (array ds) e g = g
items_at n (object ms) e g = (let no : None ≡ Some e = g in cc)

pub some_one : {A : Type 0} (o : Option A) (x y : A) → o ≡ Some x → o ≡ Some y → x ≡ y
some_one None x y e f = cc
some_one (Some z) x y e f = cc

-- an item's index is less than the length
pub item_short : (vs : List Value) (n : ℕ) (e : Data) → get_item n (items_view vs) ≡ Some e → n < length vs
item_short vs n e g = by (nat_lt n (length vs)) refl
  where
    by : (b : Bool) → nat_lt n (length vs) ≡ b → n < length vs
    by true h = grind (arith, nat_tests)
    by false h = absurd (let no : None ≡ Some e = get_item_past vs n (ltb-false n (length vs) h) ∙ g in cc)

pub at_short : (d : Data) (vs : List Value) (n : ℕ) (e : Data) → d ≡ array (items_view vs) → at n d ≡ Some e → n < length vs
at_short d vs n e is g = item_short vs n e (subst (λ c. at n c ≡ Some e) is g)

pub no_item : (d : Data) (n : ℕ) (e : Data) → items_of d ≡ no_items → at n d ≡ Some e → ⊥
no_item d n e none g =
    let no : None ≡ Some e = ap (get_item n) (sym none) ∙ items_at n d e g in cc

pub list_indexed : (d : Data) (vs : List Value) → d ≡ array (items_view vs) → length vs < 2 ^ 63 → IsIndexed d
list_indexed d vs is small = record { fits = λ n e g. let h = at_short d vs n e is g in omega (arith, h, small) }

pub other_indexed : (d : Data) → items_of d ≡ no_items → IsIndexed d
other_indexed d none = record { fits = λ n e g. absurd (no_item d n e none g) }
