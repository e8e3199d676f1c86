-- The order is that of lists of tokens, each a type, a number and a text.
use Rattle.std.proofs.Common.{◌≡◌, ℕ, List, [], ◌∷◌, Bool, true, false, Option, Some, None, ℤ, pos, Ordering, Less, Equal, Greater, nat_cmp, refl, sym, ap, ◌∙◌}
use Rattle.std.proofs.lemmas.Cmp.{nat_cmp_total, int_cmp_total, nat_list_cmp_total, on_total, then_total, lists_total}
use Rattle.std.specs.Cmp.{IsTotalOrder}
use Rattle.std.specs.Cmp.Lexicographic.{slice_cmp}
use Rattle.std.specs.Ordering.{int_cmp, bool_cmp, ordering_then, ordering_reverse, on, then_cmp}
use Rattle.serde_json.specs.Data.{Data, null, boolean, number, string, array, object, Items, no_items, item, Members, no_members, member}
use Rattle.serde_json.specs.Find.{as_integer}
use Rattle.value_checks.specs.Order.{order, items_order, members_order, whole_order}

abbrev Token : Type 0
Token = ℕ × (ℤ × List ℕ)

abbrev tag : ℕ → Token
tag n = (n, (pos 0, []))

abbrev token_cmp : Token → Token → Ordering
token_cmp = then_cmp (on (λ x. x.0) nat_cmp) (then_cmp (on (λ x. x.1.0) int_cmp) (on (λ x. x.1.1) (slice_cmp nat_cmp)))

abbrev cmp : List Token → List Token → Ordering
cmp = slice_cmp token_cmp

tokens_total : IsTotalOrder cmp
tokens_total =
    lists_total (then_total (on_total (λ (x : Token). x.0) nat_cmp_total) (then_total (on_total (λ (x : Token). x.1.0) int_cmp_total) (on_total (λ (x : Token). x.1.1) nat_list_cmp_total)))

abbrev whole_token : Option ℤ → Token
whole_token None = tag 0
whole_token (Some z) = (1, (z, []))

abbrev bool_token : Bool → Token
bool_token false = tag 0
bool_token true = tag 1

-- the tokens of a value, before others
abbrev mutual
  key : Data → List Token → List Token
  key null r = tag 0 ∷ r
  key (boolean b) r = tag 1 ∷ bool_token b ∷ r
  key (number n) r = tag 2 ∷ whole_token (as_integer n) ∷ r
  key (string s) r = (3, (pos 0, s)) ∷ r
  key (array ds) r = tag 4 ∷ items_key ds r
  key (object ms) r = tag 5 ∷ members_key ms r

  items_key : Items → List Token → List Token
  items_key no_items r = tag 0 ∷ r
  items_key (item d ds) r = tag 1 ∷ key d (items_key ds r)

  members_key : Members → List Token → List Token
  members_key no_members r = tag 0 ∷ r
  members_key (member k d ms) r = (1, (pos 0, k)) ∷ key d (members_key ms r)

then_equal : (o : Ordering) → ordering_then o Equal ≡ o
then_equal Less = refl
then_equal Equal = refl
then_equal Greater = refl

then_assoc : (o p q : Ordering) → ordering_then o (ordering_then p q) ≡ ordering_then (ordering_then o p) q
then_assoc Less p q = refl
then_assoc Equal p q = refl
then_assoc Greater p q = refl

bools : (b c : Bool) (o : Ordering) → ordering_then (token_cmp (bool_token b) (bool_token c)) o ≡ ordering_then (bool_cmp b c) o
bools true true o = refl
bools true false o = refl
bools false true o = refl
bools false false o = refl

wholes : (y z : Option ℤ) (o : Ordering) → ordering_then (token_cmp (whole_token y) (whole_token z)) o ≡ ordering_then (whole_order y z) o
wholes None None o = refl
wholes None (Some z) o = refl
wholes (Some y) None o = refl
wholes (Some y) (Some z) o = ap (λ p. ordering_then p o) (then_equal (int_cmp y z))

mutual
  by_key : (d e : Data) (r s : List Token) → cmp (key d r) (key e s) ≡ ordering_then (order d e) (cmp r s)
  by_key null null r q = refl
  by_key null (boolean c) r q = refl
  by_key null (number n) r q = refl
  by_key null (string t) r q = refl
  by_key null (array es) r q = refl
  by_key null (object ns) r q = refl
  by_key (boolean b) null r q = refl
  by_key (boolean b) (boolean c) r q = bools b c (cmp r q)
  by_key (boolean b) (number n) r q = refl
  by_key (boolean b) (string t) r q = refl
  by_key (boolean b) (array es) r q = refl
  by_key (boolean b) (object ns) r q = refl
  by_key (number m) null r q = refl
  by_key (number m) (boolean c) r q = refl
  by_key (number m) (number n) r q = wholes (as_integer m) (as_integer n) (cmp r q)
  by_key (number m) (string t) r q = refl
  by_key (number m) (array es) r q = refl
  by_key (number m) (object ns) r q = refl
  by_key (string s) null r q = refl
  by_key (string s) (boolean c) r q = refl
  by_key (string s) (number n) r q = refl
  by_key (string s) (string t) r q = refl
  by_key (string s) (array es) r q = refl
  by_key (string s) (object ns) r q = refl
  by_key (array ds) null r q = refl
  by_key (array ds) (boolean c) r q = refl
  by_key (array ds) (number n) r q = refl
  by_key (array ds) (string t) r q = refl
  by_key (array ds) (array es) r q = by_items ds es r q
  by_key (array ds) (object ns) r q = refl
  by_key (object ms) null r q = refl
  by_key (object ms) (boolean c) r q = refl
  by_key (object ms) (number n) r q = refl
  by_key (object ms) (string t) r q = refl
  by_key (object ms) (array es) r q = refl
  by_key (object ms) (object ns) r q = by_members ms ns r q

  by_items : (ds es : Items) (r s : List Token) → cmp (items_key ds r) (items_key es s) ≡ ordering_then (items_order ds es) (cmp r s)
  by_items no_items no_items r q = refl
  by_items no_items (item e es) r q = refl
  by_items (item d ds) no_items r q = refl
  by_items (item d ds) (item e es) r q =
      by_key d e (items_key ds r) (items_key es q) ∙ ap (ordering_then (order d e)) (by_items ds es r q) ∙ then_assoc (order d e) (items_order ds es) (cmp r q)

  by_members : (ms ns : Members) (r s : List Token) → cmp (members_key ms r) (members_key ns s) ≡ ordering_then (members_order ms ns) (cmp r s)
  by_members no_members no_members r q = refl
  by_members no_members (member l e ns) r q = refl
  by_members (member k d ms) no_members r q = refl
  by_members (member k d ms) (member l e ns) r q =
      let names = slice_cmp nat_cmp k l in
      ap (ordering_then names) (by_key d e (members_key ms r) (members_key ns q) ∙ ap (ordering_then (order d e)) (by_members ms ns r q) ∙ then_assoc (order d e) (members_order ms ns) (cmp r q))
      ∙ then_assoc names (ordering_then (order d e) (members_order ms ns)) (cmp r q)

as_tokens : (d e : Data) → cmp (key d []) (key e []) ≡ order d e
as_tokens d e = by_key d e [] [] ∙ then_equal (order d e)

pub order_is_total : IsTotalOrder order
order_is_total =
    let t = on_total (λ d. key d []) tokens_total in
    record {
      antisymm = λ x y. sym (as_tokens x y) ∙ t.antisymm x y ∙ ap ordering_reverse (as_tokens y x);
      trans = λ x y z h g. sym (as_tokens x z) ∙ t.trans x y z (as_tokens x y ∙ h) (as_tokens y z ∙ g);
      congr = λ x y z h. sym (as_tokens x z) ∙ t.congr x y z (as_tokens x y ∙ h) ∙ as_tokens y z;
    }
