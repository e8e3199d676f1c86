-- Values that are the same are one, and a value whose numbers are whole is the same as itself.
use Rattle.std.proofs.Common.{◌≡◌, ℕ, ℤ, ◌==◌, ◌&&◌, List, Bool, true, false, bytes_eq, refl, sym, ap, ap₂, ◌∙◌}
use Rattle.std.specs.Cmp.{first_so, second_so}
use Rattle.std.specs.Ordering.{int_eq}
use Rattle.std.proofs.lemmas.Bool.{false≢true, or_parts}
use Rattle.std.proofs.lemmas.Bool.Decides.{Decides-eqb, Decides-int_eq}
use Rattle.std.proofs.lemmas.Slice.Eq.{bytes_eq-Decides}
use Rattle.serde_json.specs.Data.{Num, unsigned, negative, float, Data, null, boolean, number, string, array, object, Items, no_items, item, Members, no_members, member}
use Rattle.serde_json.specs.Find.{is_float}
use Rattle.serde_json.specs.Written.{has_float, items_have_float, members_have_float}
use Rattle.json_values.specs.Equality.{same_bool}
use Rattle.json_values.proofs.Names.{both}
use Rattle.error_kinds.specs.Values.{same_number, same_data, same_items, same_members}

bool_sound : (b c : Bool) → same_bool b c ≡ true → b ≡ c
bool_sound true c h = sym h
bool_sound false false h = refl
bool_sound false true h = absurd (false≢true h)

number_sound : (m n : Num) → same_number m n ≡ true → m ≡ n
number_sound (unsigned m) (unsigned n) h = ap unsigned ((Decides-eqb m n).0 h)
number_sound (negative y) (negative z) h = ap negative ((Decides-int_eq y z).0 h)
number_sound m n h = absurd (false≢true h)

mutual
  pub data_sound : (d e : Data) → same_data d e ≡ true → d ≡ e
  data_sound null null h = refl
  data_sound (boolean b) (boolean c) h = ap boolean (bool_sound b c h)
  data_sound (number m) (number n) h = ap number (number_sound m n h)
  data_sound (string s) (string t) h = ap string ((bytes_eq-Decides s t).0 h)
  data_sound (array ds) (array es) h = ap array (items_sound ds es h)
  data_sound (object ms) (object ns) h = ap object (members_sound ms ns h)
  data_sound d e h = absurd (false≢true h)

  pub items_sound : (ds es : Items) → same_items ds es ≡ true → ds ≡ es
  items_sound no_items no_items h = refl
  items_sound (item d ds) (item e es) h =
      ap₂ item (data_sound d e (first_so (same_data d e) (same_items ds es) h)) (items_sound ds es (second_so (same_data d e) (same_items ds es) h))
  items_sound ds es h = absurd (false≢true h)

  members_sound : (ms ns : Members) → same_members ms ns ≡ true → ms ≡ ns
  members_sound no_members no_members h = refl
  members_sound (member k d ms) (member l e ns) h =
      let here = first_so (bytes_eq k l && same_data d e) (same_members ms ns) h in
      let name = (bytes_eq-Decides k l).0 (first_so (bytes_eq k l) (same_data d e) here) in
      let value = data_sound d e (second_so (bytes_eq k l) (same_data d e) here) in
      let rest = members_sound ms ns (second_so (bytes_eq k l && same_data d e) (same_members ms ns) h) in
      ap (λ (n : List ℕ). member n d ms) name ∙ ap₂ (λ (x : Data) (xs : Members). member l x xs) value rest
  members_sound ms ns h = absurd (false≢true h)

pub int_itself : (z : ℤ) → int_eq z z ≡ true
int_itself z = (Decides-int_eq z z).1 refl

pub nat_itself : (n : ℕ) → (n == n) ≡ true
nat_itself n = (Decides-eqb n n).1 refl

pub bytes_itself : (s : List ℕ) → bytes_eq s s ≡ true
bytes_itself s = (bytes_eq-Decides s s).1 refl

bool_itself : (b : Bool) → same_bool b b ≡ true
bool_itself true = refl
bool_itself false = refl

number_itself : (n : Num) → is_float n ≡ false → same_number n n ≡ true
number_itself (unsigned n) h = nat_itself n
number_itself (negative z) h = int_itself z
number_itself (float x) h = absurd (false≢true (sym h))

mutual
  pub data_itself : (d : Data) → has_float d ≡ false → same_data d d ≡ true
  data_itself null h = refl
  data_itself (boolean b) h = bool_itself b
  data_itself (number n) h = number_itself n h
  data_itself (string s) h = bytes_itself s
  data_itself (array ds) h = items_itself ds h
  data_itself (object ms) h = members_itself ms h

  pub items_itself : (ds : Items) → items_have_float ds ≡ false → same_items ds ds ≡ true
  items_itself no_items h = refl
  items_itself (item d ds) h =
      let parts = or_parts (has_float d) (items_have_float ds) h in
      both (same_data d d) (same_items ds ds) (data_itself d parts.0) (items_itself ds parts.1)

  members_itself : (ms : Members) → members_have_float ms ≡ false → same_members ms ms ≡ true
  members_itself no_members h = refl
  members_itself (member k d ms) h =
      let parts = or_parts (has_float d) (members_have_float ms) h in
      both (bytes_eq k k && same_data d d) (same_members ms ms)
      (both (bytes_eq k k) (same_data d d) (bytes_itself k) (data_itself d parts.0))
      (members_itself ms parts.1)
