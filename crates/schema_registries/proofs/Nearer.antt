-- Going down to a number that is not whole.
use Rattle.std.proofs.Common.{◌≡◌, ◌∙◌, ◌<◌, ◌≤◌, ℕ, zero, suc, List, [], ◌∷◌, true, false, ◌&&◌, Some, None, Ordering, Less, Equal, Greater, nat_cmp, is_eq, arith, refl, ap, sym, subst, reverse, string_bytes}
use Rattle.std.proofs.lemmas.Map.Text.{is_eq-slice_cmp}
use Rattle.std.proofs.lemmas.Slice.Eq.{bytes_eq-Decides}
use Rattle.std.specs.Cmp.Lexicographic.{slice_cmp}
use Rattle.std.specs.Ordering.{match_ordering}
use Rattle.serde_json.proofs.Views.{Entry}
use Rattle.serde_json.specs.View.{view, members_view}
use Rattle.serde_json.specs.Data.{Data, null, boolean, number, string, array, object, Items, no_items, item, Members, no_members, member, depth, items_depth, members_depth}
use Rattle.serde_json.specs.Find.{get_member, get_item}
use Rattle.json_values.specs.Parts.{Part, name, index}
use Rattle.json_values.specs.Pointers.{value_in, value_at}
use Rattle.json_values.specs.Equality.{rises_from}
use Rattle.json_values.proofs.Names.{get_same}
use Rattle.json_values.proofs.Kept.{behind_none}
use Rattle.document_laws.proofs.Leading.{further}
use Rattle.json_values.specs.Rising.{are_rising}
use Rattle.schema_registries.proofs.Trees.{rest_rises}
use Rattle.schema_registries.specs.Whole.{only_whole, members_only_whole, IsNearer}

-- ---- what is found in a value is less deep

item_shallow : (i : ℕ) (ds : Items) (e : Data) → get_item i ds ≡ Some e → depth e ≤ items_depth ds
item_shallow i no_items e h = absurd cc
item_shallow zero (item d ds) e h =
    let same : d ≡ e = cc in
    let here : depth d ≤ items_depth (item d ds) = omega arith in
    subst (λ x. depth x ≤ items_depth (item d ds)) same here
item_shallow (suc i) (item d ds) e h = omega (arith, item_shallow i ds e h)

first_found : (o : Ordering) (k : List ℕ) (d : Data) (ms : Members) (e : Data) → match_ordering o (get_member k ms) (Some d) (get_member k ms) ≡ Some e
    → (get_member k ms ≡ Some e → depth e ≤ members_depth ms) → depth e ≤ members_depth (member k d ms)
first_found Less k d ms e h more = omega (arith, more h)
first_found Equal k d ms e h more =
    let same : d ≡ e = cc in
    let here : depth d ≤ members_depth (member k d ms) = omega arith in
    subst (λ x. depth x ≤ members_depth (member k d ms)) same here
first_found Greater k d ms e h more = omega (arith, more h)

member_shallow : (k : List ℕ) (ms : Members) (e : Data) → get_member k ms ≡ Some e → depth e ≤ members_depth ms
member_shallow k no_members e h = absurd cc
member_shallow k (member l d ms) e h = first_found (slice_cmp nat_cmp k l) k d ms e h (member_shallow k ms e)

pub part_shallow : (part : Part) (d e : Data) → value_in part d ≡ Some e → depth e < depth d
part_shallow (name k) null e h = absurd cc
part_shallow (name k) (boolean b) e h = absurd cc
part_shallow (name k) (number n) e h = absurd cc
part_shallow (name k) (string s) e h = absurd cc
part_shallow (name k) (array ds) e h = absurd cc
part_shallow (name k) (object ms) e h = omega (arith, member_shallow k ms e h)
part_shallow (index i) null e h = absurd cc
part_shallow (index i) (boolean b) e h = absurd cc
part_shallow (index i) (number n) e h = absurd cc
part_shallow (index i) (string s) e h = absurd cc
part_shallow (index i) (array ds) e h = omega (arith, item_shallow i ds e h)
part_shallow (index i) (object ms) e h = absurd cc

-- ---- members that are left of all

-- the number lies in the members that are left, and each of these is found among all
pub record Left (ms all : Members) : Type 0 where
  pub not_whole : members_only_whole ms ≡ false
  pub rising : are_rising ms ≡ true
  pub found : (k : List ℕ) (e : Data) → get_member k ms ≡ Some e → get_member k all ≡ Some e

pub left_at_first : (ms : Members) → members_only_whole ms ≡ false → are_rising ms ≡ true → Left ms ms
left_at_first ms h r = record { not_whole = h; rising = r; found = λ k e g. g }

-- a name behind is another than the first
behind : (o : Ordering) (k l : List ℕ) (d e : Data) (ms : Members) → slice_cmp nat_cmp k l ≡ o → rises_from l ms ≡ true → get_member k ms ≡ Some e
    → get_member k (member l d ms) ≡ Some e
behind Less k l d e ms is r h = rw is h
behind Greater k l d e ms is r h = rw is h
behind Equal k l d e ms is r h =
    let same : k ≡ l = (bytes_eq-Decides k l).0 (sym (is_eq-slice_cmp k l) ∙ ap is_eq is) in
    let none : get_member k ms ≡ None = ap (λ (n : List ℕ). get_member n ms) same ∙ behind_none l ms r in
    let no : None ≡ Some e = sym none ∙ h in absurd cc

rest_left : (k : List ℕ) (d : Data) (ms all : Members) → only_whole d ≡ true → Left (member k d ms) all → Left ms all
rest_left k d ms all h left = record {
  not_whole = ap (λ b. b && members_only_whole ms) (sym h) ∙ left.not_whole;
  rising = rest_rises k ms left.rising;
  found = λ l e g. left.found l e (behind (slice_cmp nat_cmp l k) l k d e ms refl left.rising g);
}

-- the same of a map's entries
pub left_behind : (es rest : List Entry) (e : Entry) (all : Members) → es ≡ e ∷ rest → only_whole (view e.1) ≡ true → Left (members_view es) all → Left (members_view rest) all
left_behind es rest e all is h left =
    rest_left (string_bytes e.0) (view e.1) (members_view rest) all h (subst (λ xs. Left (members_view xs) all) is left)

pub first_left : (es rest : List Entry) (e : Entry) (all : Members) → es ≡ e ∷ rest → Left (members_view es) all → get_member (string_bytes e.0) all ≡ Some (view e.1)
first_left es rest e all is left =
    let at : Left (member (string_bytes e.0) (view e.1) (members_view rest)) all = subst (λ xs. Left (members_view xs) all) is left in
    at.found (string_bytes e.0) (view e.1) (get_same (string_bytes e.0) (string_bytes e.0) (view e.1) (members_view rest) refl)

pub none_left : (es : List Entry) (all : Members) → es ≡ [] → Left (members_view es) all → ⊥
none_left es all is left =
    let at : Left no_members all = subst (λ xs. Left (members_view xs) all) is left in
    let no : true ≡ false = at.not_whole in cc

-- ---- one step down

pub step_leads : (whole d : Data) (path next : List Part) (inner : Data) → value_at (reverse path) whole ≡ Some d → IsNearer d path next inner
    → value_at (reverse next) whole ≡ Some inner
step_leads whole d path next inner h near =
    ap (λ p. value_at (reverse p) whole) near.further ∙ further whole d inner path near.part h near.leads

pub step_shallow : (d : Data) (path next : List Part) (inner : Data) → IsNearer d path next inner → depth inner < depth d
step_shallow d path next inner near = part_shallow near.part d inner near.leads
