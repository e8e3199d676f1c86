-- Values inside a document: their paths are the document's, they nest no deeper, and where names rise they lie where their path says.
use Rattle.std.proofs.Common.{◌≡◌, ◌≤◌, ◌+◌, ℕ, zero, suc, List, [], ◌∷◌, true, inl, inr, Some, None, refl, sym, ap, ◌∙◌, subst, arith, reverse}
use Rattle.std.specs.Cmp.{first_so, second_so}
use Rattle.serde_json.specs.Data.{Data, null, boolean, number, string, array, object, Items, no_items, item, Members, no_members, member, depth, items_depth, members_depth}
use Rattle.serde_json.specs.Find.{get_member, get_item}
use Rattle.json_values.specs.Parts.{Part, name, index}
use Rattle.json_values.specs.Pointers.{value_at}
use Rattle.json_values.specs.Equality.{rises_from}
use Rattle.json_values.proofs.Names.{get_same, get_other, found_at}
use Rattle.json_values.proofs.Kept.{first_rise, behind_none}
use Rattle.schema_meaning.specs.Members.{In, first, later}
use Rattle.schema_definitions.specs.AllKeys.{paths_in, paths_of_items, paths_of_members}
use Rattle.json_values.specs.Rising.{rises, are_rising, items_rise, members_rise}
use Rattle.document_laws.proofs.Leading.{further}
use Rattle.document_laws.proofs.Listed.{in_first, in_second}

-- one of the members has this name and this value
pub data HoldsMember (k : List ℕ) (e : Data) : Members → Type 0 where
  here : {ms : Members} → HoldsMember k e (member k e ms)
  behind : {l : List ℕ} {d : Data} {ms : Members} → HoldsMember k e ms → HoldsMember k e (member l d ms)

pub held_found : (k : List ℕ) (e : Data) (ms : Members) → get_member k ms ≡ Some e → HoldsMember k e ms
held_found k e no_members g = (let no : None ≡ Some e = g in cc)
held_found k e (member l d ms) g =
    elim (found_at k l d ms e g) [
      | inl s ↦ subst (λ n. HoldsMember n e (member l d ms)) (sym s.0) (subst (λ x. HoldsMember l x (member l d ms)) s.1 here)
      | inr s ↦ behind (held_found k e ms s)
    ]

rising_rest : (k : List ℕ) (ms : Members) → rises_from k ms ≡ true → are_rising ms ≡ true
rising_rest k no_members h = refl
rising_rest k (member l e ms) h = (first_rise k l e ms h).1

apart : (k l : List ℕ) (ms : Members) (e : Data) → rises_from l ms ≡ true → get_member k ms ≡ Some e → k ≡ l → ⊥
apart k l ms e r h same =
    let none : get_member k ms ≡ None = ap (λ (n : List ℕ). get_member n ms) same ∙ behind_none l ms r in
    let no : None ≡ Some e = sym none ∙ h in cc

-- where names rise, a member is the one that its name finds
found_held : (k : List ℕ) (e : Data) (ms : Members) → are_rising ms ≡ true → HoldsMember k e ms → get_member k ms ≡ Some e
found_held k e no_members r h = elim h [ ]
found_held k e (member l d ms) r here = get_same k k e ms refl
found_held k e (member l d ms) r (behind h) =
    let g = found_held k e ms (rising_rest l ms r) h in
    get_other k l d ms (apart k l ms e r g) ∙ g

-- ---- paths

pub path_itself : (path : List Part) (d : Data) → In path (paths_in path d)
path_itself path null = first
path_itself path (boolean b) = first
path_itself path (number n) = first
path_itself path (string s) = first
path_itself path (array ds) = first
path_itself path (object ms) = first

item_paths : (path : List Part) (i : ℕ) (ds : Items) (n : ℕ) (e : Data) → get_item n ds ≡ Some e → (q : List Part) → In q (paths_in (index (n + i) ∷ path) e)
    → In q (paths_of_items path i ds)
item_paths path i no_items n e g q h = (let no : None ≡ Some e = g in cc)
item_paths path i (item d ds) zero e g q h =
    let same : 0 + i ≡ i = omega arith in
    let value : e ≡ d = cc in
    in_first q (paths_in (index i ∷ path) d) (paths_of_items path (suc i) ds)
    (subst (λ x. In q (paths_in (index i ∷ path) x)) value (subst (λ (k : ℕ). In q (paths_in (index k ∷ path) e)) same h))
item_paths path i (item d ds) (suc n) e g q h =
    let same : suc n + i ≡ n + suc i = omega arith in
    in_second q (paths_in (index i ∷ path) d) (paths_of_items path (suc i) ds)
    (item_paths path (suc i) ds n e g q (subst (λ (k : ℕ). In q (paths_in (index k ∷ path) e)) same h))

member_paths : (path : List Part) (k : List ℕ) (e : Data) (ms : Members) → HoldsMember k e ms → (q : List Part) → In q (paths_in (name k ∷ path) e)
    → In q (paths_of_members path ms)
member_paths path k e no_members g q h = elim g [ ]
member_paths path k e (member l d ms) here q h = in_first q (paths_in (name k ∷ path) e) (paths_of_members path ms) h
member_paths path k e (member l d ms) (behind g) q h = in_second q (paths_in (name l ∷ path) d) (paths_of_members path ms) (member_paths path k e ms g q h)

-- ---- depths

pub item_shallow : (ds : Items) (n : ℕ) (e : Data) → get_item n ds ≡ Some e → depth e ≤ items_depth ds
item_shallow no_items n e g = (let no : None ≡ Some e = g in cc)
item_shallow (item d ds) zero e g =
    let value : d ≡ e = cc in
    let same : depth d ≡ depth e = ap depth value in
    omega (arith, same)
item_shallow (item d ds) (suc n) e g = omega (arith, item_shallow ds n e g)

pub member_shallow : (k : List ℕ) (e : Data) (ms : Members) → HoldsMember k e ms → depth e ≤ members_depth ms
member_shallow k e no_members g = elim g [ ]
member_shallow k e (member l d ms) here = omega arith
member_shallow k e (member l d ms) (behind g) = omega (arith, member_shallow k e ms g)

-- ---- names that rise

item_rises : (ds : Items) (n : ℕ) (e : Data) → get_item n ds ≡ Some e → items_rise ds ≡ true → rises e ≡ true
item_rises no_items n e g r = (let no : None ≡ Some e = g in cc)
item_rises (item d ds) zero e g r =
    let value : e ≡ d = cc in
    ap rises value ∙ first_so (rises d) (items_rise ds) r
item_rises (item d ds) (suc n) e g r = item_rises ds n e g (second_so (rises d) (items_rise ds) r)

member_rises : (k : List ℕ) (e : Data) (ms : Members) → HoldsMember k e ms → members_rise ms ≡ true → rises e ≡ true
member_rises k e no_members g r = elim g [ ]
member_rises k e (member l d ms) here r = first_so (rises d) (members_rise ms) r
member_rises k e (member l d ms) (behind g) r = member_rises k e ms g (second_so (rises d) (members_rise ms) r)

-- ---- a value at a path inside a whole

pub record Inside (whole : Data) (path : List Part) (e : Data) : Type 0 where
  pub listed : (q : List Part) → In q (paths_in path e) → In q (paths_in [] whole)
  pub shallow : depth e ≤ depth whole
  pub rising : rises whole ≡ true → rises e ≡ true
  pub leads : rises whole ≡ true → value_at (reverse path) whole ≡ Some e

pub itself : (whole : Data) → Inside whole [] whole
itself whole = record { listed = λ q h. h; shallow = omega arith; rising = λ r. r; leads = λ r. refl }

pub item_inside : (whole : Data) (path : List Part) (ds : Items) (n : ℕ) (e : Data) → Inside whole path (array ds) → get_item n ds ≡ Some e
    → Inside whole (index n ∷ path) e
item_inside whole path ds n e i g =
    let same : n ≡ n + 0 = omega arith in
    record {
      listed = λ q h. i.listed q (later (item_paths path 0 ds n e g q (subst (λ (k : ℕ). In q (paths_in (index k ∷ path) e)) same h)));
      shallow = (let s = item_shallow ds n e g in let t = i.shallow in omega (arith, s, t));
      rising = λ r. item_rises ds n e g (i.rising r);
      leads = λ r. further whole (array ds) e path (index n) (i.leads r) g;
    }

pub member_inside : (whole : Data) (path : List Part) (ms : Members) (k : List ℕ) (e : Data) → Inside whole path (object ms) → HoldsMember k e ms
    → Inside whole (name k ∷ path) e
member_inside whole path ms k e i g = record {
  listed = λ q h. i.listed q (later (member_paths path k e ms g q h));
  shallow = (let s = member_shallow k e ms g in let t = i.shallow in omega (arith, s, t));
  rising = λ r. member_rises k e ms g (second_so (are_rising ms) (members_rise ms) (i.rising r));
  leads = λ r. further whole (object ms) e path (name k) (i.leads r) (found_held k e ms (first_so (are_rising ms) (members_rise ms) (i.rising r)) g);
}
