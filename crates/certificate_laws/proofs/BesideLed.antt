-- What stands beside an `if` is led to by its own keyword.
use Rattle.std.proofs.Common.{◌≡◌, ◌∙◌, ℕ, List, [], ◌∷◌, Bool, true, false, codes, nat_cmp, Option, Some, None, Result, Ok, Err, is_some, ◌||◌, Ordering, Less, Equal, Greater, is_eq, refl, sym, ap, subst}
use Rattle.std.specs.Prelude.{if◌then◌else◌, option_and_then}
use Rattle.std.specs.Cmp.Lexicographic.{slice_cmp}
use Rattle.std.specs.List.{AllByRecursion}
use Rattle.std.specs.Ordering.{match_ordering}
use Rattle.std.proofs.lemmas.Map.Text.{is_eq-slice_cmp}
use Rattle.std.proofs.lemmas.Slice.Eq.{bytes_eq-Decides}
use Rattle.serde_json.specs.Data.{Data, Members, no_members, member}
use Rattle.serde_json.specs.Find.{get_member}
use Rattle.schema_meaning.specs.Members.{In, first, later}
use Rattle.schema_meaning.specs.Questions.{listed_members}
use Rattle.schema_meaning.specs.Keywords.{Shape, condition}
use Rattle.schema_definitions.specs.Sites.{Site}
use Rattle.schema_definitions.specs.Rows.{BuildCause, Row, nothing_read, reads, Context, counts_here, beside, at, subschema, row_of, one_schema, schema_beside, consequent_row, readers, read_among, row_at, is_draft_4}
use Rattle.certificate_laws.specs.Words.{IsUnder}
use Rattle.certificate_laws.proofs.Named.{shapes_are_under}

-- ---- members by their names

found_after : (o : Ordering) (k l : List ℕ) (d e : Data) (ms : Members) → slice_cmp nat_cmp k l ≡ o → (get_member k ms ≡ Some d → In (k, d) (listed_members ms))
    → match_ordering o (get_member k ms) (Some e) (get_member k ms) ≡ Some d → In (k, d) (listed_members (member l e ms))
found_after Less k l d e ms is rest found = later (rest found)
found_after Equal k l d e ms is rest found =
    let same : k ≡ l = (bytes_eq-Decides k l).0 (sym (is_eq-slice_cmp k l) ∙ ap is_eq is) in
    let value : e ≡ d = cc in
    subst (λ n. In (n, d) (listed_members (member l e ms))) (sym same) (subst (λ f. In (l, f) (listed_members (member l e ms))) value first)
found_after Greater k l d e ms is rest found = later (rest found)

-- a member that is found is one of the object's
pub found_among : (k : List ℕ) (d : Data) (ms : Members) → get_member k ms ≡ Some d → In (k, d) (listed_members ms)
found_among k d no_members found = absurd (cc)
found_among k d (member l e ms) found = found_after (slice_cmp nat_cmp k l) k l d e ms refl (λ f. found_among k d ms f) found

self_there : (k : List ℕ) (d : Data) (ms : Members) → is_some (get_member k (member k d ms)) ≡ true
self_there k d ms = by (slice_cmp nat_cmp k k) refl
  where
    by : (o : Ordering) → slice_cmp nat_cmp k k ≡ o → is_some (match_ordering o (get_member k ms) (Some d) (get_member k ms)) ≡ true
    by Less is = absurd (cc (is_eq-slice_cmp k k, (bytes_eq-Decides k k).1 refl, ap is_eq is))
    by Equal is = refl
    by Greater is = absurd (cc (is_eq-slice_cmp k k, (bytes_eq-Decides k k).1 refl, ap is_eq is))

-- one of them is found under its name
pub stands_among : (k : List ℕ) (d : Data) (ms : Members) → In (k, d) (listed_members ms) → is_some (get_member k ms) ≡ true
stands_among k d no_members i = elim i [ ]
stands_among k d (member _ _ ms) first = self_there k d ms
stands_among k d (member l e ms) (later i) = by (slice_cmp nat_cmp k l) (stands_among k d ms i)
  where
    by : (o : Ordering) → is_some (get_member k ms) ≡ true → is_some (match_ordering o (get_member k ms) (Some e) (get_member k ms)) ≡ true
    by Less rest = rest
    by Equal rest = refl
    by Greater rest = rest

-- ---- the member is `if`

-- a member whose shape is a condition
pub record IsChoice (x : Context) (k : List ℕ) (d : Data) (s : Site) (t e : Option Site) : Type 0 where
  pub listed : In (k, d) (listed_members x.members)
  pub row : row_at x k d ≡ reads (s ∷ []) (condition s t e ∷ [])

pub choice_name : (x : Context) (k : List ℕ) (d : Data) (s : Site) (t e : Option Site) → IsChoice x k d s t e → codes "if" ≡ k
choice_name x k d s t e c =
    let under = subst (λ (r : Row). AllByRecursion (IsUnder (is_draft_4 x.site.dialect.draft) k) r.shapes) c.row (shapes_are_under x k d) in
    (under.0.back (codes "if") first).of_member

-- what its row says of what stands beside
record Beside (x : Context) (t e : Option Site) : Type 0 where
  counts : counts_here x (codes "if") ≡ true
  then_is : schema_beside x (codes "then") ≡ t
  else_is : schema_beside x (codes "else") ≡ e

none_is_one : {A : Type 0} (k : A) → [] ≡ k ∷ [] → ⊥
none_is_one k h = absurd (cc)

record Same (s u : Site) (t e f g : Option Site) : Type 0 where
  chosen : t ≡ f
  other : e ≡ g

same_choice : (s u : Site) (t e f g : Option Site) (rest others : List (Shape Site)) → condition s t e ∷ rest ≡ condition u f g ∷ others → Same s u t e f g
same_choice s u t e f g rest others h = record { chosen = cc; other = cc }

abbrev shapes_in : Row → List (Shape Site)
shapes_in r = r.shapes

beside_by : (x : Context) (t e t_there e_there : Option Site) (s : Site) (b c : Bool) (r : Result Site (List BuildCause)) → counts_here x (codes "if") ≡ b
    → schema_beside x (codes "then") ≡ t_there → schema_beside x (codes "else") ≡ e_there
    → (if b then (if c then row_of (λ s. s ∷ []) (λ s. condition s t_there e_there ∷ []) r else nothing_read) else nothing_read) ≡ reads (s ∷ []) (condition s t e ∷ [])
    → Beside x t e
beside_by x t e f g s true true (Ok u) counts f_is g_is h =
    let same = same_choice u s f g t e [] [] (ap shapes_in h) in
    record { counts = counts; then_is = f_is ∙ same.chosen; else_is = g_is ∙ same.other }
beside_by x t e f g s true true (Err causes) counts f_is g_is h = absurd (none_is_one (condition s t e) (ap shapes_in h))
beside_by x t e f g s true false r counts f_is g_is h = absurd (none_is_one (condition s t e) (ap shapes_in h))
beside_by x t e f g s false c r counts f_is g_is h = absurd (none_is_one (condition s t e) (ap shapes_in h))

beside_of : (x : Context) (d : Data) (s : Site) (t e : Option Site) → row_at x (codes "if") d ≡ reads (s ∷ []) (condition s t e ∷ []) → Beside x t e
beside_of x d s t e is =
    beside_by x t e (schema_beside x (codes "then")) (schema_beside x (codes "else")) s (counts_here x (codes "if")) (is_some (beside x (codes "then")) || is_some (beside x (codes "else")))
    (subschema x (at (codes "if")) d) refl refl refl is

-- ---- what leads to the schemas beside

-- a member whose keyword leads to the site
pub record LedBy (x : Context) (t : Site) : Type 0 where
  pub name : List ℕ
  pub value : Data
  pub listed : In (name, value) (listed_members x.members)
  pub leads : In t (row_at x name value).leads

abbrev if_ok : Result Site (List BuildCause) → Option Site
if_ok r = elim r [ Ok s ↦ Some s | Err e ↦ None ]

led_by : (r : Result Site (List BuildCause)) (row : Row) (t : Site) → row ≡ row_of (λ s. s ∷ []) (λ s. []) r → if_ok r ≡ Some t → In t row.leads
led_by (Ok s) row t e is = let same : s ≡ t = cc in subst (λ (w : Row). In t w.leads) (sym e) (subst (λ (u : Site). In t (u ∷ [])) (sym same) first)
led_by (Err causes) row t e is = absurd (cc)

beside_led : (x : Context) (key : List ℕ) (t : Site) → ((d : Data) → read_among readers x key d ≡ consequent_row x key d) → is_some (beside x (codes "if")) ≡ true
    → (b : Bool) → counts_here x key ≡ b → (o : Option Data) → get_member key x.members ≡ o
    → option_and_then (λ d. if_ok (subschema x (at key) d)) (if b then o else None) ≡ Some t → LedBy x t
beside_led x key t reads there false counts o is found = absurd (cc)
beside_led x key t reads there true counts None is found = absurd (cc)
beside_led x key t reads there true counts (Some d) is found = record {
  name = key;
  value = d;
  listed = found_among key d x.members is;
  leads =
      led_by (subschema x (at key) d) (row_at x key d) t
      (ap (λ b. if b then read_among readers x key d else nothing_read) counts
      ∙ reads d
      ∙ ap (λ b. if b then one_schema x key (λ s. []) d else nothing_read) there) found;
}

has_if : (x : Context) → counts_here x (codes "if") ≡ true → is_some (get_member (codes "if") x.members) ≡ true → is_some (beside x (codes "if")) ≡ true
has_if x counts there = ap (λ b. is_some (if b then get_member (codes "if") x.members else None)) counts ∙ there

module _ (x : Context) (k : List ℕ) (d : Data) (s : Site) (t e : Option Site) (c : IsChoice x k d s t e) where
  known : IsChoice x (codes "if") d s t e
  known = subst (λ n. IsChoice x n d s t e) (sym (choice_name x k d s t e c)) c

  here : Beside x t e
  here = beside_of x d s t e known.row

  there : is_some (beside x (codes "if")) ≡ true
  there = has_if x here.counts (stands_among (codes "if") d x.members known.listed)

  pub then_led : (u : Site) → t ≡ Some u → LedBy x u
  then_led u is = beside_led x (codes "then") u (λ d. refl) there (counts_here x (codes "then")) refl (get_member (codes "then") x.members) refl (here.then_is ∙ is)

  pub else_led : (u : Site) → e ≡ Some u → LedBy x u
  else_led u is = beside_led x (codes "else") u (λ d. refl) there (counts_here x (codes "else")) refl (get_member (codes "else") x.members) refl (here.else_is ∙ is)
