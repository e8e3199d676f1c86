-- By which member of a schema a certificate begins.
use Rattle.std.specs.Prelude.{if◌then◌else◌}
use Rattle.std.proofs.Common.{◌≡◌, ◌∙◌, ◌++◌, ℕ, nat_lt, List, [], ◌∷◌, Bool, true, false, Option, None, Some, codes, refl, sym, ap, subst, map, append_assoc, append-nil}
use Rattle.std.specs.List.{flat_map}
use Rattle.serde_json.specs.Data.{Data, null, boolean, number, string, array, object, Members, no_members, member}
use Rattle.json_values.specs.Parts.{Part}
use Rattle.json_values.specs.Pointers.{escape}
use Rattle.schema_meaning.specs.Members.{In, first, later, count_true}
use Rattle.schema_meaning.specs.Places.{stay, whole}
use Rattle.schema_meaning.specs.Questions.{Question, at, listed_members, names_of, items_of, each_item}
use Rattle.schema_meaning.specs.Rules.{Rule, refuses_at, obliged, lone, every, accepts, count_refused_at, chosen_name, chosen_steps}
use Rattle.schema_meaning.specs.Keywords.{Form, Shape, never, asserts, asks_every, asks_together, asks_names, asks_some, asks_one, asks_no, contains, condition, reference, reference_name, asked, rule, counting, consequent}
use Rattle.schema_meaning.specs.Readings.{Reading, rules}
use Rattle.schema_definitions.specs.Bearers.{Documents}
use Rattle.schema_definitions.specs.Sites.{Site}
use Rattle.schema_definitions.specs.Plain.{keywords_at, plain}
use Rattle.schema_definitions.specs.Rows.{Row, Context, row_at, rows_of, rows_in, rows_at}
use Rattle.meaning_laws.proofs.Obliged.{in_map}
use Rattle.schema_definitions.specs.PathTexts.{path_text}
use Rattle.certificate_laws.specs.Spelled.{AreSpelled, AreSpelledBy, refuses, goes}
use Rattle.schema_meaning.specs.Certificates.{AreAnswers}
use Rattle.certificate_laws.proofs.Answers.{obliged_refuses}
use Rattle.certificate_laws.proofs.Parts.{path_text-append}
use Rattle.certificate_laws.proofs.Steps.{first_step, from_step}
use Rattle.certificate_laws.specs.Words.{IsRest, nothing, IsAskedBy, IsOf, Bears, count_names, choice_names}
use Rattle.certificate_laws.proofs.Cuts.{rest_of, rest_append}
use Rattle.certificate_laws.proofs.Added.{name_added, own_name, form_added}
use Rattle.certificate_laws.proofs.Listed.{in_some, in_all, in_mapped}

-- ---- the rule of a keyword that is read

pub record Begins {S : Type 0} (k : List ℕ) (r : Rule S) : Type 0 where
  pub own : (bs : List Bool) → refuses_at r bs ≡ at k
  pub on : (bs : List Bool) (q : Question S) → In q (obliged r bs) → (ps : List Part) × (q.added ≡ ps ++ at k)

-- the question of a reference
abbrev pub following : {S : Type 0} → List ℕ → S → Question S
following n s = record { site = s; step = stay; added = at n; follows = true }

one_added : {S : Type 0} {k : List ℕ} (n : List ℕ) (s : S) → n ≡ k → (q : Question S) → In q (following n s ∷ []) → q.added ≡ [] ++ at k
one_added n s e q first = ap at e
one_added n s e q (later i) = elim i [ ]

-- the only one of a list is one of it
in_lone : {A : Type 0} (xs : List A) (x : A) → In x (lone xs) → In x xs
in_lone [] x i = elim i [ ]
in_lone (y ∷ []) x i = i
in_lone (y ∷ z ∷ xs) x i = elim i [ ]

module _ {S : Type 0} (matches : List ℕ → List ℕ → Bool) (d : Data) (k : List ℕ) where
  -- the obliged ones are of those that the form asks
  by_form : {r : Rule S} (n : List ℕ) (form : Form S) → IsAskedBy k n form → ((bs : List Bool) → refuses_at r bs ≡ at n)
      → ((bs : List Bool) (q : Question S) → In q (obliged r bs) → In q (asked matches n d form)) → Begins k r
  by_form n form h own among = record {
    own = λ bs. own bs ∙ ap at (own_name form h);
    on = λ bs q i. let w = form_added matches d k n form h q (among bs q i) in (w.0, w.1 ∙ ap (λ m. w.0 ++ at m) (own_name form h));
  }

  pub shape_begins : (x : Shape S) → IsOf k x → Begins k (rule matches d x)
  shape_begins never h = absurd h
  shape_begins (asserts a) h = record { own = λ bs. ap at h; on = λ bs q i. elim i [ ] }
  shape_begins (asks_every n form) h = by_form n form h (λ bs. refl) (λ bs q i. i)
  shape_begins (asks_together n form) h = by_form n form h (λ bs. refl) (λ bs q i. i)
  shape_begins (asks_names n s) h = record { own = λ bs. ap at h; on = λ bs q i. ([], name_added n s (names_of d) q i ∙ ap at h) }
  shape_begins (asks_some n form) h = by_form n form h (λ bs. refl) (λ bs q i. in_lone (asked matches n d form) q i)
  shape_begins (asks_one n form) h = by_form n form h (λ bs. refl) (λ bs q i. in_lone (asked matches n d form) q i)
  shape_begins (asks_no n schema s) h = record { own = λ bs. ap at h; on = λ bs q i. elim i [ ] }
  shape_begins (contains s least most) h = absurd h
  shape_begins (condition s t e) h = absurd h
  shape_begins (reference r s) h = record { own = λ bs. ap at h; on = λ bs q i. ([], one_added (reference_name r) s h q i) }

-- ---- the rule of a keyword that may refuse under several names

pub record BeginsAs {S : Type 0} (P : List ℕ → Type 0) (r : Rule S) : Type 0 where
  pub name : List Bool → List ℕ
  pub borne : (bs : List Bool) → P (name bs)
  pub own : (bs : List Bool) → refuses_at r bs ≡ at (name bs)
  pub on : (bs : List Bool) (q : Question S) → In q (obliged r bs) → (ps : List Part) × (q.added ≡ ps ++ at (name bs))

one_begins : {S : Type 0} (P : List ℕ → Type 0) (k : List ℕ) (r : Rule S) → P k → Begins k r → BeginsAs P r
one_begins P k r h b = record { name = λ bs. k; borne = λ bs. h; own = λ bs. b.own bs; on = λ bs q i. b.on bs q i }

counted_name : (least most : Option ℕ) (n : ℕ) → In (count_refused_at least most n) count_names
counted_name None None n = first
counted_name (Some least) None n = later first
counted_name None (Some most) n = later (later first)
counted_name (Some least) (Some most) n = by (nat_lt most n)
  where
    by : (b : Bool) → In (if b then codes "maxContains" else codes "minContains") count_names
    by true = later (later first)
    by false = later first

abbrev Counts : List ℕ → Type 0
Counts n = In n count_names

uncounted : {S : Type 0} → BeginsAs {S = S} Counts (every (at (codes "contains")) [] [])
uncounted = record { name = λ bs. codes "contains"; borne = λ bs. first; own = λ bs. refl; on = λ bs q i. elim i [ ] }

count_begins : {S : Type 0} (d : Data) (least most : Option ℕ) (qs : List (Question S)) → BeginsAs Counts (counting d least most qs)
count_begins null least most qs = uncounted
count_begins (boolean b) least most qs = uncounted
count_begins (number n) least most qs = uncounted
count_begins (string t) least most qs = uncounted
count_begins (array ds) least most qs = record {
  name = λ bs. count_refused_at least most (count_true bs);
  borne = λ bs. counted_name least most (count_true bs);
  own = λ bs. refl;
  on = λ bs q i. elim i [ ];
}
count_begins (object ms) least most qs = uncounted

choice_own : (bs : List Bool) → In (chosen_name bs) choice_names
choice_own [] = first
choice_own (true ∷ bs) = later first
choice_own (false ∷ bs) = later (later first)

abbrev choices : {S : Type 0} → Option S → Option S → List (Bool × Question S)
choices t e = consequent true (codes "then") t ++ consequent false (codes "else") e

choice_on : {S : Type 0} (t e : Option S) (bs : List Bool) (q : Question S) → In q (chosen_steps (choices t e) bs) → (ps : List Part) × (q.added ≡ ps ++ at (chosen_name bs))
choice_on t e [] q i = elim i [ ]
choice_on None None (b ∷ bs) q i = elim i [ ]
choice_on (Some s) None (true ∷ bs) _ first = ([], refl)
choice_on (Some s) None (true ∷ bs) q (later i) = elim i [ ]
choice_on (Some s) None (false ∷ bs) q i = elim i [ ]
choice_on None (Some s) (true ∷ bs) q i = elim i [ ]
choice_on None (Some s) (false ∷ bs) _ first = ([], refl)
choice_on None (Some s) (false ∷ bs) q (later i) = elim i [ ]
choice_on (Some s) (Some u) (true ∷ bs) _ first = ([], refl)
choice_on (Some s) (Some u) (true ∷ bs) q (later i) = elim i [ ]
choice_on (Some s) (Some u) (false ∷ bs) _ first = ([], refl)
choice_on (Some s) (Some u) (false ∷ bs) q (later i) = elim i [ ]

module _ {S : Type 0} (matches : List ℕ → List ℕ → Bool) (d : Data) (k : List ℕ) where
  by_one : (x : Shape S) → IsOf k x → Bears k x → BeginsAs (λ n. Bears n x) (rule matches d x)
  by_one x h g = one_begins (λ n. Bears n x) k (rule matches d x) g (shape_begins matches d k x h)

  pub shape_bears : (x : Shape S) → Bears k x → BeginsAs (λ n. Bears n x) (rule matches d x)
  shape_bears never h = absurd h
  shape_bears (asserts a) h = by_one (asserts a) h h
  shape_bears (asks_every n form) h = by_one (asks_every n form) h h
  shape_bears (asks_together n form) h = by_one (asks_together n form) h h
  shape_bears (asks_names n s) h = by_one (asks_names n s) h h
  shape_bears (asks_some n form) h = by_one (asks_some n form) h h
  shape_bears (asks_one n form) h = by_one (asks_one n form) h h
  shape_bears (asks_no n schema s) h = by_one (asks_no n schema s) h h
  shape_bears (contains s least most) h = count_begins d least most (each_item (codes "contains") s 0 (items_of d))
  shape_bears (condition s t e) h = record { name = λ bs. chosen_name bs; borne = λ bs. choice_own bs; own = λ bs. refl; on = λ bs q i. choice_on t e bs q i }
  shape_bears (reference r s) h = by_one (reference r s) h h

-- ---- the text of the evaluation path begins by a name under which the keyword may refuse

-- its answers, the name under which it refuses by them, and what is left behind that name
pub record Begun {S : Type 0} (r : Reading S) (d : Data) (shape : Shape S) (e : List ℕ) : Type 0 where
  pub answers : List Bool
  pub are : AreAnswers r (whole d) (rule r.matches d shape) answers
  pub wrong : accepts (rule r.matches d shape) answers ≡ false
  pub name : List ℕ
  pub named : Bears name shape
  pub under : refuses_at (rule r.matches d shape) answers ≡ at name
  pub rest : List ℕ
  pub text : e ≡ 47 ∷ (escape name ++ rest)
  pub is_rest : IsRest rest

module _ {S : Type 0} (r : Reading S) (d : Data) (k : List ℕ) (shape : Shape S) (named : Bears k shape) where
  abbrev begins : BeginsAs (λ n. Bears n shape) (rule r.matches d shape)
  begins = shape_bears r.matches d k shape named

  pub begun : (i e : List ℕ) → AreSpelledBy r d (rule r.matches d shape ∷ []) i e → Begun r d shape e
  begun i e (refuses _ bs first a wrong at_i on_e) = record {
    answers = bs;
    are = a;
    wrong = wrong;
    name = begins.name bs;
    named = begins.borne bs;
    under = begins.own bs;
    rest = [];
    text = on_e ∙ ap path_text (begins.own bs);
    is_rest = nothing;
  }
  begun i e (refuses x bs (later j) a wrong at_i on_e) = elim j [ ]
  begun i e (goes _ bs q i' e' first a o under at_i on_e) =
      let w = begins.on bs q o in
      let n = begins.name bs in
      let text : e ≡ (path_text (at n) ++ path_text w.0) ++ e' = on_e ∙ ap (λ t. t ++ e') (ap path_text w.1 ∙ path_text-append w.0 (at n)) in
      record {
        answers = bs;
        are = a;
        wrong = obliged_refuses r d (rule r.matches d shape) bs q i' e' a o under;
        name = n;
        named = begins.borne bs;
        under = begins.own bs;
        rest = path_text w.0 ++ e';
        text = text ∙ ap (λ t. (t ++ path_text w.0) ++ e') (ap (λ t. 47 ∷ t) (append-nil (escape n))) ∙ append_assoc (47 ∷ escape n) (path_text w.0) e';
        is_rest = rest_append (path_text w.0) e' (rest_of _) (subst IsRest (sym under.evaluation_text) (rest_of _));
      }
  begun i e (goes x bs q i' e' (later j) a o under at_i on_e) = elim j [ ]

-- by one of these rules, whichever others there are
pub one_rule : {S : Type 0} (r : Reading S) (d : Data) (ks : List (Rule S)) (i e : List ℕ) → AreSpelledBy r d ks i e
    → (k : Rule S) × In k ks × ((js : List (Rule S)) → In k js → AreSpelledBy r d js i e)
one_rule r d ks i e (refuses k bs j a wrong at_i on_e) = (k, j, λ js l. refuses k bs l a wrong at_i on_e)
one_rule r d ks i e (goes k bs q x y j a o under at_i on_e) = (k, j, λ js l. goes k bs q x y l a o under at_i on_e)

-- ---- at a site

module _ (docs : Documents) (makes : List ℕ → Bool) (matches : List ℕ → List ℕ → Bool) where
  abbrev pub context : Site → Members → Context
  context s ms = record { documents = docs; makes = makes; site = s; members = ms }

  -- the rules of a member of the schema
  abbrev pub rules_of : Site → Members → Data → List ℕ → Data → List (Rule Site)
  rules_of s ms d k v = map (rule matches d) (row_at (context s ms) k v).shapes

  pub rows_there : (s : Site) (c : Data) → s.contents ≡ c → rows_at docs makes s ≡ rows_in s (context s) c
  unfolding rows_at
  rows_there s c e = ap (rows_in s (context s)) e

  pub keywords_there : (s : Site) (c : Data) → s.contents ≡ c → keywords_at docs makes s ≡ flat_map (λ r. r.shapes) (rows_in s (context s) c)
  keywords_there s c e = ap (λ rs. flat_map (λ (r : Row). r.shapes) rs) (rows_there s c e)

  row_listed : (x : Context) (ms : Members) (row : Row) → In row (rows_of x ms) → (k : List ℕ) × (v : Data) × In (k, v) (listed_members ms) × (row ≡ row_at x k v)
  row_listed x no_members row i = elim i [ ]
  row_listed x (member k v ms) row first = (k, v, first, refl)
  row_listed x (member k v ms) row (later i) = let w = row_listed x ms row i in (w.0, w.1, later w.2, w.3)

  pub listed_row : (x : Context) (ms : Members) (k : List ℕ) (v : Data) → In (k, v) (listed_members ms) → In (row_at x k v) (rows_of x ms)
  listed_row x no_members k v i = elim i [ ]
  listed_row x (member n c ms) k v first = first
  listed_row x (member n c ms) k v (later i) = later (listed_row x ms k v i)

  -- by the row of a member
  pub spelled_member : (s : Site) (ms : Members) (d : Data) (i e : List ℕ) → s.contents ≡ object ms → AreSpelled (plain docs makes matches) s d i e
      → (k : List ℕ) × (v : Data) × In (k, v) (listed_members ms) × AreSpelledBy (plain docs makes matches) d (rules_of s ms d k v) i e
  spelled_member s ms d i e is h =
      let one = one_rule (plain docs makes matches) d _ i e (first_step (plain docs makes matches) s d i e h) in
      let shape = in_mapped (rule matches d) (keywords_at docs makes s) one.1 in
      let row = in_some (λ (r : Row). r.shapes) (rows_of (context s ms) ms) (subst (λ ks. In shape.0 ks) (keywords_there s (object ms) is) shape.1) in
      let at_k = row_listed (context s ms) ms row.0 row.1 in
      let there : In shape.0 (row_at (context s ms) at_k.0 at_k.1).shapes = subst (λ (x : Row). In shape.0 x.shapes) at_k.3 row.2 in (
        at_k.0,
        at_k.1,
        at_k.2,
        one.2 (rules_of s ms d at_k.0 at_k.1) (subst (λ x. In x (rules_of s ms d at_k.0 at_k.1)) shape.2 (in_map (rule matches d) shape.0 _ there)),
      )

  -- a row that stands there gives rules that stand there
  pub rules_stand : (s : Site) (row : Row) (d : Data) → In row (rows_at docs makes s) → (k : Rule Site) → In k (map (rule matches d) row.shapes)
      → In k (rules (plain docs makes matches) s d)
  rules_stand s row d i k j =
      let w = in_mapped (rule matches d) row.shapes j in
      subst (λ x. In x (rules (plain docs makes matches) s d)) w.2 (in_map (rule matches d) w.0 (keywords_at docs makes s) (in_all (λ (r : Row). r.shapes) (rows_at docs makes s) i w.1))

  pub member_row : (s : Site) (ms : Members) (k : List ℕ) (v : Data) → s.contents ≡ object ms → In (k, v) (listed_members ms) → In (row_at (context s ms) k v) (rows_at docs makes s)
  member_row s ms k v is i = subst (λ rs. In (row_at (context s ms) k v) rs) (sym (rows_there s (object ms) is)) (listed_row (context s ms) ms k v i)

  -- ---- where nothing is left of the evaluation path

  some_keyword : (s : Site) (d : Data) (i e : List ℕ) → AreSpelled (plain docs makes matches) s d i e → (x : Shape Site) × In x (keywords_at docs makes s)
  some_keyword s d i e h =
      let one = one_rule (plain docs makes matches) d _ i e (first_step (plain docs makes matches) s d i e h) in
      let shape = in_mapped (rule matches d) (keywords_at docs makes s) one.1 in (shape.0, shape.1)

  -- no keyword, no certificate
  pub none_spelled : (s : Site) (d : Data) (i e : List ℕ) → keywords_at docs makes s ≡ [] → AreSpelled (plain docs makes matches) s d i e → ⊥
  none_spelled s d i e none h =
      let x = some_keyword s d i e h in elim (subst (λ ks. In x.0 ks) none x.1) [ ]

  pub not_spelled : (s : Site) (c : Data) (d : Data) (i e : List ℕ) → s.contents ≡ c → flat_map (λ (r : Row). r.shapes) (rows_in s (context s) c) ≡ []
      → AreSpelled (plain docs makes matches) s d i e → ⊥
  not_spelled s c d i e is none h = none_spelled s d i e (keywords_there s c is ∙ none) h

  -- the schema `false`
  never_by : (d : Data) (i e : List ℕ) (ks : List (Rule Site)) → ks ≡ rule matches d never ∷ [] → AreSpelledBy (plain docs makes matches) d ks i e → (i ≡ []) × (e ≡ [])
  never_by d i e ks is h = by (subst (λ xs. AreSpelledBy (plain docs makes matches) d xs i e) is h)
    where
      by : AreSpelledBy (plain docs makes matches) d (rule matches d never ∷ []) i e → (i ≡ []) × (e ≡ [])
      by (refuses _ bs first a wrong at_i on_e) = (at_i, on_e)
      by (refuses k bs (later j) a wrong at_i on_e) = elim j [ ]
      by (goes _ bs q x y first a o under at_i on_e) = elim o [ ]
      by (goes k bs q x y (later j) a o under at_i on_e) = elim j [ ]

  pub false_spelled : (s : Site) (d : Data) (i e : List ℕ) → s.contents ≡ boolean false → AreSpelled (plain docs makes matches) s d i e → (i ≡ []) × (e ≡ [])
  false_spelled s d i e is h =
      never_by d i e (rules (plain docs makes matches) s d) (ap (map (rule matches d)) (keywords_there s (boolean false) is)) (first_step (plain docs makes matches) s d i e h)

  pub spelled_false : (s : Site) (d : Data) → s.contents ≡ boolean false → AreSpelled (plain docs makes matches) s d [] []
  spelled_false s d is =
      from_step (plain docs makes matches) s d (rule matches d never ∷ []) [] []
      (λ k j. subst (λ ks. In k ks) (sym (ap (map (rule matches d)) (keywords_there s (boolean false) is))) j)
      (refuses (rule matches d never) [] first (record { unfoldings = 0; are = refl }) refl refl refl)
