-- What keywords ask lies inside the value, and a reference stays at its place.
use Rattle.std.proofs.Common.{◌≡◌, ◌<◌, ◌≤◌, ◌++◌, ℕ, zero, suc, max, List, [], ◌∷◌, Bool, true, false, cond, map, refl, ap, arith, Option, Some, None, codes, Ordering, Less, Equal, Greater}
use Rattle.std.specs.List.{filter, flat_map}
use Rattle.std.specs.Ordering.{nat_cmp, match_ordering}
use Rattle.std.specs.Cmp.Lexicographic.{slice_cmp}
use Rattle.serde_json.specs.Data.{Data, null, boolean, number, string, array, object, Items, no_items, item, Members, no_members, member, depth, items_depth, members_depth}
use Rattle.serde_json.specs.Find.{get, get_member}
use Rattle.json_values.specs.Parts.{Part}
use Rattle.json_values.specs.Patterns.{matched}
use Rattle.schema_meaning.specs.Members.{In, first, later}
use Rattle.schema_meaning.specs.Places.{stay, to_item, to_member, to_name}
use Rattle.schema_meaning.specs.Questions.{Question, question, here, at, at_name, at_index, each_branch, items_of, items_from, each_item, item_by_item, listed_members, members_of, if_member, each_declared, each_matching, each_name, each_triggered}
use Rattle.schema_meaning.specs.Rules.{asks, consequents}
use Rattle.schema_meaning.specs.Keywords.{Dependency, needs, applies, Form, each_from, by_index, by_name, by_pattern, of_others, of_members, of_names, of_triggered, of_dependencies, of_branches, of_value, of_condition, Shape, never, asserts, asks_every, asks_together, asks_names, asks_some, asks_one, asks_no, contains, condition, reference, rule, asked, counting, consequent, applied, each_dependency}
use Rattle.schema_engine.specs.Leads.{if_some, if_applies, nodes_of, leads_of}
use Rattle.schema_engine.specs.Verdicts.{GoesDown}

pub record IsInside (P : Bool → ℕ → Type 0) (d : Data) (q : Question ℕ) : Type 0 where
  pub down : GoesDown d q.step
  pub stays : q.follows ≡ true → q.step ≡ stay
  pub leads : P q.follows q.site

record AreInside (P : Bool → ℕ → Type 0) (d : Data) (qs : List (Question ℕ)) : Type 0 where
  each : (q : Question ℕ) → In q qs → IsInside P d q

-- ---- how deep values are

from_le : (start : ℕ) (ds : Items) → items_depth (items_from start ds) ≤ items_depth ds
from_le start no_items = omega arith
from_le zero (item e ds) = omega arith
from_le (suc start) (item e ds) = let h : items_depth (items_from start ds) ≤ items_depth ds = from_le start ds in omega arith

found_le : (k : List ℕ) (ms : Members) (e : Data) → get_member k ms ≡ Some e → depth e ≤ members_depth ms
found_le k no_members e h = cc
found_le k (member l d ms) e h =
    let P : Ordering → Type 0 = λ o. match_ordering o (get_member k ms) (Some d) (get_member k ms) ≡ Some e → depth e ≤ max (depth d) (members_depth ms) in
    (elim (slice_cmp nat_cmp k l) as P [
      | Less ↦ λ f. (let r : depth e ≤ members_depth ms = found_le k ms e f in omega arith)
      | Equal ↦ λ f. (let s : d ≡ e = cc in let q : depth d ≡ depth e = ap depth s in omega arith)
      | Greater ↦ λ f. (let r : depth e ≤ members_depth ms = found_le k ms e f in omega arith)
    ]) h

found_less : (k : List ℕ) (d e : Data) → get k d ≡ Some e → depth e < depth d
found_less k (object ms) e h = let r : depth e ≤ members_depth ms = found_le k ms e h in omega arith
found_less k (array ds) e h = cc
found_less k null e h = cc
found_less k (boolean b) e h = cc
found_less k (number n) e h = cc
found_less k (string s) e h = cc

-- each of some members is less deep
record AreLess (d : Data) (ms : List (List ℕ × Data)) : Type 0 where
  each : (m : List ℕ × Data) → In m ms → depth m.1 < depth d

listed_le : (ms : Members) (m : List ℕ × Data) → In m (listed_members ms) → depth m.1 ≤ members_depth ms
listed_le no_members m i = elim i [ ]
listed_le (member k d ms) m first = omega arith
listed_le (member k d ms) m (later i) = let h : depth m.1 ≤ members_depth ms = listed_le ms m i in omega arith

members_less : (d : Data) → AreLess d (members_of d)
members_less null = record { each = λ m i. elim i [ ] }
members_less (boolean b) = record { each = λ m i. elim i [ ] }
members_less (number n) = record { each = λ m i. elim i [ ] }
members_less (string s) = record { each = λ m i. elim i [ ] }
members_less (array ds) = record { each = λ m i. elim i [ ] }
members_less (object ms) = record { each = λ m i. (let h : depth m.1 ≤ members_depth ms = listed_le ms m i in omega arith) }

-- x is the first, or among the rest
first_or_later : {A : Type 0} (x y : A) (zs xs : List A) → (In x zs → In x xs) → In x (y ∷ zs) → In x (y ∷ xs)
first_or_later x y zs xs h first = first
first_or_later x y zs xs h (later i) = later (h i)

kept_among : {A : Type 0} (test : A → Bool) (xs : List A) (x : A) → In x (filter test xs) → In x xs
kept_among test [] x i = i
kept_among {A} test (y ∷ xs) x i = by_test (test y) (kept_among test xs x) i
  where
    by_test : (b : Bool) → (In x (filter test xs) → In x xs) → In x (cond b (y ∷ filter test xs) (filter test xs)) → In x (y ∷ xs)
    by_test true again j = first_or_later x y (filter test xs) xs again j
    by_test false again j = later (again j)

kept_less : (d : Data) (test : List ℕ × Data → Bool) → AreLess d (filter test (members_of d))
kept_less d test = record { each = λ m i. (members_less d).each m (kept_among test (members_of d) m i) }

-- ---- lists of sites

in_mapped_to : {A B : Type 0} (f : A → B) (x : A) (xs : List A) → In x xs → In (f x) (map f xs)
in_mapped_to f x [] i = elim i [ ]
in_mapped_to f x (y ∷ xs) first = first
in_mapped_to f x (y ∷ xs) (later i) = later (in_mapped_to f x xs i)

in_front : {A : Type 0} (x : A) (xs ys : List A) → In x xs → In x (xs ++ ys)
in_front x [] ys i = elim i [ ]
in_front x (y ∷ xs) ys first = first
in_front x (y ∷ xs) ys (later i) = later (in_front x xs ys i)

in_rest : {A : Type 0} (x : A) (xs ys : List A) → In x ys → In x (xs ++ ys)
in_rest x [] ys i = i
in_rest x (y ∷ xs) ys i = later (in_rest x xs ys i)

in_flat : {A B : Type 0} (f : A → List B) (x : A) (y : B) (xs : List A) → In x xs → In y (f x) → In y (flat_map f xs)
in_flat f x y [] i j = elim i [ ]
in_flat f x y (z ∷ xs) first j = in_front y (f z) (flat_map f xs) j
in_flat f x y (z ∷ xs) (later i) j = in_rest y (f z) (flat_map f xs) (in_flat f x y xs i j)

-- ---- lists of questions

in_either : (cs es : List (Bool × Question ℕ)) (P : Question ℕ → Type 0) → ((q : Question ℕ) → In q (consequents cs) → P q) → ((q : Question ℕ) → In q (consequents es) → P q)
    → (q : Question ℕ) → In q (consequents (cs ++ es)) → P q
in_either [] es P f h q i = h q i
in_either (c ∷ cs) es P f h q first = f q first
in_either (c ∷ cs) es P f h q (later i) = in_either cs es P (λ p j. f p (later j)) h q i

module _ (P : Bool → ℕ → Type 0) where
  none_inside : (d : Data) → AreInside P d []
  none_inside d = record { each = λ q i. elim i [ ] }

  more_inside : (d : Data) (q : Question ℕ) (qs : List (Question ℕ)) → IsInside P d q → AreInside P d qs → AreInside P d (q ∷ qs)
  more_inside d q qs one rest = record { each = λ p i. among p i }
    where
      among : (p : Question ℕ) → In p (q ∷ qs) → IsInside P d p
      among p first = one
      among p (later i) = rest.each p i

  joined_inside : (d : Data) (ps qs : List (Question ℕ)) → AreInside P d ps → AreInside P d qs → AreInside P d (ps ++ qs)
  joined_inside d [] qs front rest = rest
  joined_inside d (p ∷ ps) qs front rest =
      more_inside d p (ps ++ qs) (front.each p first) (joined_inside d ps qs (record { each = λ q i. front.each q (later i) }) rest)

  flat_inside : {A : Type 0} (d : Data) (f : A → List (Question ℕ)) (xs : List A) → ((a : A) → In a xs → AreInside P d (f a)) → AreInside P d (flat_map f xs)
  flat_inside d f [] h = none_inside d
  flat_inside d f (x ∷ xs) h = joined_inside d (f x) (flat_map f xs) (h x first) (flat_inside d f xs (λ a i. h a (later i)))

  stays_here : (d : Data) (s : ℕ) (added : List Part) → P false s → IsInside P d (question s stay added)
  stays_here d s added p = record { down = tt; stays = λ g. refl; leads = p }

  one_here : (d : Data) (s : ℕ) (added : List Part) → P false s → AreInside P d (question s stay added ∷ [])
  one_here d s added p = more_inside d (question s stay added) [] (stays_here d s added p) (none_inside d)

  branches_inside : (d : Data) (keyword : List ℕ) (i : ℕ) (ss : List ℕ) → ((s : ℕ) → In s ss → P false s) → AreInside P d (each_branch keyword i ss)
  branches_inside d keyword i [] h = none_inside d
  branches_inside d keyword i (s ∷ ss) h = more_inside d _ _ (stays_here d s (at_index keyword i) (h s first)) (branches_inside d keyword (suc i) ss (λ t j. h t (later j)))

  -- ---- items

  goes_to_item : (d e : Data) (s i : ℕ) (added : List Part) → P false s → depth e < depth d → IsInside P d (question s (to_item i e) added)
  goes_to_item d e s i added p less = record { down = less; stays = λ g. cc; leads = p }

  each_item_inside : (d : Data) (keyword : List ℕ) (s i : ℕ) (ds : Items) → P false s → items_depth ds < depth d → AreInside P d (each_item keyword s i ds)
  each_item_inside d keyword s i no_items p less = none_inside d
  each_item_inside d keyword s i (item e ds) p less =
      more_inside d _ _ (goes_to_item d e s i (at keyword) p (omega arith)) (each_item_inside d keyword s (suc i) ds p (omega arith))

  item_by_item_inside : (d : Data) (keyword : List ℕ) (ss : List ℕ) (i : ℕ) (ds : Items) → ((s : ℕ) → In s ss → P false s) → items_depth ds < depth d → AreInside P d (item_by_item keyword ss i ds)
  item_by_item_inside d keyword [] i ds h less = none_inside d
  item_by_item_inside d keyword (s ∷ ss) i no_items h less = none_inside d
  item_by_item_inside d keyword (s ∷ ss) i (item e ds) h less =
      more_inside d _ _ (goes_to_item d e s i (at_index keyword i) (h s first) (omega arith)) (item_by_item_inside d keyword ss (suc i) ds (λ t j. h t (later j)) (omega arith))

  items_inside : (d : Data) (keyword : List ℕ) (s start i : ℕ) → P false s → AreInside P d (each_item keyword s i (items_from start (items_of d)))
  items_inside null keyword s start i p = none_inside null
  items_inside (boolean b) keyword s start i p = none_inside (boolean b)
  items_inside (number n) keyword s start i p = none_inside (number n)
  items_inside (string t) keyword s start i p = none_inside (string t)
  items_inside (object ms) keyword s start i p = none_inside (object ms)
  items_inside (array ds) keyword s start i p =
      each_item_inside (array ds) keyword s i (items_from start ds) p (let h : items_depth (items_from start ds) ≤ items_depth ds = from_le start ds in omega arith)

  nothing_inside : (d : Data) (keyword : List ℕ) (ss : List ℕ) → AreInside P d (item_by_item keyword ss 0 no_items)
  nothing_inside d keyword [] = none_inside d
  nothing_inside d keyword (s ∷ ss) = none_inside d

  list_inside : (d : Data) (keyword : List ℕ) (ss : List ℕ) → ((s : ℕ) → In s ss → P false s) → AreInside P d (item_by_item keyword ss 0 (items_of d))
  list_inside null keyword ss h = nothing_inside null keyword ss
  list_inside (boolean b) keyword ss h = nothing_inside (boolean b) keyword ss
  list_inside (number n) keyword ss h = nothing_inside (number n) keyword ss
  list_inside (string t) keyword ss h = nothing_inside (string t) keyword ss
  list_inside (object ms) keyword ss h = nothing_inside (object ms) keyword ss
  list_inside (array ds) keyword ss h = item_by_item_inside (array ds) keyword ss 0 ds h (omega arith)

  -- ---- members

  goes_to_member : (d e : Data) (s : ℕ) (k : List ℕ) (added : List Part) → P false s → depth e < depth d → IsInside P d (question s (to_member k e) added)
  goes_to_member d e s k added p less = record { down = less; stays = λ g. cc; leads = p }

  goes_to_name : (d : Data) (s : ℕ) (k : List ℕ) (added : List Part) → P false s → 0 < depth d → IsInside P d (question s (to_name k) added)
  goes_to_name d s k added p deep = record { down = deep; stays = λ g. cc; leads = p }

  if_member_inside : (d : Data) (k : List ℕ) (f : Data → List (Question ℕ)) → ((e : Data) → depth e < depth d → AreInside P d (f e)) → AreInside P d (if_member (get k d) f)
  if_member_inside d k f h = by_member (get k d) refl
    where
      by_member : (o : Option Data) → get k d ≡ o → AreInside P d (if_member o f)
      by_member None e = none_inside d
      by_member (Some x) e = h x (found_less k d x e)

  declared_inside : (d : Data) (keyword : List ℕ) (ps : List (List ℕ × ℕ)) → ((s : ℕ) → In s (map (λ p. p.1) ps) → P false s) → AreInside P d (each_declared keyword d ps)
  declared_inside d keyword ps h =
      flat_inside d (λ p. if_member (get p.0 d) (λ e. question p.1 (to_member p.0 e) (at_name keyword p.0) ∷ [])) ps
      (λ p i. if_member_inside d p.0 (λ e. question p.1 (to_member p.0 e) (at_name keyword p.0) ∷ [])
      (λ e less. more_inside d _ [] (goes_to_member d e p.1 p.0 (at_name keyword p.0) (h p.1 (in_mapped_to (λ x. x.1) p ps i)) less) (none_inside d)))

  triggered_inside : (d : Data) (keyword : List ℕ) (ps : List (List ℕ × ℕ)) → ((s : ℕ) → In s (map (λ p. p.1) ps) → P false s) → AreInside P d (each_triggered keyword d ps)
  triggered_inside d keyword ps h =
      flat_inside d (λ p. if_member (get p.0 d) (λ e. question p.1 stay (at_name keyword p.0) ∷ [])) ps
      (λ p i. if_member_inside d p.0 (λ e. question p.1 stay (at_name keyword p.0) ∷ []) (λ e less. one_here d p.1 (at_name keyword p.0) (h p.1 (in_mapped_to (λ x. x.1) p ps i))))

  applied_inside : (d : Data) (keyword k : List ℕ) (x : Dependency ℕ) → ((s : ℕ) → In s (if_applies x) → P false s) → AreInside P d (applied keyword k x)
  applied_inside d keyword k (needs names) h = none_inside d
  applied_inside d keyword k (applies s) h = one_here d s (at_name keyword k) (h s first)

  dependencies_inside : (d : Data) (keyword : List ℕ) (ps : List (List ℕ × Dependency ℕ)) → ((s : ℕ) → In s (flat_map (λ p. if_applies p.1) ps) → P false s)
      → AreInside P d (each_dependency keyword d ps)
  dependencies_inside d keyword ps h =
      flat_inside d (λ p. if_member (get p.0 d) (λ e. applied keyword p.0 p.1)) ps
      (λ p i. if_member_inside d p.0 (λ e. applied keyword p.0 p.1) (λ e less. applied_inside d keyword p.0 p.1 (λ s j. h s (in_flat (λ x. if_applies x.1) p s ps i j))))

  members_inside : (d : Data) (s : ℕ) (added : List Part) (ms : List (List ℕ × Data)) → P false s → AreLess d ms → AreInside P d (map (λ m. question s (to_member m.0 m.1) added) ms)
  members_inside d s added [] p less = none_inside d
  members_inside d s added (m ∷ ms) p less =
      more_inside d _ _ (goes_to_member d m.1 s m.0 added p (less.each m first)) (members_inside d s added ms p (record { each = λ n i. less.each n (later i) }))

  matching_inside : (matches : List ℕ → List ℕ → Bool) (d : Data) (keyword : List ℕ) (ps : List (List ℕ × ℕ)) → ((s : ℕ) → In s (map (λ p. p.1) ps) → P false s) → AreInside P d (each_matching matches keyword d ps)
  matching_inside matches d keyword ps h =
      flat_inside d (λ p. map (λ m. question p.1 (to_member m.0 m.1) (at_name keyword p.0)) (filter (λ m. matched matches p.0 m.0) (members_of d))) ps
      (λ p i. members_inside d p.1 (at_name keyword p.0) _ (h p.1 (in_mapped_to (λ x. x.1) p ps i)) (kept_less d (λ m. matched matches p.0 m.0)))

  names_inside : (d : Data) (s : ℕ) (added : List Part) (ms : List (List ℕ × Data)) → P false s → AreLess d ms → AreInside P d (each_name added s (map (λ m. m.0) ms))
  names_inside d s added [] p less = none_inside d
  names_inside d s added (m ∷ ms) p less =
      more_inside d _ _ (goes_to_name d s m.0 added p (let h : depth m.1 < depth d = less.each m first in omega arith)) (names_inside d s added ms p (record { each = λ n i. less.each n (later i) }))

  consequent_inside : (d : Data) (b : Bool) (keyword : List ℕ) (o : Option ℕ) → ((s : ℕ) → In s (if_some o) → P false s) → (q : Question ℕ) → In q (consequents (consequent b keyword o)) → IsInside P d q
  consequent_inside d b keyword None h q i = elim i [ ]
  consequent_inside d b keyword (Some s) h q i = (one_here d s (at keyword) (h s first)).each q i

  condition_inside : (d : Data) (keyword : List ℕ) (s : ℕ) (t e : Option ℕ) → ((n : ℕ) → In n (s ∷ (if_some t ++ if_some e)) → P false n)
      → AreInside P d (here keyword s ∷ consequents (consequent true (codes "then") t ++ consequent false (codes "else") e))
  condition_inside d keyword s t e h =
      more_inside d _ _ (stays_here d s (at keyword) (h s first))
      (record {
        each = in_either (consequent true (codes "then") t) (consequent false (codes "else") e) (IsInside P d)
            (consequent_inside d true (codes "then") t (λ n i. h n (later (in_front n (if_some t) (if_some e) i))))
            (consequent_inside d false (codes "else") e (λ n i. h n (later (in_rest n (if_some t) (if_some e) i))));
      })

  counting_inside : (d : Data) (least most : Option ℕ) (s : ℕ) → P false s → AreInside P d (asks (counting d least most (each_item (codes "contains") s 0 (items_of d))))
  counting_inside null least most s p = none_inside null
  counting_inside (boolean b) least most s p = none_inside (boolean b)
  counting_inside (number n) least most s p = none_inside (number n)
  counting_inside (string t) least most s p = none_inside (string t)
  counting_inside (object ms) least most s p = none_inside (object ms)
  counting_inside (array ds) least most s p = each_item_inside (array ds) (codes "contains") s 0 ds p (omega arith)

  -- ---- whatever is asked

  form_inside : (matches : List ℕ → List ℕ → Bool) (d : Data) (k : List ℕ) (form : Form ℕ) → ((s : ℕ) → In s (nodes_of form) → P false s) → AreInside P d (asked matches k d form)
  form_inside matches d k (each_from start s) h = items_inside d k s start start (h s first)
  form_inside matches d k (by_index ss) h = list_inside d k ss h
  form_inside matches d k (by_name ps) h = declared_inside d k ps h
  form_inside matches d k (by_pattern ps) h = matching_inside matches d k ps h
  form_inside matches d k (of_others declared s) h = members_inside d s (at k) _ (h s first) (kept_less d _)
  form_inside matches d k (of_members s) h = members_inside d s (at k) _ (h s first) (members_less d)
  form_inside matches d k (of_names s) h = names_inside d s (at k) (members_of d) (h s first) (members_less d)
  form_inside matches d k (of_triggered ps) h = triggered_inside d k ps h
  form_inside matches d k (of_dependencies ps) h = dependencies_inside d k ps h
  form_inside matches d k (of_branches ss) h = branches_inside d k 0 ss h
  form_inside matches d k (of_value schema s) h = one_here d s (at k) (h s first)
  form_inside matches d k (of_condition s t e) h = condition_inside d k s t e h

-- ---- each keyword

-- leads to what stands in the keyword
abbrev pub LeadsTo : Shape ℕ → Bool → ℕ → Type 0
LeadsTo s follows n = In n (leads_of follows s)

all_inside : (matches : List ℕ → List ℕ → Bool) (d : Data) (s : Shape ℕ) → AreInside (LeadsTo s) d (asks (rule matches d s))
all_inside matches d never = none_inside _ d
all_inside matches d (asserts a) = none_inside _ d
all_inside matches d (asks_every k form) = form_inside _ matches d k form (λ s i. i)
all_inside matches d (asks_together k form) = form_inside _ matches d k form (λ s i. i)
all_inside matches d (asks_names k s) = names_inside _ d s (at k) (members_of d) first (members_less d)
all_inside matches d (asks_some k form) = form_inside _ matches d k form (λ s i. i)
all_inside matches d (asks_one k form) = form_inside _ matches d k form (λ s i. i)
all_inside matches d (asks_no k schema s) = one_here _ d s (at k) first
all_inside matches d (contains s least most) = counting_inside _ d least most s first
all_inside matches d (condition s t e) = condition_inside _ d (codes "if") s t e (λ n i. i)
all_inside matches d (reference r s) = more_inside _ d _ [] (record { down = tt; stays = λ g. refl; leads = first }) (none_inside _ d)

pub inside : (matches : List ℕ → List ℕ → Bool) (d : Data) (s : Shape ℕ) (q : Question ℕ) → In q (asks (rule matches d s)) → IsInside (LeadsTo s) d q
inside matches d s q i = (all_inside matches d s).each q i
