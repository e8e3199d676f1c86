-- The questions of applicators, one by one.
use Rattle.std.proofs.Common.{◌≡◌, ◌∙◌, ◌+◌, ◌<◌, ℕ, zero, suc, List, [], ◌∷◌, map, Option, Some, None, length, Bool, true, false, cond, refl, sym, ap, arith, add-zero}
use Rattle.std.specs.List.{filter}
use Rattle.serde_json.specs.Data.{Data, null, boolean, number, string, array, object, Items, no_items, item, Members, no_members, member}
use Rattle.serde_json.specs.Find.{get, get_item, get_member}
use Rattle.serde_json.specs.View.{items_view}
use Rattle.serde_json.specs.declared.value.Value.{Value}
use Rattle.json_values.specs.Parts.{Part}
use Rattle.json_values.specs.Equality.{rises_from}
use Rattle.json_values.specs.Patterns.{matched}
use Rattle.json_values.proofs.Names.{get_same, get_other}
use Rattle.json_values.proofs.Kept.{first_rise, behind_none}
use Rattle.schema_meaning.specs.Members.{In, first, later}
use Rattle.schema_meaning.specs.Places.{stay, to_item, to_member}
use Rattle.schema_meaning.specs.Questions.{Question, question, at, at_name, at_index, each_branch, item_by_item, listed_members, members_of, if_member, each_matching, each_member, each_triggered}
use Rattle.schema_definitions.specs.Sites.{Site}
use Rattle.json_values.specs.Rising.{are_rising}
use Rattle.certificate_laws.proofs.Listed.{in_some, in_mapped}
use Rattle.applicators.specs.Shapes.{sites_of_list, sites_of_map, dependency_at, dependencies_in}
use Rattle.fault_paths.specs.Laws.{MembersRise}
use Rattle.schema_meaning.specs.Keywords.{Dependency, needs, applies, applied}
use Rattle.applicators.specs.Questions.{each_dependency}

-- ---- lists of schemas

abbrev pub nth : {A : Type 0} → ℕ → List A → Option A
nth n [] = None
nth zero (x ∷ xs) = Some x
nth (suc n) (x ∷ xs) = nth n xs

pub nth_short : {A : Type 0} (n : ℕ) (xs : List A) (x : A) → nth n xs ≡ Some x → n < length xs
nth_short n [] x e = (let no : None ≡ Some x = e in cc)
nth_short zero (y ∷ xs) x e = omega arith
nth_short (suc n) (y ∷ xs) x e = let short = nth_short n xs x e in omega (arith, short)

pub sites_counted : (site : List Part → Data → Site) (k : List ℕ) (i : ℕ) (vs : List Value) → length (sites_of_list site k i (items_view vs)) ≡ length vs
sites_counted site k i [] = refl
sites_counted site k i (v ∷ vs) = ap suc (sites_counted site k (suc i) vs)

module _ {S : Type 0} (k : List ℕ) where
  pub branch_question : (i : ℕ) (ss : List S) (q : Question S) → In q (each_branch k i ss)
      → (n : ℕ) × (s : S) × (nth n ss ≡ Some s) × (q ≡ question s stay (at_index k (i + n)))
  branch_question i [] q h = elim h [ ]
  branch_question i (s ∷ ss) q first = (0, s, refl, ap (λ j. question s stay (at_index k j)) (sym (add-zero i)))
  branch_question i (s ∷ ss) q (later h) =
      let w = branch_question (suc i) ss q h in
      let same : suc i + w.0 ≡ i + suc w.0 = omega arith in
      (suc w.0, w.1, w.2, w.3 ∙ ap (λ j. question w.1 stay (at_index k j)) same)

  pub listed_question : (ss : List S) (i : ℕ) (ds : Items) (q : Question S) → In q (item_by_item k ss i ds)
      → (n : ℕ) × (s : S) × (e : Data) × (nth n ss ≡ Some s) × (get_item n ds ≡ Some e) × (q ≡ question s (to_item (i + n) e) (at_index k (i + n)))
  listed_question [] i ds q h = elim h [ ]
  listed_question (s ∷ ss) i no_items q h = elim h [ ]
  listed_question (s ∷ ss) i (item d ds) q first = (0, s, d, refl, refl, ap (λ j. question s (to_item j d) (at_index k j)) (sym (add-zero i)))
  listed_question (s ∷ ss) i (item d ds) q (later h) =
      let w = listed_question ss (suc i) ds q h in
      let same : suc i + w.0 ≡ i + suc w.0 = omega arith in
      (suc w.0, w.1, w.2, w.3, w.4, w.5 ∙ ap (λ j. question w.1 (to_item j w.2) (at_index k j)) same)

-- ---- objects of schemas

module _ {S : Type 0} (k : List ℕ) (d : Data) where
  abbrev asks_there : List ℕ × S → List (Question S)
  asks_there p = if_member (get p.0 d) (λ e. question p.1 stay (at_name k p.0) ∷ [])

  one_there : (p : List ℕ × S) (o : Option Data) (q : Question S) → In q (if_member o (λ e. question p.1 stay (at_name k p.0) ∷ [])) → q ≡ question p.1 stay (at_name k p.0)
  one_there p None q i = elim i [ ]
  one_there p (Some e) q first = refl
  one_there p (Some e) q (later i) = elim i [ ]

  pub triggered_question : (ps : List (List ℕ × S)) (q : Question S) → In q (each_triggered k d ps) → (p : List ℕ × S) × In p ps × (q ≡ question p.1 stay (at_name k p.0))
  triggered_question ps q i = let w = in_some asks_there ps i in (w.0, w.1, one_there w.0 (get w.0.0 d) q w.2)

module _ (k : List ℕ) (d : Data) where
  abbrev asks_entry : List ℕ × Dependency Site → List (Question Site)
  asks_entry p = if_member (get p.0 d) (λ e. applied k p.0 p.1)

  one_applied : (n : List ℕ) (x : Dependency Site) (q : Question Site) → In q (applied k n x) → (s : Site) × (x ≡ applies s) × (q ≡ question s stay (at_name k n))
  one_applied n (needs names) q i = elim i [ ]
  one_applied n (applies s) q first = (s, refl, refl)
  one_applied n (applies s) q (later i) = elim i [ ]

  one_entry : (n : List ℕ) (x : Dependency Site) (o : Option Data) (q : Question Site) → In q (if_member o (λ e. applied k n x))
      → (s : Site) × (x ≡ applies s) × (q ≡ question s stay (at_name k n))
  one_entry n x None q i = elim i [ ]
  one_entry n x (Some e) q i = one_applied n x q i

  pub dependency_question : (ps : List (List ℕ × Dependency Site)) (q : Question Site) → In q (each_dependency k d ps)
      → (p : List ℕ × Dependency Site) × (s : Site) × In p ps × (p.1 ≡ applies s) × (q ≡ question s stay (at_name k p.0))
  dependency_question ps q i =
      let w = in_some asks_entry ps i in
      let v = one_entry w.0.0 w.0.1 (get w.0.0 d) q w.2 in
      (w.0, v.0, w.1, v.1, v.2)

rising_rest : (k : List ℕ) (ms : Members) → rises_from k ms ≡ true → are_rising ms ≡ true
rising_rest k no_members h = refl
rising_rest k (member l e ms) h = (first_rise k l e ms h).1

apart : (k l : List ℕ) (ms : Members) (e : Data) → rises_from l ms ≡ true → get_member k ms ≡ Some e → k ≡ l → ⊥
apart k l ms e r h same =
    let none : get_member k ms ≡ None = ap (λ (n : List ℕ). get_member n ms) same ∙ behind_none l ms r in
    let no : None ≡ Some e = sym none ∙ h in cc

-- the site of a name is that of the schema which the name finds
pub site_found : (site : List Part → Data → Site) (k : List ℕ) (ms : Members) (p : List ℕ × Site) → are_rising ms ≡ true → In p (sites_of_map site k ms)
    → (c : Data) × (get_member p.0 ms ≡ Some c) × (p ≡ (p.0, site (at_name k p.0) c))
site_found site k no_members p r i = elim i [ ]
site_found site k (member n c ms) p r first = (c, get_same n n c ms refl, refl)
site_found site k (member n c ms) p r (later i) =
    let w = site_found site k ms p (rising_rest n ms r) i in (w.0, get_other p.0 n c ms (apart p.0 n ms w.0 r w.1) ∙ w.1, w.2)

-- ---- members by one schema

-- a member is the one that its name finds
listed_found : (k : List ℕ) (e : Data) (ms : Members) → are_rising ms ≡ true → In (k, e) (listed_members ms) → get_member k ms ≡ Some e
listed_found k e no_members r h = elim h [ ]
listed_found k e (member l d ms) r first = get_same k k e ms refl
listed_found k e (member l d ms) r (later h) =
    let g = listed_found k e ms (rising_rest l ms r) h in get_other k l d ms (apart k l ms e r g) ∙ g

pub found_member : (d : Data) (m : List ℕ × Data) → MembersRise d → In m (members_of d) → get m.0 d ≡ Some m.1
found_member null m r h = elim h [ ]
found_member (boolean b) m r h = elim h [ ]
found_member (number n) m r h = elim h [ ]
found_member (string s) m r h = elim h [ ]
found_member (array ds) m r h = elim h [ ]
found_member (object ms) m r h = listed_found m.0 m.1 ms r h

kept_or : {A : Type 0} (b : Bool) (y : A) (xs ys : List A) (x : A) → In x (cond b (y ∷ xs) xs) → (In x xs → In x ys) → In x (y ∷ ys)
kept_or true y xs ys _ first rest = first
kept_or true y xs ys x (later i) rest = later (rest i)
kept_or false y xs ys x i rest = later (rest i)

pub among_kept : {A : Type 0} (test : A → Bool) (xs : List A) (x : A) → In x (filter test xs) → In x xs
among_kept test [] x h = h
among_kept test (y ∷ ys) x h = kept_or (test y) y (filter test ys) ys x h (among_kept test ys x)

pub member_question : {S : Type 0} (k : List ℕ) (s : S) (ms : List (List ℕ × Data)) (q : Question S) → In q (each_member k s ms)
    → (m : List ℕ × Data) × In m ms × (q ≡ question s (to_member m.0 m.1) (at k))
member_question k s ms q i = let w = in_mapped (λ m. question s (to_member m.0 m.1) (at k)) ms i in (w.0, w.1, sym w.2)

-- ---- members whose names patterns match

module _ {S : Type 0} (matches : List ℕ → List ℕ → Bool) (k : List ℕ) (d : Data) where
  abbrev by_pattern : List ℕ × S → List ℕ × Data → Question S
  by_pattern p m = question p.1 (to_member m.0 m.1) (at_name k p.0)

  abbrev matching : List ℕ × S → List (List ℕ × Data)
  matching p = filter (λ m. matched matches p.0 m.0) (members_of d)

  pub matching_question : (ps : List (List ℕ × S)) (q : Question S) → In q (each_matching matches k d ps)
      → (p : List ℕ × S) × (m : List ℕ × Data) × In p ps × In m (members_of d) × (q ≡ question p.1 (to_member m.0 m.1) (at_name k p.0))
  matching_question ps q i =
      let w = in_some (λ p. map (by_pattern p) (matching p)) ps i in
      let v = in_mapped (by_pattern w.0) (matching w.0) w.2 in
      (w.0, v.0, w.1, among_kept (λ m. matched matches w.0.0 m.0) (members_of d) v.0 v.1, sym v.2)

-- an entry of `dependencies` is that which its name finds
pub entry_found : (site : List Part → Data → Site) (k : List ℕ) (ms : Members) (p : List ℕ × Dependency Site) → are_rising ms ≡ true → In p (dependencies_in site k ms)
    → (c : Data) × (get_member p.0 ms ≡ Some c) × (p ≡ (p.0, dependency_at site k p.0 c))
entry_found site k no_members p r i = elim i [ ]
entry_found site k (member n c ms) p r first = (c, get_same n n c ms refl, refl)
entry_found site k (member n c ms) p r (later i) =
    let w = entry_found site k ms p (rising_rest n ms r) i in (w.0, get_other p.0 n c ms (apart p.0 n ms w.0 r w.1) ∙ w.1, w.2)
