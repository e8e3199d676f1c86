-- Of the questions of an applicator, texts lead to one at most.
use Rattle.std.proofs.Common.{◌≡◌, ◌∙◌, ◌+◌, ◌<◌, ◌^◌, ◌∷◌, ℕ, List, [], Some, length, Bool, true, false, not, refl, sym, ap, subst, arith}
use Rattle.serde_json.specs.Data.{Data, Members}
use Rattle.serde_json.specs.Find.{get, get_item, get_member}
use Rattle.serde_json.specs.Find as finding
use Rattle.serde_json.specs.View.{view, items_view, members_view}
use Rattle.json_values.specs.Parts.{Part}
use Rattle.schema_meaning.specs.Members.{In, first, later}
use Rattle.schema_meaning.specs.Places.{stay, to_item, to_member}
use Rattle.schema_meaning.specs.Questions.{Question, question, at, at_name, at_index, items_of, items_from, each_branch, each_item, item_by_item, each_declared, each_matching, Declared, is_declared, members_of, other_members, each_member, each_triggered}
use Rattle.schema_meaning.specs.Rules.{asks}
use Rattle.schema_meaning.specs.Keywords.{rule, Dependency, applies}
use Rattle.schema_definitions.specs.Sites.{Site}
use Rattle.json_values.specs.Rising.{are_rising}
use Rattle.certificate_laws.proofs.Listed.{item_question, item_further, declared_question}
use Rattle.fault_paths.specs.Found.{IsIndexed}
use Rattle.fault_paths.proofs.ItemFacts.{at_items, some_one}
use Rattle.applicators.specs.Shapes.{shape_of, site_of, sites_of_list, sites_of_map, declared_by, dependency_at, dependencies_in}
use Rattle.applicators.specs.Asks.{asked_by, are_names, chooses}
use Rattle.applicators.specs.Combined.{name_of, asks_of}
use Rattle.applicators.specs.Applied.{Applicator}
use Rattle.applicators.specs.Lent.{Asks}
use Rattle.applicators.specs.declared.asks.AsksOf.TheVariants as code
use Rattle.applicators.proofs.Asking.{by_values}
use Rattle.applicators.proofs.CombinedLemmas.{follows}
use Rattle.fault_paths.specs.Laws.{NamesRiseIn, BranchesFitIn, MembersRise, OneAhead}
use Rattle.fault_paths.proofs.AskedFacts.{nth, nth_short, sites_counted, branch_question, listed_question, triggered_question, site_found, found_member, among_kept, member_question, matching_question, dependency_question, entry_found}
use Rattle.applicators.specs.Questions.{each_dependency}
use Rattle.fault_paths.proofs.AlikeFacts.{AreAlike, same_items, same_members, same_indexes, same_names}

module _ {S : Type 0} (k : List ℕ) (d : Data) (indexed : IsIndexed d) (q p : Question S) (h : AreAlike q p) where
  -- ---- each item by one schema

  pub items_once : (s : S) (start : ℕ) → In q (each_item k s start (items_from start (items_of d))) → In p (each_item k s start (items_from start (items_of d))) → q ≡ p
  items_once s start i j =
      let w = item_question k s start (items_from start (items_of d)) q i in
      let v = item_question k s start (items_from start (items_of d)) p j in
      let here = at_items (start + w.0) d w.1 (sym (item_further start w.0 (items_of d)) ∙ w.2) in
      let there = at_items (start + v.0) d v.1 (sym (item_further start v.0 (items_of d)) ∙ v.2) in
      let same : start + w.0 ≡ start + v.0 = same_items q p h (start + w.0) (start + v.0) w.1 v.1 (indexed.fits (start + w.0) w.1 here) (indexed.fits (start + v.0) v.1 there)
      (ap (λ (x : Question S). x.step) w.3) (ap (λ (x : Question S). x.step) v.3) in
      let alike : w.1 ≡ v.1 = some_one (finding.at (start + v.0) d) w.1 v.1 (subst (λ (n : ℕ). finding.at n d ≡ Some w.1) same here) there in
      w.3 ∙ ap (λ (n : ℕ). question s (to_item n w.1) (at k)) same ∙ ap (λ (e : Data). question s (to_item (start + v.0) e) (at k)) alike ∙ sym v.3

  -- ---- each item by the schema of its index

  pub list_once : (ss : List S) → In q (item_by_item k ss 0 (items_of d)) → In p (item_by_item k ss 0 (items_of d)) → q ≡ p
  list_once ss i j =
      let w = listed_question k ss 0 (items_of d) q i in
      let v = listed_question k ss 0 (items_of d) p j in
      let fits = indexed.fits w.0 w.2 (at_items w.0 d w.2 w.4) in
      let short = indexed.fits v.0 v.2 (at_items v.0 d v.2 v.4) in
      let both : 0 + w.0 ≡ 0 + v.0 = same_items q p h (0 + w.0) (0 + v.0) w.2 v.2 (omega (arith, fits)) (omega (arith, short))
      (ap (λ (x : Question S). x.step) w.5) (ap (λ (x : Question S). x.step) v.5) in
      let same : w.0 ≡ v.0 = omega (arith, both) in
      let schemas : w.1 ≡ v.1 = some_one (nth v.0 ss) w.1 v.1 (subst (λ (n : ℕ). nth n ss ≡ Some w.1) same w.3) v.3 in
      let alike : w.2 ≡ v.2 = some_one (get_item v.0 (items_of d)) w.2 v.2 (subst (λ (n : ℕ). get_item n (items_of d) ≡ Some w.2) same w.4) v.4 in
      w.5 ∙ ap (λ (n : ℕ). question w.1 (to_item (0 + n) w.2) (at_index k (0 + n))) same ∙ ap (λ (s : S). question s (to_item (0 + v.0) w.2) (at_index k (0 + v.0))) schemas
      ∙ ap (λ (e : Data). question v.1 (to_item (0 + v.0) e) (at_index k (0 + v.0))) alike ∙ sym v.5

module _ {S : Type 0} (k : List ℕ) (q p : Question S) (h : AreAlike q p) where
  -- ---- the value by each schema of a list

  pub branches_once : (ss : List S) → length ss < 2 ^ 64 → In q (each_branch k 0 ss) → In p (each_branch k 0 ss) → q ≡ p
  branches_once ss few i j =
      let w = branch_question k 0 ss q i in
      let v = branch_question k 0 ss p j in
      let fits = nth_short w.0 ss w.1 w.2 in
      let short = nth_short v.0 ss v.1 v.2 in
      let both : 0 + w.0 ≡ 0 + v.0 = same_indexes q p h k (0 + w.0) (0 + v.0) (omega (arith, few, fits)) (omega (arith, few, short))
      (ap (λ (x : Question S). x.added) w.3) (ap (λ (x : Question S). x.added) v.3) in
      let same : w.0 ≡ v.0 = omega (arith, both) in
      let schemas : w.1 ≡ v.1 = some_one (nth v.0 ss) w.1 v.1 (subst (λ (n : ℕ). nth n ss ≡ Some w.1) same w.2) v.2 in
      w.3 ∙ ap (λ (n : ℕ). question w.1 stay (at_index k (0 + n))) same ∙ ap (λ (s : S). question s stay (at_index k (0 + v.0))) schemas ∙ sym v.3

-- ---- the members of one name

same_value : (d : Data) (m n : List ℕ × Data) → MembersRise d → In m (members_of d) → In n (members_of d) → m.0 ≡ n.0 → m.1 ≡ n.1
same_value d m n rising i j same =
    let here : get m.0 d ≡ Some m.1 = found_member d m rising i in
    some_one (get n.0 d) m.1 n.1 (subst (λ (k : List ℕ). get k d ≡ Some m.1) same here) (found_member d n rising j)

module _ (site : List Part → Data → Site) (k : List ℕ) (d : Data) (ms : Members) (rising : are_rising ms ≡ true) (q p : Question Site) (h : AreAlike q p) where
  -- the schemas of one name
  same_named : (x y : List ℕ × Site) → In x (sites_of_map site k ms) → In y (sites_of_map site k ms) → x.0 ≡ y.0 → x ≡ y
  same_named x y i j same =
      let w = site_found site k ms x rising i in
      let v = site_found site k ms y rising j in
      let alike : w.0 ≡ v.0 = some_one (get_member y.0 ms) w.0 v.0 (subst (λ (n : List ℕ). get_member n ms ≡ Some w.0) same w.1) v.1 in
      w.2 ∙ ap (λ (n : List ℕ). (n, site (at_name k n) w.0)) same ∙ ap (λ (c : Data). (y.0, site (at_name k y.0) c)) alike ∙ sym v.2

  -- ---- each declared member

  pub declared_once : In q (each_declared k d (sites_of_map site k ms)) → In p (each_declared k d (sites_of_map site k ms)) → q ≡ p
  declared_once i j =
      let w = declared_question k d (sites_of_map site k ms) q i in
      let v = declared_question k d (sites_of_map site k ms) p j in
      let named : w.0.0 ≡ v.0.0 = same_members q p h w.0.0 v.0.0 w.1 v.1 (ap (λ (x : Question Site). x.step) w.4) (ap (λ (x : Question Site). x.step) v.4) in
      let same : w.0 ≡ v.0 = same_named w.0 v.0 w.2 v.2 named in
      let alike : w.1 ≡ v.1 = some_one (get v.0.0 d) w.1 v.1 (subst (λ (n : List ℕ). get n d ≡ Some w.1) named w.3) v.3 in
      w.4 ∙ ap (λ (x : List ℕ × Site). question x.1 (to_member x.0 w.1) (at_name k x.0)) same ∙ ap (λ (e : Data). question v.0.1 (to_member v.0.0 e) (at_name k v.0.0)) alike ∙ sym v.4

  -- ---- each member whose name a pattern matches

  pub matching_once : (matches : List ℕ → List ℕ → Bool) → MembersRise d → In q (each_matching matches k d (sites_of_map site k ms)) → In p (each_matching matches k d (sites_of_map site k ms)) → q ≡ p
  matching_once matches risen i j =
      let w = matching_question matches k d (sites_of_map site k ms) q i in
      let v = matching_question matches k d (sites_of_map site k ms) p j in
      let patterned : w.0.0 ≡ v.0.0 = same_names q p h k w.0.0 v.0.0 (ap (λ (x : Question Site). x.added) w.4) (ap (λ (x : Question Site). x.added) v.4) in
      let same : w.0 ≡ v.0 = same_named w.0 v.0 w.2 v.2 patterned in
      let named : w.1.0 ≡ v.1.0 = same_members q p h w.1.0 v.1.0 w.1.1 v.1.1 (ap (λ (x : Question Site). x.step) w.4) (ap (λ (x : Question Site). x.step) v.4) in
      let alike : w.1.1 ≡ v.1.1 = same_value d w.1 v.1 risen w.3 v.3 named in
      w.4 ∙ ap (λ (x : List ℕ × Site). question x.1 (to_member w.1.0 w.1.1) (at_name k x.0)) same ∙ ap (λ (n : List ℕ). question v.0.1 (to_member n w.1.1) (at_name k v.0.0)) named
      ∙ ap (λ (e : Data). question v.0.1 (to_member v.1.0 e) (at_name k v.0.0)) alike ∙ sym v.4

  -- ---- the value by the schema of each name that is a member

  pub triggered_once : In q (each_triggered k d (sites_of_map site k ms)) → In p (each_triggered k d (sites_of_map site k ms)) → q ≡ p
  triggered_once i j =
      let w = triggered_question k d (sites_of_map site k ms) q i in
      let v = triggered_question k d (sites_of_map site k ms) p j in
      let named : w.0.0 ≡ v.0.0 = same_names q p h k w.0.0 v.0.0 (ap (λ (x : Question Site). x.added) w.2) (ap (λ (x : Question Site). x.added) v.2) in
      let same : w.0 ≡ v.0 = same_named w.0 v.0 w.1 v.1 named in
      w.2 ∙ ap (λ (x : List ℕ × Site). question x.1 stay (at_name k x.0)) same ∙ sym v.2

-- ---- members by one schema

module _ {S : Type 0} (k : List ℕ) (s : S) (d : Data) (rising : MembersRise d) (q p : Question S) (h : AreAlike q p) where
  pub members_once : (ms : List (List ℕ × Data)) → ((m : List ℕ × Data) → In m ms → In m (members_of d)) → In q (each_member k s ms) → In p (each_member k s ms) → q ≡ p
  members_once ms among i j =
      let w = member_question k s ms q i in
      let v = member_question k s ms p j in
      let named : w.0.0 ≡ v.0.0 = same_members q p h w.0.0 v.0.0 w.0.1 v.0.1 (ap (λ (x : Question S). x.step) w.2) (ap (λ (x : Question S). x.step) v.2) in
      let alike : w.0.1 ≡ v.0.1 = same_value d w.0 v.0 rising (among w.0 w.1) (among v.0 v.1) named in
      w.2 ∙ ap (λ (n : List ℕ). question s (to_member n w.0.1) (at k)) named ∙ ap (λ (e : Data). question s (to_member v.0.0 e) (at k)) alike ∙ sym v.2

  pub others_once : (matches : List ℕ → List ℕ → Bool) (declared : Declared) → In q (each_member k s (other_members matches declared d)) → In p (each_member k s (other_members matches declared d)) → q ≡ p
  others_once matches declared i j =
      members_once (other_members matches declared d) (λ m h. among_kept (λ n. not (is_declared matches declared n.0)) (members_of d) m h) i j

module _ (site : List Part → Data → Site) (k : List ℕ) (d : Data) (ms : Members) (rising : are_rising ms ≡ true) (q p : Question Site) (h : AreAlike q p) where
  -- ---- the value by each entry of `dependencies`

  same_entry : (x y : List ℕ × Dependency Site) → In x (dependencies_in site k ms) → In y (dependencies_in site k ms) → x.0 ≡ y.0 → x ≡ y
  same_entry x y i j same =
      let w = entry_found site k ms x rising i in
      let v = entry_found site k ms y rising j in
      let alike : w.0 ≡ v.0 = some_one (get_member y.0 ms) w.0 v.0 (subst (λ (n : List ℕ). get_member n ms ≡ Some w.0) same w.1) v.1 in
      w.2 ∙ ap (λ (n : List ℕ). (n, dependency_at site k n w.0)) same ∙ ap (λ (c : Data). (y.0, dependency_at site k y.0 c)) alike ∙ sym v.2

  applied_one : (s t : Site) → applies s ≡ applies t → s ≡ t
  applied_one s t e = cc

  pub dependency_once : In q (each_dependency k d (dependencies_in site k ms)) → In p (each_dependency k d (dependencies_in site k ms)) → q ≡ p
  dependency_once i j =
      let w = dependency_question k d (dependencies_in site k ms) q i in
      let v = dependency_question k d (dependencies_in site k ms) p j in
      let named : w.0.0 ≡ v.0.0 = same_names q p h k w.0.0 v.0.0 (ap (λ (x : Question Site). x.added) w.4) (ap (λ (x : Question Site). x.added) v.4) in
      let same : w.0 ≡ v.0 = same_entry w.0 v.0 w.2 v.2 named in
      let alike : w.1 ≡ v.1 = applied_one w.1 v.1 (sym w.3 ∙ ap (λ (x : List ℕ × Dependency Site). x.1) same ∙ v.3) in
      w.4 ∙ ap (λ (s : Site). question s stay (at_name k w.0.0)) alike ∙ ap (λ (n : List ℕ). question v.1 stay (at_name k n)) named ∙ sym v.4

-- ---- the only one

only_one : {S : Type 0} (q p x : Question S) → In q (x ∷ []) → In p (x ∷ []) → q ≡ p
only_one q p x first first = refl
only_one q p x first (later j) = elim j [ ]
only_one q p x (later i) j = elim i [ ]

-- ---- by what is asked

module _ (site : List Part → Data → Site) (matches : List ℕ → List ℕ → Bool) (k : List ℕ) (d : Data) (indexed : IsIndexed d) (rising : MembersRise d) (q p : Question Site) (h : AreAlike q p) where
  abbrev Asked : Question Site → Asks → Type 0
  Asked x f = In x (asked_by site matches k d f)

  pub asked_once : (f : Asks) → NamesRiseIn f → BranchesFitIn f → are_names f ≡ false → chooses f ≡ false → Asked q f → Asked p f → q ≡ p
  asked_once (code.ItemsFrom start schema) r fit n c i j = items_once k d indexed q p h (site_of site k (view schema.now)) start i j
  asked_once (code.ItemByItem schemas) r fit n c i j = list_once k d indexed q p h (sites_of_list site k 0 (items_view schemas.now)) i j
  asked_once (code.DeclaredMembers schemas) r fit n c i j = declared_once site k d (members_view schemas.now.entries) r q p h i j
  asked_once (code.MatchingMembers schemas) r fit n c i j = matching_once site k d (members_view schemas.now.entries) r q p h matches rising i j
  asked_once (code.OtherMembers declared schema) r fit n c i j = others_once k (site_of site k (view schema.now)) d rising q p h matches (declared_by declared) i j
  asked_once (code.Members schema) r fit n c i j = members_once k (site_of site k (view schema.now)) d rising q p h (members_of d) (λ m h. h) i j
  asked_once (code.Names schema) r fit n c i j = cc
  asked_once (code.Triggered schemas) r fit n c i j = triggered_once site k d (members_view schemas.now.entries) r q p h i j
  asked_once (code.Dependencies entries) r fit n c i j = dependency_once site k d (members_view entries.now.entries) r q p h i j
  asked_once (code.Branches schemas) r fit n c i j =
      let count = sites_counted site k 0 schemas.now in branches_once k q p h (sites_of_list site k 0 (items_view schemas.now)) (omega (arith, count, fit)) i j
  asked_once (code.Value schema) r fit n c i j = only_one q p _ i j
  asked_once (code.Condition condition then_schema else_schema) r fit n c i j = cc

pub one_ahead : (a : Applicator) (d : Data) → NamesRiseIn (asks_of a) → BranchesFitIn (asks_of a) → IsIndexed d → MembersRise d → OneAhead a d
one_ahead a d rise fit indexed rising every site matches q p asked also instance evaluation i e j f rest_i rest_e rest_j rest_f at_q on_q at_p on_p =
    let values = by_values a every in
    let are : asks (rule matches d (shape_of site a)) ≡ asked_by site matches (name_of a) d (asks_of a) = (follows site matches d a).asked in
    asked_once site matches (name_of a) d indexed rising q p
    (record {
      instance = instance;
      evaluation = evaluation;
      i = i;
      e = e;
      j = j;
      f = f;
      rest_i = rest_i;
      rest_e = rest_e;
      rest_j = rest_j;
      rest_f = rest_f;
      at_q = at_q;
      on_q = on_q;
      at_p = at_p;
      on_p = on_p;
    })
    (asks_of a) rise fit values.0 values.1 (subst (In q) are asked) (subst (In p) are also)
