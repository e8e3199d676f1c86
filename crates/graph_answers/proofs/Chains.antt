-- Where questions lead in a graph, they lead in the documents that it means; and so what they ask for there.
use Rattle.std.proofs.Common.{◌≡◌, ◌++◌, ℕ, List, [], ◌∷◌, map, Bool, true, false, Option, Some, None, length, refl, sym, ◌∙◌, ap, ap₂, subst}
use Rattle.std.proofs.Math.Logic.{∥∥₁_elim}
use Rattle.std.specs.List.{AllZip, flat_map}
use Rattle.serde_json.specs.Data.{Data}
use Rattle.json_values.specs.Patterns.{matched, or_else}
use Rattle.schema_meaning.specs.Members.{In, first, later, Reordered, nothing_left, kept, exchanged, in_turn}
use Rattle.schema_meaning.specs.Places.{Spot, Key, whole, value_after}
use Rattle.schema_meaning.specs.Questions.{Question, asked_at}
use Rattle.schema_meaning.specs.Rules.{asks}
use Rattle.schema_meaning.specs.Keywords.{Form, Shape, rule}
use Rattle.schema_meaning.specs.Matches.{form_matches, match_sites, with_names}
use Rattle.schema_meaning.specs.Readings.{Reading, Asks}
use Rattle.schema_meaning.specs.Circular.{Leads, starts, inside, follows, key_at}
use Rattle.schema_definitions.specs.Bearers.{Documents}
use Rattle.schema_definitions.specs.Plain.{plain}
use Rattle.schema_definitions.specs.Sites.{Site}
use Rattle.meaning_laws.specs.MatchLaws.{SameOnTheWay}
use Rattle.meaning_laws.proofs.MatchLemmas.{rule_reads}
use Rattle.linked_meanings.specs.Related.{RelatedBeside, RelatedKeywords, RelatedForm, related_each_from, related_by_index, related_by_name, related_by_pattern, related_of_others, related_of_members, related_of_names, related_of_triggered, related_of_dependencies, related_of_branches, related_of_value, related_of_condition, RelatedShape, related_never, related_asserts, related_every, related_together, related_names, related_some, related_one, related_no, related_contains, related_condition, related_reference}
use Rattle.linked_meanings.proofs.RelatedRules.{SameQuestion, same_question, rule_related, asks_related}
use Rattle.reading_laws.specs.Asked.{IsAsked}
use Rattle.reading_laws.proofs.Matched.{asked_matches_are_known}
use Rattle.schema_patterns.specs.declared.table.PatternTable.{PatternTable}
use Rattle.schema_engine.specs.Graphs.{keywords_at}
use Rattle.schema_engine.specs.Led.{IsLed, begins, goes_on, AsksFor}
use Rattle.schema_engine.specs.Matches.{Answers, completed}
use Rattle.schema_engine.specs.declared.node.Node.{Node}
use Rattle.graph_answers.specs.Answers.{IsDecided}
use Rattle.graph_answers.specs.Completions.{found_in, table_finds, matches_with, start_at}
use Rattle.graph_answers.specs.Linking.{StandsFor}
use Rattle.graph_answers.specs.Runs.{IsAskedFor, IsOpen, AreSixOpen}
use Rattle.graph_answers.proofs.TableReads.{same_in_each, found_known}

-- ---- lists

in_map : {A B : Type 0} (f : A → B) (x : A) (xs : List A) → In x xs → In (f x) (map f xs)
in_map f x [] i = elim i [ ]
in_map f x (y ∷ xs) first = first
in_map f x (y ∷ xs) (later i) = later (in_map f x xs i)

in_cases : {A : Type 0} {x y : A} {ys : List A} (P : Type 0) → In x (y ∷ ys) → (x ≡ y → P) → (In x ys → P) → P
in_cases P first here there = here refl
in_cases P (later i) here there = there i

-- what stands in the one order stands in the other
in_back : {A : Type 0} (x : A) (xs ys : List A) → Reordered xs ys → In x ys → In x xs
in_back x _ _ nothing_left i = i
in_back x _ _ (kept {x = y} {xs} {ys} r) i = in_cases (In x (y ∷ xs)) i (λ e. subst (λ z. In x (z ∷ xs)) e first) (λ j. later (in_back x xs ys r j))
in_back x _ _ (exchanged {x = y} {y = z} {xs}) i =
    in_cases (In x (y ∷ z ∷ xs)) i (λ e. later (subst (λ w. In x (w ∷ xs)) e first))
    (λ j. in_cases (In x (y ∷ z ∷ xs)) j (λ e. subst (λ w. In x (w ∷ z ∷ xs)) e first) (λ k. later (later k)))
in_back x _ _ (in_turn {xs} {ys} {zs} r s) i = in_back x xs ys r (in_back x ys zs s i)

beside : {A B : Type 0} (P : A → B → Type 0) (xs : List A) (ys : List B) → AllZip P xs ys → (y : B) → In y ys → (x : A) × In x xs × P x y
beside P [] [] h y i = elim i [ ]
beside P [] (z ∷ ys) h y i = absurd h
beside P (x ∷ xs) [] h y i = elim i [ ]
beside P (x ∷ xs) (z ∷ ys) h y i =
    in_cases ((x : _) × In x _ × P x y) i (λ e. (x, first, subst (P x) (sym e) h.0))
    (λ j. let one = beside P xs ys h.1 y j in (one.0, later one.1, one.2))

-- ---- related keywords ask for the same matches

module _ {S T : Type 0} (like : S → T → Type 0) (d : Data) where
  same_names : (ps : List (List ℕ × S)) (qs : List (List ℕ × T)) → AllZip (RelatedBeside like) ps qs
      → flat_map (λ p. with_names d p.0) ps ≡ flat_map (λ p. with_names d p.0) qs
  same_names [] [] h = refl
  same_names [] (q ∷ qs) h = absurd h
  same_names (p ∷ ps) [] h = absurd h
  same_names (p ∷ ps) (q ∷ qs) h = ap₂ (λ xs ys. xs ++ ys) (ap (with_names d) h.0.0) (same_names ps qs h.1)

  same_matches : (f : Form S) (g : Form T) → RelatedForm like f g → form_matches d f ≡ form_matches d g
  same_matches f g (related_each_from l) = refl
  same_matches f g (related_by_index l) = refl
  same_matches f g (related_by_name l) = refl
  same_matches f g (related_by_pattern {ps} {qs} l) = same_names ps qs l
  same_matches f g (related_of_others l) = refl
  same_matches f g (related_of_members l) = refl
  same_matches f g (related_of_names l) = refl
  same_matches f g (related_of_triggered l) = refl
  same_matches f g (related_of_dependencies l) = refl
  same_matches f g (related_of_branches l) = refl
  same_matches f g (related_of_value l) = refl
  same_matches f g (related_of_condition l x y) = refl

  same_sites : (k : Shape S) (h : Shape T) → RelatedShape like k h → match_sites d k ≡ match_sites d h
  same_sites k h related_never = refl
  same_sites k h related_asserts = refl
  same_sites k h (related_every {f} {g} l) = same_matches f g l
  same_sites k h (related_together {f} {g} l) = same_matches f g l
  same_sites k h (related_names l) = refl
  same_sites k h (related_some {f} {g} l) = same_matches f g l
  same_sites k h (related_one {f} {g} l) = same_matches f g l
  same_sites k h (related_no l) = refl
  same_sites k h (related_contains l) = refl
  same_sites k h (related_condition l x y) = refl
  same_sites k h (related_reference l) = refl

-- ---- chains

module _ {K M : Type 0} (shape : K → Shape ℕ) (finds : M → List ℕ → Option Bool) (nodes : List (Node K)) (table : PatternTable M) (start : ℕ) (d : Data)
    (docs : Documents) (makes : List ℕ → Bool) (matches : List ℕ → List ℕ → Bool) (root : Site) (h : IsDecided shape finds nodes table start d docs makes matches root) where
  abbrev theirs : Reading Site
  theirs = plain docs makes matches

  abbrev Like : Site → ℕ → Type 0
  Like = StandsFor docs h.compiled.sites

  -- where a chain of questions leads in the documents to a site for which a node stands
  record Met (n : ℕ) (e : Data) : Type 0 where
    keys : List Key
    site : Site
    spot : Spot
    chain : Leads theirs root (whole d) keys site spot
    like : Like site n
    value : spot.value ≡ e

  -- a keyword of a site for a node's
  record Twin (s : Site) (k : Shape ℕ) : Type 0 where
    keyword : Shape Site
    stands : In keyword (theirs.keywords s)
    like : RelatedShape Like keyword k

  further : (n : ℕ) (e : Data) (m : Met n e) (a : Question Site) (q : Question ℕ) → SameQuestion Like a q → Asks theirs m.site m.spot a → Met q.site (value_after e q.step)
  further n e m a q (same_question {s} {t} {step} {added} {b} l) asks = by b refl
    where
      one : Question Site
      one = record { site = s; step = step; added = added; follows = b }

      there : (value_after m.spot.value step) ≡ value_after e step
      there = ap (λ v. value_after v step) m.value

      by : (f : Bool) → b ≡ f → Met t (value_after e step)
      by true g = record { keys = key_at theirs m.spot one ∷ m.keys; site = s; spot = asked_at m.spot one; chain = follows m.chain one asks g; like = l; value = there }
      by false g = record { keys = m.keys; site = s; spot = asked_at m.spot one; chain = inside m.chain one asks g; like = l; value = there }

  module _ (rest : Answers) where
    abbrev reads : Answers
    reads = completed (matches_with finds table []) rest

    same : SameOnTheWay theirs reads root (whole d)
    same = same_in_each finds table docs makes matches root d h.finished h.made h.among h.finish rest

    twin : (n : ℕ) (s : Site) → Like s n → (k : Shape ℕ) → In k (map shape (keywords_at nodes n)) → Twin s k
    twin n s like k i =
        let both : RelatedKeywords Like (theirs.keywords s) (map shape (keywords_at nodes n)) = (h.compiled.means.related reads).keywords s n like in
        let one = beside (RelatedShape Like) both.order (map shape (keywords_at nodes n)) both.same k i in
        record { keyword = one.0; stands = in_back one.0 (theirs.keywords s) both.order both.reordered one.1; like = one.2 }

    leads_on : (n : ℕ) (e : Data) → Met n e → (k : Shape ℕ) (q : Question ℕ) → In k (map shape (keywords_at nodes n)) → In q (asks (rule reads e k))
        → Met q.site (value_after e q.step)
    leads_on n e m k q i j =
        let t = twin n m.site m.like k i in
        let v = m.spot.value in
        let zipped = asks_related Like (rule reads e t.keyword) (rule reads e k) (rule_related Like reads e t.keyword k t.like) in
        let one = beside (SameQuestion Like) (asks (rule reads e t.keyword)) (asks (rule reads e k)) zipped q j in
        let read : rule matches v t.keyword ≡ rule reads v t.keyword = rule_reads matches reads v t.keyword ((same m.keys m.site m.spot m.chain).each t.keyword t.stands) in
        let asked : In one.0 (asks (rule matches v t.keyword)) =
        subst (λ x. In one.0 (asks x)) (sym read) (subst (λ w. In one.0 (asks (rule reads w t.keyword))) (sym m.value) one.1) in
        further n e m one.0 q one.2 (record { keyword = rule matches v t.keyword; stands = in_map (rule matches v) t.keyword (theirs.keywords m.site) t.stands; asked = asked })

    met : (n : ℕ) (e : Data) → IsLed reads (start_at shape nodes start d) n e → Met n e
    met _ _ begins = record { keys = []; site = root; spot = whole d; chain = starts; like = h.compiled.begins; value = refl }
    met _ _ (goes_on {n} {d = e} l k q i j) = leads_on n e (met n e l) k q i j

    -- what is asked for by the graph is asked for by the documents
    asked_there : (p t : List ℕ) → AsksFor reads (start_at shape nodes start d) p t → IsAsked docs makes root matches d p t
    asked_there p t a =
        let m = met a.node a.value a.led in
        let w = twin a.node m.site m.like a.keyword a.stands in
        record {
          keys = m.keys;
          site = m.site;
          spot = m.spot;
          chain = m.chain;
          keyword = w.keyword;
          stands = w.stands;
          asked = subst (λ v. In (p, t) (match_sites v w.keyword)) (sym m.value) (subst (In (p, t)) (sym (same_sites Like a.value w.keyword a.keyword w.like)) a.asked);
        }

  -- so no match that is asked for stays unfinished
  known_there : (p t : List ℕ) → IsAskedFor (matches_with finds table []) (start_at shape nodes start d) p t → or_else (table_finds finds table p t) None ≡ None → ⊥
  known_there p t a none =
      let there = asked_there a.0 p t a.1 in
      let of = asked_matches_are_known docs makes root matches d p t there in
      let found = found_known finds table h.finished h.made p t (matched matches p t) (h.among.each there.site of.reached there.keyword there.stands p of.pattern) (h.finish.each p t there) in
      let is : Some (matched matches p t) ≡ None = sym (ap (λ o. or_else o None) (ap (found_in finds t) found.1 ∙ found.2)) ∙ none in
      cc

  pub none_open : (p t : List ℕ) → IsOpen (matches_with finds table []) (start_at shape nodes start d) p t → ⊥
  none_open p t one = ∥∥₁_elim one.asked (λ x y. absurd x) (λ a. known_there p t a one.unknown)

  pub none_of_six : AreSixOpen (matches_with finds table []) (start_at shape nodes start d) → ⊥
  none_of_six six = by six.found six.six six.are_open.each
    where
      by : (found : List (List ℕ × List ℕ)) → length found ≡ 6
          → ((p t : List ℕ) → In (p, t) found → IsOpen (matches_with finds table []) (start_at shape nodes start d) p t) → ⊥
      by [] e each = cc
      by (x ∷ xs) e each = none_open x.0 x.1 (each x.0 x.1 first)
