-- The names of which questions ask, and the members that they leave.
use Rattle.std.proofs.Common.{◌≡◌, ◌∙◌, ◌++◌, ◌&&◌, ◌||◌, ℕ, List, [], ◌∷◌, map, cond, not, Bool, true, false, Bor, Ordering, Less, Equal, Greater, nat_cmp, is_eq, bytes_eq, refl, sym, ap, ap₂, subst}
use Rattle.std.proofs.lemmas.List.{map-append}
use Rattle.std.proofs.lemmas.Map.Text.{is_eq-slice_cmp}
use Rattle.std.proofs.lemmas.Slice.Eq.{bytes_eq-Decides}
use Rattle.std.specs.BTreeSet.{insert_key}
use Rattle.std.specs.Cmp.Lexicographic.{slice_cmp}
use Rattle.std.specs.List.{filter, flat_map, list_any}
use Rattle.serde_json.specs.Data.{Data}
use Rattle.serde_json.specs.declared.value.Value.{Value}
use Rattle.json_values.specs.Patterns.{matched}
use Rattle.json_values.proofs.Names.{name_same}
use Rattle.schema_meaning.specs.Keywords.{rule}
use Rattle.schema_meaning.specs.Members.{In, first, later, is_listed}
use Rattle.schema_meaning.specs.Places.{to_member}
use Rattle.schema_meaning.specs.Questions as told
use Rattle.schema_meaning.specs.Questions.{Declared, members_of, names_of, each_member, each_matching, other_members}
use Rattle.schema_engine.specs.Matches.{Answers}
use Rattle.schema_engine.specs.Questions.{Call, call}
use Rattle.schema_engine.specs.Rules.{AreOf}
use Rattle.schema_engine.specs.Places.{step_of}
use Rattle.schema_engine.specs.declared.place.Asked.{Asked}
use Rattle.schema_engine.specs.declared.place.Asked.TheVariants as asked
use Rattle.schema_engine.specs.declared.place.Question.{Question}
use Rattle.applicators.specs.Forms.{Form, by_pattern, of_others, shape_by, stands}
use Rattle.applicators.specs.declared.combining.Combining.{Combining}
use Rattle.compiled_keywords.specs.Applied.{asks_of, name_of, combining_of}
use Rattle.compiled_keywords.specs.Asked.{patterns_of}
use Rattle.compiled_keywords.specs.Forms.{alone, form_of, added_in, asked_beside}
use Rattle.compiled_keywords.specs.Members.{matching_of}
use Rattle.compiled_keywords.specs.Named.{names_in, names_asked, member_in, others_beside, beside, AskOfOthers, AskWhereMatched, LeaveOthers}
use Rattle.compiled_keywords.specs.Owned as owned
use Rattle.compiled_keywords.specs.Paired.{AreBeside, Pairs}
use Rattle.compiled_keywords.specs.Seen.{Puts, beside_in}
use Rattle.compiled_keywords.specs.Shapes.{shape_of, added_by}
use Rattle.compiled_keywords.specs.declared.applicator.Applicator.{Applicator}
use Rattle.compiled_keywords.specs.declared.asks.Declared as owned_declared
use Rattle.compiled_keywords.specs.declared.asks.Asks.{Asks}
use Rattle.compiled_keywords.specs.declared.asks.Asks.TheVariants as code
use Rattle.compiled_keywords.specs.declared.keyword.Keyword.{Keyword}
use Rattle.compiled_keywords.specs.declared.keyword.Keyword.TheVariants as keyword
use Rattle.compiled_keywords.proofs.Collected.{absorbed, swapped}
use Rattle.compiled_keywords.proofs.PairLemmas.{asked_by}
use Rattle.compiled_keywords.proofs.RuleLemmas.{is_keyword, beside_so}
use Rattle.compiled_keywords.proofs.SeenLemmas.{calls_alone}

abbrev calls : List (told.Question ℕ) → List Call
calls qs = map (call true) qs

-- ---- what is listed

or_assoc : (a b c : Bool) → ((a || b) || c) ≡ (a || (b || c))
or_assoc true b c = refl
or_assoc false b c = refl

listed_both : (n : List ℕ) (xs ys : List (List ℕ)) → is_listed n (xs ++ ys) ≡ (is_listed n xs || is_listed n ys)
listed_both n [] ys = refl
listed_both n (x ∷ xs) ys = ap (λ b. bytes_eq n x || b) (listed_both n xs ys) ∙ sym (or_assoc (bytes_eq n x) (is_listed n xs) (is_listed n ys))

names_both : (cs ds : List Call) → names_in (cs ++ ds) ≡ names_in cs ++ names_in ds
names_both [] ds = refl
names_both (c ∷ cs) ds = ap (λ ns. member_in c.step ++ ns) (names_both cs ds) ∙ sym (joined (member_in c.step) (names_in cs) (names_in ds))
  where
    joined : (xs ys zs : List (List ℕ)) → (xs ++ ys) ++ zs ≡ xs ++ (ys ++ zs)
    joined [] ys zs = refl
    joined (x ∷ xs) ys zs = ap (λ ns. x ∷ ns) (joined xs ys zs)

pub or_none : (b : Bool) → (b || false) ≡ b
or_none true = refl
or_none false = refl

-- ---- of others

names_of_others : (k : List ℕ) (s : ℕ) (ms : List (List ℕ × Data)) → names_in (calls (each_member k s ms)) ≡ map (λ x. x.0) ms
names_of_others k s [] = refl
names_of_others k s (m ∷ ms) = ap (λ ns. m.0 ∷ ns) (names_of_others k s ms)

module _ (reads : Answers) (d : Data) (k : List ℕ) (c : Combining) (qs : List Question) where
  pub asks_of_others : (f : Form ℕ) → stands k c f ≡ true → AreOf (rule reads d (shape_by k c f)) qs → AskOfOthers reads f d qs
  asks_of_others (of_others w s) h are =
      let others = other_members reads w d in
      ap names_in (are ∙ asked_by reads d k c (of_others w s) (each_member k s others) h (calls_alone (each_member k s others))) ∙ names_of_others k s others
  asks_of_others f h are = tt

-- ---- by patterns

-- of one member, by whether it is the name, and whether the pattern matches it
one_listed : (hit same found listed is_so : Bool) → (same ≡ true → hit ≡ is_so) → listed ≡ (hit && found) → cond is_so (same || listed) listed ≡ (hit && (same || found))
one_listed true true found listed true h e = refl
one_listed true true found listed false h e = absurd (let f = h refl in cc)
one_listed true false found listed true h e = e
one_listed true false found listed false h e = e
one_listed false true found listed true h e = absurd (let f = h refl in cc)
one_listed false true found listed false h e = e
one_listed false false found listed true h e = e
one_listed false false found listed false h e = e

either_listed : (a b i : Bool) → ((a && i) || (b && i)) ≡ ((a || b) && i)
either_listed true true true = refl
either_listed true true false = refl
either_listed true false true = refl
either_listed true false false = refl
either_listed false b i = refl

none_either : (b : Bool) → false ≡ (b && false)
none_either true = refl
none_either false = refl

module _ (reads : Answers) (k : List ℕ) (n : List ℕ) where
  listed_matching : (p : List ℕ × ℕ) (ms : List (List ℕ × Data))
      → is_listed n (names_in (calls (matching_of reads k p ms))) ≡ (matched reads p.0 n && is_listed n (map (λ x. x.0) ms))
  listed_matching p [] = none_either (matched reads p.0 n)
  listed_matching p (m ∷ ms) =
      by_match (matched reads p.0 m.0) refl
      ∙ one_listed (matched reads p.0 n) (bytes_eq n m.0) (is_listed n (map (λ x. x.0) ms)) (is_listed n (names_in (calls (matching_of reads k p ms)))) (matched reads p.0 m.0)
      (λ same. ap (matched reads p.0) ((bytes_eq-Decides n m.0).0 same)) (listed_matching p ms)
    where
      here : Bool
      here = is_listed n (names_in (calls (matching_of reads k p ms)))

      by_match : (b : Bool) → matched reads p.0 m.0 ≡ b → is_listed n (names_in (calls (matching_of reads k p (m ∷ ms)))) ≡ cond (matched reads p.0 m.0) (bytes_eq n m.0 || here) here
      by_match true e = rw e refl
      by_match false e = rw e refl

  listed_by : (ps : List (List ℕ × ℕ)) (ms : List (List ℕ × Data))
      → is_listed n (names_in (calls (flat_map (λ p. matching_of reads k p ms) ps))) ≡ (list_any (λ p. matched reads p n) (map (λ p. p.0) ps) && is_listed n (map (λ x. x.0) ms))
  listed_by [] ms = refl
  listed_by (p ∷ ps) ms =
      let here = matching_of reads k p ms in
      let rest = flat_map (λ p. matching_of reads k p ms) ps in
      let listed = is_listed n (map (λ x. x.0) ms) in
      ap (λ cs. is_listed n (names_in cs)) (map-append (call true) here rest) ∙ ap (is_listed n) (names_both (calls here) (calls rest))
      ∙ listed_both n (names_in (calls here)) (names_in (calls rest)) ∙ ap₂ (λ a b. a || b) (listed_matching p ms) (listed_by ps ms)
      ∙ either_listed (matched reads p.0 n) (list_any (λ p. matched reads p n) (map (λ p. p.0) ps)) listed

and_true : (a b : Bool) → b ≡ true → (a && b) ≡ a
and_true true b h = h
and_true false b h = refl

module _ (reads : Answers) (d : Data) (k : List ℕ) (c : Combining) (qs : List Question) where
  leaves_others : (x y : Asks) → stands k c (form_of x) ≡ true → AreBeside x y → AreOf (rule reads d (shape_by k c (form_of x))) qs → LeaveOthers reads (form_of y) d qs
  leaves_others (code.MatchingMembers nodes) (code.OtherMembers declared node) h pairs are =
      let ps = map owned.by_pattern nodes.items in
      let matching = each_matching reads k d ps in
      record {
        each = λ name there.
            ap (λ cs. is_listed name (names_in cs)) (are ∙ asked_by reads d k c (by_pattern ps) matching h (calls_alone matching))
            ∙ listed_by reads k name ps (members_of d)
            ∙ and_true (list_any (λ p. matched reads p name) (patterns_of nodes.items)) (is_listed name (names_of d)) there
            ∙ ap (list_any (λ p. matched reads p name)) pairs;
      }
  leaves_others x y h pairs are = elim pairs [ ]

-- as two compiled keywords ask
pub leaves_beside : (reads : Answers) (d : Data) (one : Keyword) (a : Applicator) (qs : List Question) → Pairs one (keyword.Applicator a) → AreOf (rule reads d (shape_of one)) qs
    → LeaveOthers reads (form_of (asks_of a)) d qs
leaves_beside reads d (keyword.Applicator b) a qs pairs are = leaves_others reads d b.keyword.now b.combining qs b.asks a.asks b.stands pairs.beside are
leaves_beside reads d one a qs pairs are = elim pairs [ ]

-- no other keyword goes with one
pub only_applicators : (one other : Keyword) → ((a : Applicator) → other ≡ keyword.Applicator a → ⊥) → Pairs one other → ⊥
only_applicators one (keyword.Applicator a) not_so pairs = not_so a refl
only_applicators (keyword.Applicator b) other not_so pairs = elim pairs [ ]
only_applicators one other not_so pairs = elim pairs [ ]

pub only_others : (reads : Answers) (d : Data) (asks : Asks) (qs : List Question) → ((w : owned_declared.Declared) (s : ℕ) → asks ≡ code.OtherMembers w s → ⊥) → LeaveOthers reads (form_of asks) d qs → ⊥
only_others reads d (code.OtherMembers w s) qs not_so leaves = not_so w s refl
only_others reads d asks qs not_so leaves = elim leaves [ ]

-- what is pushed for a keyword that asks so
pub puts_left : (reads : Answers) (d : Data) (other : Keyword) (a : Applicator) (old new : List Question) → other ≡ keyword.Applicator a
    → Puts (added_in (name_of a) (form_of (asks_of a))) old new (asked_beside reads (name_of a) d (form_of (asks_of a)))
    → Puts (added_by other) old new (beside_in (rule reads d (shape_of other)))
puts_left reads d other a old new is puts =
    subst (λ (k : Keyword). Puts (added_by k) old new (beside_in (rule reads d (shape_of k)))) (sym is)
    (subst (λ qs. Puts (added_in (name_of a) (form_of (asks_of a))) old new qs) (sym (beside_so reads d (name_of a) (combining_of a) (form_of (asks_of a)) (is_keyword a))) puts)

-- ---- the members that are left

filter_same : {A : Type 0} (f g : A → Bool) (xs : List A) → ((x : A) → In x xs → f x ≡ g x) → filter f xs ≡ filter g xs
filter_same f g [] same = refl
filter_same f g (x ∷ xs) same = ap₂ (λ b ys. cond b (x ∷ ys) ys) (same x first) (filter_same f g xs (λ y i. same y (later i)))

name_listed : (m : List ℕ × Data) (ms : List (List ℕ × Data)) → In m ms → is_listed m.0 (map (λ x. x.0) ms) ≡ true
name_listed m [] i = elim i [ ]
name_listed _ (m ∷ ms) first = ap (λ b. b || is_listed m.0 (map (λ x. x.0) ms)) ((bytes_eq-Decides m.0 m.0).1 refl)
name_listed m (n ∷ ms) (later i) = or_true (bytes_eq m.0 n.0) (name_listed m ms i)
  where
    or_true : (b : Bool) {c : Bool} → c ≡ true → (b || c) ≡ true
    or_true true h = refl
    or_true false h = h

pub others_left : (reads : Answers) (w : Declared) (d : Data) (qs : List Question) → AskWhereMatched reads w d qs
    → others_beside w.names (names_asked qs) (members_of d) ≡ other_members reads w d
others_left reads w d qs so =
    filter_same _ _ (members_of d) (λ m i. ap (λ b. not (is_listed m.0 w.names || b)) (so.each m.0 (name_listed m (members_of d) i)))

-- ---- one member after another

module _ (k : List ℕ) (s : ℕ) (names asked : List (List ℕ)) (n : List ℕ) (e : Data) (ms more : List (List ℕ × Data)) (is : ms ≡ (n, e) ∷ more) where
  pub left_next : (is_listed n names || is_listed n asked) ≡ false
      → map alone (each_member k s (others_beside names asked ms)) ≡ alone (told.question s (to_member n e) (told.at k)) ∷ map alone (each_member k s (others_beside names asked more))
  left_next so = ap (λ xs. map alone (each_member k s (others_beside names asked xs))) is ∙ rw so refl

  pub there_next : (is_listed n names || is_listed n asked) ≡ true
      → map alone (each_member k s (others_beside names asked ms)) ≡ map alone (each_member k s (others_beside names asked more))
  there_next so = ap (λ xs. map alone (each_member k s (others_beside names asked xs))) is ∙ rw so refl

-- ---- names in a set

-- the order of names that are kept
abbrev pub name_cmp : Bor (List ℕ) → Bor (List ℕ) → Ordering
name_cmp a b = slice_cmp nat_cmp a.now b.now

-- a name is kept in a set with one more where it is that one, or was kept before
pub kept_with : (name : List ℕ) (ks : List (Bor (List ℕ))) (k : Bor (List ℕ))
    → list_any (λ x. is_eq (beside name x)) (insert_key name_cmp ks k) ≡ (is_eq (beside name k) || list_any (λ x. is_eq (beside name x)) ks)
kept_with name [] k = refl
kept_with name (x ∷ xs) k = by (kept_with name xs k) (name_cmp k x) refl
  where
    rest : Bool
    rest = list_any (λ y. is_eq (beside name y)) xs

    by : list_any (λ y. is_eq (beside name y)) (insert_key name_cmp xs k) ≡ (is_eq (beside name k) || list_any (λ y. is_eq (beside name y)) xs)
        → (o : Ordering) → name_cmp k x ≡ o
        → list_any (λ y. is_eq (beside name y)) (insert_key name_cmp (x ∷ xs) k) ≡ (is_eq (beside name k) || list_any (λ y. is_eq (beside name y)) (x ∷ xs))
    by before Less e = rw e refl
    by before Equal e = rw (e, ap (λ n. is_eq (slice_cmp nat_cmp name n)) (name_same k.now x.now e)) (absorbed (is_eq (beside name x)) rest)
    by before Greater e = rw (e, before) (swapped (is_eq (beside name x)) (is_eq (beside name k)) rest)

pub told_kept : (name : List ℕ) (k : Bor (List ℕ)) → is_eq (beside name k) ≡ bytes_eq name k.now
told_kept name k = is_eq-slice_cmp name k.now

-- ---- one question after another

pub asked_member : (qs more : List Question) (q : Question) (name : Bor (List ℕ)) (e : Bor Value) → qs ≡ q ∷ more → q.asked ≡ asked.Member name e → names_asked qs ≡ name.now ∷ names_asked more
asked_member qs more q name e are is = ap names_asked are ∙ ap (λ a. member_in (step_of a) ++ names_asked more) is

not_member : (a : Asked) → ((name : Bor (List ℕ)) (e : Bor Value) → a ≡ asked.Member name e → ⊥) → member_in (step_of a) ≡ []
not_member asked.Here other = refl
not_member (asked.Item i v) other = refl
not_member (asked.Member name e) other = absurd (other name e refl)
not_member (asked.Name name) other = refl

pub asked_other : (qs more : List Question) (q : Question) → qs ≡ q ∷ more → ((name : Bor (List ℕ)) (e : Bor Value) → q.asked ≡ asked.Member name e → ⊥) → names_asked qs ≡ names_asked more
asked_other qs more q are other = ap names_asked are ∙ ap (λ ns. ns ++ names_asked more) (not_member q.asked other)
