-- What two keywords ask a member at a time is what they ask one after the other.
use Rattle.std.proofs.Common.{◌≡◌, ◌∙◌, ◌++◌, ◌&&◌, ◌⊎◌, inl, inr, ℕ, List, [], ◌∷◌, map, Bool, true, false, refl, sym, ap, ap₂, subst}
use Rattle.std.proofs.Math.Bool.{and_assoc}
use Rattle.std.proofs.lemmas.List.{map-append}
use Rattle.std.specs.List.{flat_map}
use Rattle.serde_json.specs.Data.{Data}
use Rattle.json_values.specs.Patterns.{matched}
use Rattle.schema_meaning.specs.Keywords.{rule}
use Rattle.schema_meaning.specs.Members.{In, first, later}
use Rattle.schema_meaning.specs.Questions as told
use Rattle.schema_meaning.specs.Questions.{Declared, is_declared, members_of, each_member, each_matching, other_members}
use Rattle.schema_engine.specs.Matches.{Answers}
use Rattle.schema_engine.specs.Questions.{Call, call, Pushes}
use Rattle.schema_engine.specs.Rules.{all_beside, combined, passes, questions_of}
use Rattle.schema_engine.specs.Together.{answered, PushesBoth}
use Rattle.schema_engine.specs.declared.place.Question.{Question}
use Rattle.applicators.specs.Forms.{Form, by_pattern, of_others, shape_by, stands}
use Rattle.applicators.specs.declared.combining.Combining.{Combining}
use Rattle.applicators.specs.declared.combining.Combining.TheVariants as combining
use Rattle.applicators.proofs.FormLemmas.{a_keyword}
use Rattle.compiled_keywords.specs.Applied.{asks_of}
use Rattle.compiled_keywords.specs.Forms.{form_of, asked_beside}
use Rattle.compiled_keywords.specs.Members.{matching_of, others_among}
use Rattle.compiled_keywords.specs.Owned as owned
use Rattle.compiled_keywords.specs.Paired.{wants_all, AreBeside, GoTogether, member_call, matched_calls, unless_so, calls_of_member, calls_of_members, calls_of_both}
use Rattle.compiled_keywords.specs.Rules.{combination_by}
use Rattle.compiled_keywords.specs.Shapes.{shape_of}
use Rattle.compiled_keywords.specs.declared.applicator.Applicator.{Applicator}
use Rattle.compiled_keywords.specs.declared.asks.Asks.{Asks}
use Rattle.compiled_keywords.specs.declared.asks.Asks.TheVariants as code
use Rattle.compiled_keywords.specs.declared.keyword.Keyword.TheVariants as keyword
use Rattle.compiled_keywords.proofs.PushLemmas.{none_matched}
use Rattle.compiled_keywords.proofs.RuleLemmas.{combination_so, beside_so}
use Rattle.compiled_keywords.proofs.SeenLemmas.{call_in, calls_so, calls_alone}

-- ---- each answer is yes

behind_next : (x m r : Bool) → (x && (m && r)) ≡ (m && (x && r))
behind_next false false r = refl
behind_next false true r = refl
behind_next true m r = refl

spread : (a x m r : Bool) → (a && (x && (m && r))) ≡ ((a && m) && (x && r))
spread false x m r = refl
spread true x m r = behind_next x m r

middle : (a x m r : Bool) → ((a && x) && (m && r)) ≡ ((a && m) && (x && r))
middle a x m r = and_assoc a x (m && r) ∙ spread a x m r

alone_first : (a r : Bool) → (a && r) ≡ ((a && true) && r)
alone_first false r = refl
alone_first true r = refl

abbrev all : (Call → Bool) → List Call → Bool
all ask cs = all_beside ask true cs

abbrev calls : List (told.Question ℕ) → List Call
calls qs = map (call true) qs

all_both : (ask : Call → Bool) (cs ds : List Call) → all ask (cs ++ ds) ≡ (all ask cs && all ask ds)
all_both ask [] ds = refl
all_both ask (c ∷ cs) ds =
    let one = passes c.beside true (ask c) in
    ap (λ b. one && b) (all_both ask cs ds) ∙ sym (and_assoc one (all ask cs) (all ask ds))

all_asked : (ask : Call → Bool) (ps qs : List (told.Question ℕ)) → all ask (calls (ps ++ qs)) ≡ (all ask (calls ps) && all ask (calls qs))
all_asked ask ps qs = ap (all ask) (map-append (call true) ps qs) ∙ all_both ask (calls ps) (calls qs)

-- ---- elements of lists

in_either : {A : Type 0} {x : A} (xs ys : List A) → In x (xs ++ ys) → In x xs ⊎ In x ys
in_either [] ys i = inr i
in_either (y ∷ xs) ys first = inl first
in_either (y ∷ xs) ys (later i) = elim (in_either xs ys i) [ inl j ↦ inl (later j) | inr j ↦ inr j ]

in_some : {A B : Type 0} (f : A → List B) {y : B} (xs : List A) → In y (flat_map f xs) → (x : A) × In x xs × In y (f x)
in_some f [] i = elim i [ ]
in_some f (x ∷ xs) i = elim (in_either (f x) (flat_map f xs) i) [ inl j ↦ (x, first, j) | inr j ↦ (let w = in_some f xs j in (w.0, later w.1, w.2)) ]

asked_before : {c : Call} (ps qs : List (told.Question ℕ)) → In c (calls ps) → In c (calls (ps ++ qs))
asked_before [] qs i = elim i [ ]
asked_before (p ∷ ps) qs first = first
asked_before (p ∷ ps) qs (later i) = later (asked_before ps qs i)

asked_behind : {c : Call} (ps qs : List (told.Question ℕ)) → In c (calls qs) → In c (calls (ps ++ qs))
asked_behind [] qs i = i
asked_behind (p ∷ ps) qs i = later (asked_behind ps qs i)

-- ---- by the patterns

module _ (reads : Answers) (k : List ℕ) where
  abbrev by_patterns : List (List ℕ × ℕ) → List (List ℕ × Data) → List (told.Question ℕ)
  by_patterns ps ms = flat_map (λ p. matching_of reads k p ms) ps

  -- those of the first member, and those of the others
  all_matched : (ask : Call → Bool) (m : List ℕ × Data) (ms : List (List ℕ × Data)) (ps : List (List ℕ × ℕ))
      → all ask (calls (by_patterns ps (m ∷ ms))) ≡ (all ask (matched_calls reads ps m) && all ask (calls (by_patterns ps ms)))
  all_matched ask m ms [] = refl
  all_matched ask m ms (p ∷ ps) = by (all_matched ask m ms ps) (matched reads p.0 m.0) refl
    where
      here : Bool
      here = all ask (calls (matching_of reads k p ms))

      of_one : Bool
      of_one = all ask (matched_calls reads ps m)

      of_others : Bool
      of_others = all ask (calls (by_patterns ps ms))

      before : all ask (calls (by_patterns ps (m ∷ ms))) ≡ (of_one && of_others)
          → all ask (calls (matching_of reads k p ms ++ by_patterns ps (m ∷ ms))) ≡ (here && (of_one && of_others))
      before rest = all_asked ask (matching_of reads k p ms) (by_patterns ps (m ∷ ms)) ∙ ap (λ b. here && b) rest

      after : (here && of_others) ≡ all ask (calls (by_patterns (p ∷ ps) ms))
      after = sym (all_asked ask (matching_of reads k p ms) (by_patterns ps ms))

      by : all ask (calls (by_patterns ps (m ∷ ms))) ≡ (of_one && of_others) → (b : Bool) → matched reads p.0 m.0 ≡ b
          → all ask (calls (by_patterns (p ∷ ps) (m ∷ ms))) ≡ (all ask (matched_calls reads (p ∷ ps) m) && all ask (calls (by_patterns (p ∷ ps) ms)))
      by rest true e = rw e (ap (λ b. ask (member_call p.1 m) && b) (before rest) ∙ spread (ask (member_call p.1 m)) here of_one of_others ∙ ap (λ b. (ask (member_call p.1 m) && of_one) && b) after)
      by rest false e = rw e (before rest ∙ behind_next here of_one of_others ∙ ap (λ b. of_one && b) after)

  in_matching : (p : List ℕ × ℕ) (m : List ℕ × Data) (ms : List (List ℕ × Data)) → matched reads p.0 m.0 ≡ true → In m ms
      → In (member_call p.1 m) (calls (matching_of reads k p ms))
  in_matching p m [] e i = elim i [ ]
  in_matching p _ (m ∷ ms) e first = rw e first
  in_matching p m (n ∷ ms) e (later i) = by (in_matching p m ms e i) (matched reads p.0 n.0) refl
    where
      by : In (member_call p.1 m) (calls (matching_of reads k p ms)) → (b : Bool) → matched reads p.0 n.0 ≡ b
          → In (member_call p.1 m) (calls (matching_of reads k p (n ∷ ms)))
      by j true so = rw so (later j)
      by j false so = rw so j

  module _ (m : List ℕ × Data) (ms : List (List ℕ × Data)) (there : In m ms) where
    -- a call by a pattern's node is among those, if one by the node of another pattern is
    abbrev IsKept : List (List ℕ × ℕ) → Call → Type 0
    IsKept ps c = In c (matched_calls reads ps m) → In c (calls (by_patterns ps ms))

    in_next : (c : Call) (p : List ℕ × ℕ) (ps : List (List ℕ × ℕ)) → matched reads p.0 m.0 ≡ true → IsKept ps c
        → In c (member_call p.1 m ∷ matched_calls reads ps m) → In c (calls (by_patterns (p ∷ ps) ms))
    in_next _ p ps so rest first = asked_before (matching_of reads k p ms) (by_patterns ps ms) (in_matching p m ms so there)
    in_next c p ps so rest (later i) = asked_behind (matching_of reads k p ms) (by_patterns ps ms) (rest i)

    in_matched : (c : Call) (ps : List (List ℕ × ℕ)) → IsKept ps c
    in_matched c [] i = elim i [ ]
    in_matched c (p ∷ ps) i = by (in_matched c ps) (matched reads p.0 m.0) refl
      where
        by : IsKept ps c → (b : Bool) → matched reads p.0 m.0 ≡ b → In c (calls (by_patterns (p ∷ ps) ms))
        by rest true so =
            let one : matched_calls reads (p ∷ ps) m ≡ member_call p.1 m ∷ matched_calls reads ps m = rw so refl in
            in_next c p ps so rest (subst (In c) one i)
        by rest false so =
            let none : matched_calls reads (p ∷ ps) m ≡ matched_calls reads ps m = rw so refl in
            asked_behind (matching_of reads k p ms) (by_patterns ps ms) (rest (subst (In c) none i))

-- ---- of those that are not declared

module _ (reads : Answers) (l : List ℕ) (w : Declared) (s : ℕ) where
  abbrev of_others_in : List (List ℕ × Data) → List (told.Question ℕ)
  of_others_in ms = each_member l s (others_among reads w ms)

  all_other : (ask : Call → Bool) (m : List ℕ × Data) (ms : List (List ℕ × Data))
      → all ask (calls (of_others_in (m ∷ ms))) ≡ (all ask (unless_so (is_declared reads w m.0) (member_call s m)) && all ask (calls (of_others_in ms)))
  all_other ask m ms = by (is_declared reads w m.0) refl
    where
      by : (b : Bool) → is_declared reads w m.0 ≡ b
          → all ask (calls (of_others_in (m ∷ ms))) ≡ (all ask (unless_so (is_declared reads w m.0) (member_call s m)) && all ask (calls (of_others_in ms)))
      by true e = rw e refl
      by false e = rw e (alone_first (ask (member_call s m)) (all ask (calls (of_others_in ms))))

  in_others : (m : List ℕ × Data) (ms : List (List ℕ × Data)) → is_declared reads w m.0 ≡ false → In m ms → In (member_call s m) (calls (of_others_in ms))
  in_others m [] e i = elim i [ ]
  in_others _ (m ∷ ms) e first = rw e first
  in_others m (n ∷ ms) e (later i) = by (in_others m ms e i) (is_declared reads w n.0) refl
    where
      by : In (member_call s m) (calls (of_others_in ms)) → (b : Bool) → is_declared reads w n.0 ≡ b → In (member_call s m) (calls (of_others_in (n ∷ ms)))
      by j true so = rw so j
      by j false so = rw so (later j)

  in_other : (c : Call) (m : List ℕ × Data) (ms : List (List ℕ × Data)) → In m ms → In c (unless_so (is_declared reads w m.0) (member_call s m))
      → In c (calls (of_others_in ms))
  in_other c m ms i j = by (is_declared reads w m.0) refl
    where
      this : (e : Call) → In e (member_call s m ∷ []) → is_declared reads w m.0 ≡ false → In e (calls (of_others_in ms))
      this _ first so = in_others m ms so i
      this e (later n) so = elim n [ ]

      none : In c [] → In c (calls (of_others_in ms))
      none n = elim n [ ]

      by : (b : Bool) → is_declared reads w m.0 ≡ b → In c (calls (of_others_in ms))
      by true so = none (subst (λ b. In c (unless_so b (member_call s m))) so j)
      by false so = this c (subst (λ b. In c (unless_so b (member_call s m))) so j) so

-- ---- of both

module _ (reads : Answers) (k l : List ℕ) (ps : List (List ℕ × ℕ)) (w : Declared) (s : ℕ) where
  abbrev of_both : List (List ℕ × Data) → List Call
  of_both ms = calls_of_members reads ps w s ms

  all_of_both : (ask : Call → Bool) (ms : List (List ℕ × Data))
      → all ask (of_both ms) ≡ (all ask (calls (by_patterns reads k ps ms)) && all ask (calls (of_others_in reads l w s ms)))
  all_of_both ask [] = sym (ap (λ qs. all ask (calls qs) && true) (none_matched reads k ps))
  all_of_both ask (m ∷ ms) =
      let one = all ask (matched_calls reads ps m) in
      let other = all ask (unless_so (is_declared reads w m.0) (member_call s m)) in
      let ones = all ask (calls (by_patterns reads k ps ms)) in
      let others = all ask (calls (of_others_in reads l w s ms)) in
      all_both ask (calls_of_member reads ps w s m) (of_both ms)
      ∙ ap₂ (λ a b. a && b) (all_both ask (matched_calls reads ps m) (unless_so (is_declared reads w m.0) (member_call s m))) (all_of_both ask ms)
      ∙ middle one other ones others
      ∙ sym (ap₂ (λ a b. a && b) (all_matched reads k ask m ms ps) (all_other reads l w s ask m ms))

  in_both : (c : Call) (ms : List (List ℕ × Data)) → In c (of_both ms)
      → In c (calls (by_patterns reads k ps ms)) ⊎ In c (calls (of_others_in reads l w s ms))
  in_both c ms i =
      let m = in_some (calls_of_member reads ps w s) ms i in
      elim (in_either (matched_calls reads ps m.0) (unless_so (is_declared reads w m.0.0) (member_call s m.0)) m.2) [
        | inl j ↦ inl (in_matched reads k m.0 ms m.1 c ps j)
        | inr j ↦ inr (in_other reads l w s c m.0 ms m.1 j)
      ]

-- ---- what the rules ask, and how the answers make their verdicts

module _ (reads : Answers) (d : Data) where
  pub asked_by : (k : List ℕ) (c : Combining) (f : Form ℕ) (qs : List (told.Question ℕ)) → stands k c f ≡ true
      → map call_in (asked_beside reads k d f) ≡ calls qs → questions_of (rule reads d (shape_by k c f)) ≡ calls qs
  asked_by k c f qs h same =
      sym (calls_so (rule reads d (shape_by k c f))) ∙ ap (map call_in) (beside_so reads d k c f (a_keyword k c f h)) ∙ same

  -- every answer is wanted
  abbrev IsForAll : Combining → Type 0
  IsForAll c = (ask : Call → Bool) (cs : List Call) → combined (combination_by c d) ask cs ≡ all ask cs

  for_all : (c : Combining) → wants_all c ≡ true → IsForAll c
  for_all combining.Every h = λ ask cs. refl
  for_all combining.Together h = λ ask cs. refl
  for_all c h = absurd (cc)

  answered_by : (k : List ℕ) (c : Combining) (f : Form ℕ) (qs : List (told.Question ℕ)) → stands k c f ≡ true → IsForAll c
      → questions_of (rule reads d (shape_by k c f)) ≡ calls qs → (ask : Call → Bool) → answered (rule reads d (shape_by k c f)) ask ≡ all ask (calls qs)
  answered_by k c f qs h every same ask =
      ap₂ (λ combination cs. combined combination ask cs) (combination_so reads d k c f (a_keyword k c f h)) same ∙ every ask (calls qs)

  module _ (k l : List ℕ) (c e : Combining) (first_all : wants_all c ≡ true) (second_all : wants_all e ≡ true) (old new : List Question) where
    both_pushed : (ps : List (List ℕ × ℕ)) (w : Declared) (s : ℕ) → stands k c (by_pattern ps) ≡ true → stands l e (of_others w s) ≡ true
        → Pushes old new (calls_of_members reads ps w s (members_of d))
        → PushesBoth old new (rule reads d (shape_by k c (by_pattern ps))) (rule reads d (shape_by l e (of_others w s)))
    both_pushed ps w s one other h =
        let ones = each_matching reads k d ps in
        let others = each_member l s (other_members reads w d) in
        let asks = asked_by k c (by_pattern ps) ones one (calls_alone ones) in
        let asks_others = asked_by l e (of_others w s) others other (calls_alone others) in
        record {
          kept = h.kept;
          each = λ x i. elim (in_both reads k l ps w s x (members_of d) (subst (In x) h.pushed i)) [
            | inl j ↦ inl (subst (In x) (sym asks) j)
            | inr j ↦ inr (subst (In x) (sym asks_others) j)
          ];
          all = λ ask.
              ap (all ask) h.pushed ∙ all_of_both reads k l ps w s ask (members_of d)
              ∙ sym (ap₂ (λ a b. a && b) (answered_by k c (by_pattern ps) ones one (for_all c first_all) asks ask)
              (answered_by l e (of_others w s) others other (for_all e second_all) asks_others ask));
        }

    by_asks : (x y : Asks) → stands k c (form_of x) ≡ true → stands l e (form_of y) ≡ true → AreBeside x y
        → Pushes old new (calls_of_both reads (form_of x) (form_of y) d)
        → PushesBoth old new (rule reads d (shape_by k c (form_of x))) (rule reads d (shape_by l e (form_of y)))
    by_asks (code.MatchingMembers nodes) (code.OtherMembers declared node) one other beside h =
        both_pushed (map owned.by_pattern nodes.items) (owned.declared_by declared) node one other h
    by_asks x y one other beside h = elim beside [ ]

  -- as two compiled keywords ask
  pub pushed_beside : (a b : Applicator) (old new : List Question) → GoTogether a b
      → Pushes old new (calls_of_both reads (form_of (asks_of a)) (form_of (asks_of b)) d)
      → PushesBoth old new (rule reads d (shape_of (keyword.Applicator a))) (rule reads d (shape_of (keyword.Applicator b)))
  pushed_beside a b old new go h =
      by_asks a.keyword.now b.keyword.now a.combining b.combining go.first go.second old new a.asks b.asks a.stands b.stands go.beside h
