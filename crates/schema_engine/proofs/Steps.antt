-- The steps of the engine.
use Rattle.std.proofs.Common.{◌≡◌, ◌<◌, ◌≤◌, ◌+◌, ◌⊎◌, inl, inr, ℕ, zero, suc, List, [], ◌∷◌, Bool, true, false, ◌&&◌, map, drop, length, get_or, Option, Some, None, IfSome, refl, sym, ap, ap₂, ◌∙◌, subst, arith, add-one}
use Rattle.std.proofs.lemmas.Option.{slice_get_read}
use Rattle.serde_json.specs.Data.{Data}
use Rattle.schema_meaning.specs.Members.{In, first, later, all_true, count_true}
use Rattle.schema_meaning.specs.Places.{stay, value_after}
use Rattle.schema_meaning.specs.Matches.{match_sites}
use Rattle.schema_meaning.specs.Questions.{Question}
use Rattle.schema_meaning.specs.Rules.{Rule, every, together, each_named, some_branch, one_branch, refusal, counted, conditional, asks, accepts, consequents}
use Rattle.schema_meaning.specs.Keywords.{Shape, rule}
use Rattle.schema_meaning.specs.Readings.{Reading, verdicts}
use Rattle.schema_meaning.specs.Cut.{cut_asked, cut_within, cut_unless, is_in_progress}
use Rattle.schema_engine.specs.declared.node.Node.{Node}
use Rattle.schema_engine.specs.declared.place.Place.{Place}
use Rattle.schema_engine.specs.declared.place.Question as code
use Rattle.schema_engine.specs.declared.combination.Combination.{Combination}
use Rattle.schema_engine.specs.Led.{IsLed, goes_on, LedFrom, LedTo, AskedFrom, MayAskFor, HasKeywords, AreReady}
use Rattle.schema_engine.specs.Matches.{Answers, Matches, Start, completed, none_matched}
use Rattle.schema_engine.specs.Places.{value_at}
use Rattle.schema_engine.specs.Progress.{is_among}
use Rattle.schema_engine.specs.Questions.{Call, call, call_of}
use Rattle.schema_engine.specs.declared.combination.Combination.TheVariants as combination
use Rattle.schema_engine.specs.Asking.{AsksEach, AsksCounted, target_call}
use Rattle.schema_engine.specs.Rules.{combination_of, is_right, is_counted, questions_of, combined, all_beside}
use Rattle.schema_engine.specs.Leads.{leads_of}
use Rattle.schema_engine.specs.Graphs.{keywords_at, keywords_or_none, rank_at, reading_of, IsSound}
use Rattle.schema_engine.specs.Verdicts.{Setting, Fits, Tells, MayAsk, EachMayAsk, node_in, asked_in, rule_in, key_in, size}
use Rattle.schema_engine.proofs.Inside.{inside}
use Rattle.schema_engine.proofs.RuleLemmas.{rule_combined}
use Rattle.schema_engine.proofs.Settings.{stepped, entered, target_fits}

-- ---- elements of lists

pub in_map : {A B : Type 0} (f : A → B) (x : A) (xs : List A) → In x xs → In (f x) (map f xs)
in_map f x [] i = elim i [ ]
in_map f x (y ∷ xs) first = first
in_map f x (y ∷ xs) (later i) = later (in_map f x xs i)

in_drop : {A : Type 0} (start i : ℕ) (xs : List A) (x : A) → start ≤ i → i < length xs → x ≡ get_or xs i x → In x (drop start xs)
in_drop start i [] x low high is = absurd (omega arith)
in_drop zero zero (y ∷ xs) x low high is = subst (λ z. In x (z ∷ xs)) is first
in_drop zero (suc i) (y ∷ xs) x low high is = later (in_drop zero i xs x (omega arith) (omega arith) is)
in_drop (suc start) zero (y ∷ xs) x low high is = absurd (omega arith)
in_drop (suc start) (suc i) (y ∷ xs) x low high is = in_drop start i xs x (omega arith) (omega arith) is

in_dropped : {A : Type 0} (start : ℕ) (xs : List A) (x : A) → In x (drop (suc start) xs) → In x (drop start xs)
in_dropped zero [] x i = i
in_dropped zero (y ∷ xs) x i = later i
in_dropped (suc start) [] x i = i
in_dropped (suc start) (y ∷ xs) x i = in_dropped start xs x i

in_mapped : {A B : Type 0} (f : A → B) (xs ys : List A) → ((x : A) → In x xs → In x ys) → (b : B) → In b (map f xs) → In b (map f ys)
in_mapped f [] ys h b i = elim i [ ]
in_mapped f (x ∷ xs) ys h b first = in_map f x ys (h x first)
in_mapped f (x ∷ xs) ys h b (later i) = in_mapped f xs ys (λ y j. h y (later j)) b i

map_map : {A B C : Type 0} (f : B → C) (g : A → B) (xs : List A) → map f (map g xs) ≡ map (λ x. f (g x)) xs
map_map f g [] = refl
map_map f g (x ∷ xs) = ap (λ ys. f (g x) ∷ ys) (map_map f g xs)

-- ---- what may be asked

module _ {K : Type 0} {m : Matches} (nodes : List (Node K)) (rank : ℕ) (d : Data) where
  pub may_ask_one : (start i : ℕ) (qs : List code.Question) (q : code.Question) → EachMayAsk m nodes rank d (map call_of (drop start qs)) → start ≤ i → i < length qs → q ≡ get_or qs i q
      → MayAsk m nodes rank d (call_of q)
  may_ask_one start i qs q may low high is = may.each (call_of q) (in_map call_of q (drop start qs) (in_drop start i qs q low high is))

  pub may_ask_rest : (start : ℕ) (qs : List code.Question) → EachMayAsk m nodes rank d (map call_of (drop start qs)) → EachMayAsk m nodes rank d (map call_of (drop (start + 1) qs))
  may_ask_rest start qs may = record { each = λ c i. may.each c (in_mapped call_of (drop (start + 1) qs) (drop start qs) (λ q j. in_dropped start qs q (rw add-one at j)) c i) }

-- each is a question of the rule
pub record IsAsked (k : Rule ℕ) (c : Call) : Type 0 where
  pub question : Question ℕ
  pub asked : In question (asks k)
  pub node : c.node ≡ question.site
  pub step : c.step ≡ question.step
  pub follows : c.follows ≡ question.follows

asked_plain : (k : Rule ℕ) (b : Bool) (qs : List (Question ℕ)) → ((q : Question ℕ) → In q qs → In q (asks k)) → (c : Call) → In c (map (call b) qs) → IsAsked k c
asked_plain k b [] among c i = elim i [ ]
asked_plain k b (q ∷ qs) among c first = record { question = q; asked = among q first; node = refl; step = refl; follows = refl }
asked_plain k b (q ∷ qs) among c (later i) = asked_plain k b qs (λ p j. among p (later j)) c i

asked_beside : (k : Rule ℕ) (cs : List (Bool × Question ℕ)) → ((q : Question ℕ) → In q (consequents cs) → In q (asks k)) → (c : Call) → In c (map (λ c. call c.0 c.1) cs) → IsAsked k c
asked_beside k [] among c i = elim i [ ]
asked_beside k (x ∷ cs) among c first = record { question = x.1; asked = among x.1 first; node = refl; step = refl; follows = refl }
asked_beside k (x ∷ cs) among c (later i) = asked_beside k cs (λ p j. among p (later j)) c i

all_asked : (k : Rule ℕ) (c : Call) → In c (questions_of k) → IsAsked k c
all_asked (every p notes qs) c i = asked_plain (every p notes qs) true qs (λ q j. j) c i
all_asked (together p note qs) c i = asked_plain (together p note qs) true qs (λ q j. j) c i
all_asked (each_named p s names) c i = asked_plain (each_named p s names) true (asks (each_named p s names)) (λ q j. j) c i
all_asked (some_branch p qs) c i = asked_plain (some_branch p qs) true qs (λ q j. j) c i
all_asked (one_branch p qs) c i = asked_plain (one_branch p qs) true qs (λ q j. j) c i
all_asked (refusal p schema q) c i = asked_plain (refusal p schema q) true (q ∷ []) (λ q j. j) c i
all_asked (counted least most qs) c i = asked_plain (counted least most qs) true qs (λ q j. j) c i
all_asked (conditional q cs) c first = record { question = q; asked = first; node = refl; step = refl; follows = refl }
all_asked (conditional q cs) c (later i) = asked_beside (conditional q cs) cs (λ p j. later j) c i

-- ---- where questions lead

module _ {K : Type 0} (knows : K → (ℕ → List ℕ) → Type 0) (shape : K → Shape ℕ) (nodes : List (Node K)) (n : ℕ) (k : K) (m : Matches) (d : Data)
    (ready : AreReady knows shape m nodes) (led : LedTo m n d) (stands : In k (keywords_at nodes n)) where
  asks_for : (pattern text : List ℕ) → In (pattern, text) (match_sites d (shape k)) → (o : Option Start) → IfSome o (LedFrom m n d)
      → IfSome o (HasKeywords shape nodes) → IfSome o (AskedFrom m pattern text)
  asks_for pattern text i None l a = tt
  asks_for pattern text i (Some s) l a =
      λ rest. record { node = n; value = d; led = l rest; keyword = shape k; stands = a n k stands; asked = i }

  pub may_ask_for : MayAskFor m (shape k) d
  may_ask_for = record { each = λ pattern text i. asks_for pattern text i m.from led ready.asks }

  -- a question of the rule leads on
  leads_on : (c : Call) (s : Start) (rest : Answers) → LedFrom m n d s → HasKeywords shape nodes s → In c (questions_of (rule (completed m rest) d (shape k)))
      → IsLed (completed m rest) s c.node (value_after d c.step)
  leads_on c s rest l a i =
      let reads = completed m rest in
      let one = all_asked (rule reads d (shape k)) c i in
      subst (λ e. IsLed reads s c.node (value_after d e)) (sym one.step)
      (subst (λ e. IsLed reads s e (value_after d one.question.step)) (sym one.node) (goes_on (l rest) (shape k) one.question (a n k stands) one.asked))

  goes_to : (c : Call) → ((rest : Answers) → In c (questions_of (rule (completed m rest) d (shape k)))) → (o : Option Start)
      → IfSome o (LedFrom m n d) → IfSome o (HasKeywords shape nodes) → IfSome o (LedFrom m c.node (value_after d c.step))
  goes_to c i None l a = tt
  goes_to c i (Some s) l a = λ rest. leads_on c s rest l a (i rest)

  -- a question of the rule may be asked where it leads
  asked_so : IsSound shape nodes → (c : Call) → In c (questions_of (rule (completed m none_matched) d (shape k))) → LedTo m c.node (value_after d c.step)
      → MayAsk m nodes (rank_at nodes n) d c
  asked_so sound c i l =
      let reads = completed m none_matched in
      let a = all_asked (rule reads d (shape k)) c i in
      let here = inside reads d (shape k) a.question a.asked in
      record {
        below = rw a.node (sound.below n k a.question.follows a.question.site stands here.leads);
        falls = λ g. rw a.node (sound.falls n k a.question.site stands (subst (λ f. In a.question.site (leads_of f (shape k))) (sym a.follows ∙ g) here.leads));
        stays = λ g. a.step ∙ here.stays (sym a.follows ∙ g);
        down = rw a.step here.down;
        led = l;
      }

  -- calls that the rule asks, however what is not known is answered
  pub each_may_ask : IsSound shape nodes → (cs : List Call) → ((rest : Answers) → cs ≡ questions_of (rule (completed m rest) d (shape k)))
      → EachMayAsk m nodes (rank_at nodes n) d cs
  each_may_ask sound cs is = record {
    each = λ c i. asked_so sound c (subst (In c) (is none_matched) i) (goes_to c (λ rest. subst (In c) (is rest) i) m.from led ready.asks);
  }

module _ {K : Type 0} (knows : K → (ℕ → List ℕ) → Type 0) (shape : K → Shape ℕ) (nodes : List (Node K)) (n : ℕ) (j k : K) (m : Matches) (d : Data)
    (ready : AreReady knows shape m nodes) (led : LedTo m n d) (one : In j (keywords_at nodes n)) (other : In k (keywords_at nodes n)) where
  abbrev IsOfEither : Call → Answers → Type 0
  IsOfEither c rest = In c (questions_of (rule (completed m rest) d (shape j))) ⊎ In c (questions_of (rule (completed m rest) d (shape k)))

  either_goes : (c : Call) → ((rest : Answers) → IsOfEither c rest) → (o : Option Start)
      → IfSome o (LedFrom m n d) → IfSome o (HasKeywords shape nodes) → IfSome o (LedFrom m c.node (value_after d c.step))
  either_goes c i None l a = tt
  either_goes c i (Some s) l a = λ rest.
      elim (i rest) [
        | inl x ↦ leads_on knows shape nodes n j m d ready led one c s rest l a x
        | inr x ↦ leads_on knows shape nodes n k m d ready led other c s rest l a x
      ]

  either_asked : IsSound shape nodes → (c : Call) → IsOfEither c none_matched → LedTo m c.node (value_after d c.step) → MayAsk m nodes (rank_at nodes n) d c
  either_asked sound c (inl x) l = asked_so knows shape nodes n j m d ready led one sound c x l
  either_asked sound c (inr x) l = asked_so knows shape nodes n k m d ready led other sound c x l

  -- calls that either of two rules asks, however what is not known is answered
  pub both_may_ask : IsSound shape nodes → (cs : List Call)
      → ((rest : Answers) (c : Call) → In c cs → In c (questions_of (rule (completed m rest) d (shape j))) ⊎ In c (questions_of (rule (completed m rest) d (shape k))))
      → EachMayAsk m nodes (rank_at nodes n) d cs
  both_may_ask sound cs is = record {
    each = λ c i. either_asked sound c (is none_matched c i) (either_goes c (λ rest. is rest c i) m.from led ready.asks);
  }

-- ---- the keywords of a node

pub keywords_here : {K : Type 0} (nodes : List (Node K)) (n : ℕ) (x : Node K) → n < length nodes → x ≡ get_or nodes n x → keywords_at nodes n ≡ x.keywords.items
keywords_here nodes n x there is = ap keywords_or_none (slice_get_read nodes (length nodes) n x refl there is)

pub keyword_stands : {K : Type 0} (i : ℕ) (ks : List K) (k : K) → i < length ks → k ≡ get_or ks i k → In k ks
keyword_stands i ks k high is = in_drop 0 i ks k (omega arith) high is

-- what is right and asks nothing accepts
rule_settled : (r : Reading ℕ) (x : Setting) (k : Rule ℕ) → is_right k ≡ true → AsksEach k [] → rule_in r k x ≡ true
rule_settled r x k right asks =
    rule_combined r x k
    ∙ ap₂ (λ b c. b && c) right (ap (λ c. combined c (asked_in r x) (questions_of k)) asks.combination ∙ ap (all_beside (asked_in r x) true) asks.questions)

module _ {K : Type 0} (shape : K → Shape ℕ) (matches : List ℕ → List ℕ → Bool) (nodes : List (Node K)) (n : ℕ) (p : Place) (progress : List ℕ) where
  told_by : K → Setting → Bool
  told_by k x = rule_in (reading_of shape matches nodes) (rule matches (value_at p) (shape k)) x

  lower : Setting → ℕ → Setting
  lower x depth = record { depth = depth; keys = x.keys; spot = x.spot }

  lower_fits : (x : Setting) (depth : ℕ) → Fits p progress x → Fits p progress (record { depth = depth; keys = x.keys; spot = x.spot })
  lower_fits x depth fits = record { value = fits.value; called = fits.called; here = fits.here; above = fits.above }

  -- a node is told by its keywords, one question deeper
  node_told : (x : Setting) (depth : ℕ) → x.depth ≡ suc depth → Fits p progress x
      → node_in (reading_of shape matches nodes) n x
      ≡ all_true (map (λ k. rule_in (reading_of shape matches nodes) (rule matches (value_at p) (shape k)) (record { depth = depth; keys = x.keys; spot = x.spot })) (keywords_at nodes n))
  unfolding cut_within rule_in
  node_told x depth deep fits =
      rw deep
      (ap (λ d. all_true (map (λ k. accepts k (map (cut_asked verdicts (reading_of shape matches nodes) (cut_within verdicts (reading_of shape matches nodes) depth) x.keys x.spot) (asks k)))
      (map (rule matches d) (map shape (keywords_at nodes n))))) fits.value
      ∙ ap all_true (map_map (λ k. accepts k (map (cut_asked verdicts (reading_of shape matches nodes) (cut_within verdicts (reading_of shape matches nodes) depth) x.keys x.spot) (asks k)))
      (rule matches (value_at p)) (map shape (keywords_at nodes n))
      ∙ map_map (λ s. accepts (rule matches (value_at p) s) (map (cut_asked verdicts (reading_of shape matches nodes) (cut_within verdicts (reading_of shape matches nodes) depth) x.keys x.spot) (asks (rule matches (value_at p) s)))) shape (keywords_at nodes n)))

  -- a node is accepted where its keywords are, one question deeper
  pub node_by_keywords : (b : Bool)
      → Tells p progress (size nodes (value_at p) progress (rank_at nodes n)) (λ x. all_true (map (λ k. rule_in (reading_of shape matches nodes) (rule matches (value_at p) (shape k)) x) (keywords_at nodes n))) b
      → Tells p progress (suc (size nodes (value_at p) progress (rank_at nodes n))) (node_in (reading_of shape matches nodes) n) b
  node_by_keywords b tells = record { same = λ x fits deep. told x x.depth refl fits deep }
    where
      told : (x : Setting) (m : ℕ) → x.depth ≡ m → Fits p progress x → suc (size nodes (value_at p) progress (rank_at nodes n)) ≤ x.depth
          → b ≡ node_in (reading_of shape matches nodes) n x
      told x zero e fits deep = absurd (omega arith)
      told x (suc m) e fits deep =
          let y : Setting = record { depth = m; keys = x.keys; spot = x.spot } in
          let low : size nodes (value_at p) progress (rank_at nodes n) ≤ m = omega arith in
          tells.same y (lower_fits x m fits) low ∙ sym (node_told x m e fits)

  no_longer : (b : Bool) → (b && false) ≡ false
  no_longer true = refl
  no_longer false = refl

  -- where one is not right of itself, not all are accepted
  some_wrong : (x : Setting) (ks : List K) → all_true (map (λ k. is_right (rule matches (value_at p) (shape k))) ks) ≡ false
      → all_true (map (λ k. rule_in (reading_of shape matches nodes) (rule matches (value_at p) (shape k)) x) ks) ≡ false
  some_wrong x [] e = absurd (cc)
  some_wrong x (k ∷ ks) e = by_test (is_right (rule matches (value_at p) (shape k))) refl e (some_wrong x ks)
    where
      by_test : (b : Bool) → is_right (rule matches (value_at p) (shape k)) ≡ b → (b && all_true (map (λ k. is_right (rule matches (value_at p) (shape k))) ks)) ≡ false
          → (all_true (map (λ k. is_right (rule matches (value_at p) (shape k))) ks) ≡ false → all_true (map (λ k. rule_in (reading_of shape matches nodes) (rule matches (value_at p) (shape k)) x) ks) ≡ false)
          → all_true (map (λ k. rule_in (reading_of shape matches nodes) (rule matches (value_at p) (shape k)) x) (k ∷ ks)) ≡ false
      by_test true is rest others =
          ap (λ c. rule_in (reading_of shape matches nodes) (rule matches (value_at p) (shape k)) x && c) (others rest)
          ∙ no_longer (rule_in (reading_of shape matches nodes) (rule matches (value_at p) (shape k)) x)
      by_test false is rest others =
          let refused : rule_in (reading_of shape matches nodes) (rule matches (value_at p) (shape k)) x ≡ false =
          rule_combined (reading_of shape matches nodes) x (rule matches (value_at p) (shape k)) ∙ rw is refl in
          ap (λ c. c && all_true (map (λ k. rule_in (reading_of shape matches nodes) (rule matches (value_at p) (shape k)) x) ks)) refused

  -- a node with a keyword by which the value itself is wrong
  pub node_wrong : (b : Bool) → b ≡ all_true (map (λ k. is_right (rule matches (value_at p) (shape k))) (keywords_at nodes n)) → b ≡ false
      → Tells p progress (suc (size nodes (value_at p) progress (rank_at nodes n))) (node_in (reading_of shape matches nodes) n) false
  node_wrong b is wrong = record { same = λ x fits deep. told x x.depth refl fits deep }
    where
      told : (x : Setting) (m : ℕ) → x.depth ≡ m → Fits p progress x → suc (size nodes (value_at p) progress (rank_at nodes n)) ≤ x.depth
          → false ≡ node_in (reading_of shape matches nodes) n x
      told x zero e fits deep = absurd (omega arith)
      told x (suc m) e fits deep = sym (node_told x m e fits ∙ some_wrong (record { depth = m; keys = x.keys; spot = x.spot }) (keywords_at nodes n) (sym is ∙ wrong))

  one_right : (b c : Bool) → (b && c) ≡ true → b ≡ true
  one_right true c e = refl
  one_right false c e = absurd (cc)

  others_right : (b c : Bool) → (b && c) ≡ true → c ≡ true
  others_right true c e = e
  others_right false c e = absurd (cc)

  all_settled : (x : Setting) (ks : List K) → all_true (map (λ k. is_right (rule matches (value_at p) (shape k))) ks) ≡ true
      → ((k : K) → In k ks → AsksEach (rule matches (value_at p) (shape k)) [])
      → all_true (map (λ k. rule_in (reading_of shape matches nodes) (rule matches (value_at p) (shape k)) x) ks) ≡ true
  all_settled x [] e settled = refl
  all_settled x (k ∷ ks) e settled =
      ap₂ (λ b c. b && c)
      (rule_settled (reading_of shape matches nodes) x (rule matches (value_at p) (shape k)) (one_right _ _ e) (settled k first))
      (all_settled x ks (others_right _ _ e) (λ j i. settled j (later i)))

  -- a node whose keywords are right and ask nothing
  pub node_settled : (ks : List K) → ks ≡ keywords_at nodes n → all_true (map (λ k. is_right (rule matches (value_at p) (shape k))) ks) ≡ true
      → ((k : K) → In k ks → AsksEach (rule matches (value_at p) (shape k)) [])
      → Tells p progress (suc (size nodes (value_at p) progress (rank_at nodes n))) (node_in (reading_of shape matches nodes) n) true
  node_settled ks is right settled = node_by_keywords true (record {
    same = λ x fits deep.
        sym (ap (λ js. all_true (map (λ k. rule_in (reading_of shape matches nodes) (rule matches (value_at p) (shape k)) x) js)) (sym is) ∙ all_settled x ks right settled);
  })

  pub each_right : (ks : List K) (k : K) → In k ks → all_true (map (λ k. is_right (rule matches (value_at p) (shape k))) ks) ≡ true → is_right (rule matches (value_at p) (shape k)) ≡ true
  each_right [] k i e = elim i [ ]
  each_right (j ∷ ks) k first e = one_right _ _ e
  each_right (j ∷ ks) k (later i) e = each_right ks k i (others_right _ _ e)

-- ---- a keyword

and_true : (b : Bool) → b ≡ b && true
and_true true = refl
and_true false = refl

module _ (r : Reading ℕ) (p : Place) (progress : List ℕ) (enough : ℕ) (k : Rule ℕ) where
  pub keyword_told : (b right : Bool) (combination : Combination) (calls : List Call) → right ≡ is_right k → right ≡ true → combination ≡ combination_of k → calls ≡ questions_of k
      → Tells p progress enough (λ x. combined combination (asked_in r x) calls) b → Tells p progress enough (rule_in r k) b
  keyword_told b right combination calls is good c q tells = record {
    same = λ x fits deep.
        tells.same x fits deep ∙ rw (c, q) (sym (rule_combined r x k ∙ rw (sym is ∙ good) refl));
  }

  -- whose questions are these, each of which has to be answered yes
  pub keyword_each : (b right : Bool) (calls : List Call) → right ≡ is_right k → right ≡ true → AsksEach k calls
      → Tells p progress enough (λ x. all_beside (asked_in r x) true calls) b → Tells p progress enough (rule_in r k) b
  keyword_each b right calls is good asks tells = keyword_told b right combination.Every calls is good (sym asks.combination) (sym asks.questions) tells

  -- whose questions are these, of which so many have to be answered yes
  pub keyword_counted : (b right : Bool) (least : ℕ) (most : Option ℕ) (calls : List Call) → right ≡ is_right k → right ≡ true → AsksCounted k least most calls
      → Tells p progress enough (λ x. is_counted least most (count_true (map (asked_in r x) calls))) b → Tells p progress enough (rule_in r k) b
  keyword_counted b right least most calls is good asks tells = record {
    same = λ x fits deep.
        tells.same x fits deep ∙ sym (rule_combined r x k ∙ rw (sym is ∙ good) refl ∙ asks.verdict (asked_in r x));
  }

  pub keyword_alone : (right : Bool) → right ≡ is_right k → right ≡ true → AsksEach k [] → Tells p progress enough (rule_in r k) true
  keyword_alone right is good asks = keyword_each true right [] is good asks (record { same = λ x fits deep. refl })

  pub keyword_targeted : (b right : Bool) (t : ℕ) → right ≡ is_right k → right ≡ true → AsksEach k (target_call t ∷ [])
      → Tells p progress enough (λ x. asked_in r x (target_call t)) b → Tells p progress enough (rule_in r k) b
  keyword_targeted b right t is good asks tells =
      keyword_each b right (target_call t ∷ []) is good asks
      (record { same = λ x fits deep. tells.same x fits deep ∙ and_true (asked_in r x (target_call t)) })

-- ---- a question

module _ (r : Reading ℕ) where
  -- where no reference is followed
  step_told : (x : Setting) (c : Call) → c.follows ≡ false → asked_in r x c ≡ node_in r c.node (stepped x c.step)
  unfolding asked_in
  step_told x c plain = rw plain refl

  pub question_told : (p to : Place) (progress inner : List ℕ) (enough less : ℕ) (c : Call) (b : Bool) → less < enough → c.follows ≡ false
      → ((x : Setting) → Fits p progress x → Fits to inner (stepped x c.step)) → Tells to inner (suc less) (node_in r c.node) b
      → Tells p progress enough (λ x. asked_in r x c) b
  question_told p to progress inner enough less c b falls plain fit tells = record {
    same = λ x fits deep.
        tells.same (stepped x c.step) (fit x fits) (omega arith) ∙ sym (step_told x c plain);
  }

  -- at the target of a reference
  target_at : ℕ → Call
  target_at t = record { node = t; step = stay; follows = true; beside = true }

  -- beside which answer it counts decides nothing
  asked_target : (x : Setting) (c : Call) → c.follows ≡ true → c.step ≡ stay → asked_in r x c ≡ asked_in r x (record { node = c.node; step = stay; follows = true; beside = true })
  unfolding asked_in
  asked_target x c g s = rw (g, s) refl

  pub follows_told : (p : Place) (progress : List ℕ) (enough : ℕ) (c : Call) (b : Bool) → c.follows ≡ true → c.step ≡ stay
      → Tells p progress enough (λ x. asked_in r x (record { node = c.node; step = stay; follows = true; beside = true })) b
      → Tells p progress enough (λ x. asked_in r x c) b
  follows_told p progress enough c b g s tells = record { same = λ x fits deep. tells.same x fits deep ∙ sym (asked_target x c g s) }

module _ {K : Type 0} (shape : K → Shape ℕ) (matches : List ℕ → List ℕ → Bool) (nodes : List (Node K)) (t : ℕ) where
  target_told : (x : Setting) → asked_in (reading_of shape matches nodes) x (record { node = t; step = stay; follows = true; beside = true })
      ≡ cut_unless (is_in_progress (key_in x.spot t) x.keys) true (node_in (reading_of shape matches nodes) t (entered x t))
  unfolding asked_in
  target_told x = refl

  -- a return is accepted
  pub back_told : (p : Place) (progress : List ℕ) (enough : ℕ) → is_among t progress ≡ true
      → Tells p progress enough (λ x. asked_in (reading_of shape matches nodes) x (record { node = t; step = stay; follows = true; beside = true })) true
  back_told p progress enough back = record { same = λ x fits deep. sym (target_told x ∙ rw (fits.here t ∙ back) refl) }

  pub entered_told : (p : Place) (progress : List ℕ) (enough less : ℕ) (b : Bool) → less < enough → is_among t progress ≡ false
      → Tells p (t ∷ progress) (suc less) (node_in (reading_of shape matches nodes) t) b
      → Tells p progress enough (λ x. asked_in (reading_of shape matches nodes) x (record { node = t; step = stay; follows = true; beside = true })) b
  entered_told p progress enough less b falls new tells = record {
    same = λ x fits deep.
        tells.same (entered x t) (target_fits p progress x fits t) (omega arith) ∙ sym (target_told x ∙ rw (fits.here t ∙ new) refl);
  }
