-- The answers to a keyword's questions, where its site is decided.
use Rattle.std.proofs.Common.{◌≡◌, ◌∙◌, ℕ, List, [], ◌∷◌, Bool, true, false, map, Option, Some, refl, ap, subst}
use Rattle.serde_json.specs.Data.{Data}
use Rattle.schema_meaning.specs.Members.{In, first, later, all_true, all_known}
use Rattle.schema_meaning.specs.Places.{whole, value_after}
use Rattle.schema_meaning.specs.Questions.{Question, asked_at}
use Rattle.schema_meaning.specs.Rules.{Rule, asks, accepts, obliged}
use Rattle.schema_meaning.specs.Readings.{Reading, rules, verdicts, tell_one, told, IsTold}
use Rattle.schema_meaning.specs.Certificates.{AreAnswers}
use Rattle.meaning_laws.proofs.Known.{option_map-some, known_head, all_known-in}
use Rattle.meaning_laws.proofs.Stays.{told-asks}
use Rattle.meaning_laws.proofs.Obliged.{one_false, obliged_in, or, answers_are, refused_when_obliged}
use Rattle.meaning_laws.proofs.Refuses.{told_once}
use Rattle.certificate_laws.specs.Spelled.{AreSpelled}
use Rattle.certificate_laws.proofs.Values.{is_told_same}
use Rattle.certificate_laws.proofs.Steps.{spelled_refuses}

-- each of the answers that are known was asked for
known-of : {A B : Type 0} (f : A → Option B) (qs : List A) (xs : List B) → all_known (map f qs) ≡ Some xs → (x : B) → In x xs → (q : A) × In q qs × (f q ≡ Some x)
known-of f [] [] e x i = elim i [ ]
known-of f [] (y ∷ ys) e x i = cc
known-of f (p ∷ qs) [] e x i = elim i [ ]
known-of {A} {B} f (p ∷ qs) (y ∷ ys) e x i =
    let h = known_head (f p) (all_known (map f qs)) y ys e in go i h.0 (λ j. known-of f qs ys h.1 x j)
  where
    go : {x : B} → In x (y ∷ ys) → f p ≡ Some y → (In x ys → (q : A) × In q qs × (f q ≡ Some x)) → (q : A) × In q (p ∷ qs) × (f q ≡ Some x)
    go first e again = (p, first, e)
    go (later j) e again = let r = again j in (r.0, later r.1, r.2)

some_false : (bs : List Bool) → all_true bs ≡ false → In false bs
some_false [] e = cc
some_false (true ∷ bs) e = later (some_false bs e)
some_false (false ∷ bs) e = first

module _ {S : Type 0} (r : Reading S) where
  -- each keyword of a decided site has its answers
  pub answers_there : (s : S) (d : Data) (b : Bool) → IsTold verdicts r s (whole d) b → (k : Rule S) → In k (rules r s d) → (bs : List Bool) × AreAnswers r (whole d) k bs
  answers_there s d b h k i =
      let ask : Question S → _ = λ q. told verdicts r h.unfoldings q.site (asked_at (whole d) q) in
      let all = option_map-some all_true (all_known (map (tell_one verdicts (whole d) (r.schema_path s) ask) (rules r s d))) b (told-asks verdicts r h.unfoldings s (whole d) b h.is) in
      let one = all_known-in (tell_one verdicts (whole d) (r.schema_path s) ask) (rules r s d) all.0 all.1 k i in
      let of = option_map-some (accepts k) (all_known (map ask (asks k))) one.0 one.1 in
      (of.0, record { unfoldings = h.unfoldings; are = of.1 })

  told_one : (s : S) (d : Data) (b c : Bool) → IsTold verdicts r s (whole d) b → IsTold verdicts r s (whole d) c → b ≡ c
  told_one s d b c g h = told_once verdicts r g.unfoldings h.unfoldings s (whole d) b c g.is h.is

  -- where a question is refused, so is the keyword
  pub some_refused : (d : Data) (k : Rule S) (bs : List Bool) (q : Question S) → AreAnswers r (whole d) k bs → In q (asks k)
      → IsTold verdicts r q.site (whole (value_after d q.step)) false → all_true bs ≡ false
  some_refused d k bs q a i h =
      let one = all_known-in (λ (q : Question S). told verdicts r a.unfoldings q.site (asked_at (whole d) q)) (asks k) bs a.are q i in
      let there = is_told_same r q.site (asked_at (whole d) q) (whole (value_after d q.step)) one.0 refl (record { unfoldings = a.unfoldings; is = one.1 }) in
      one_false bs (subst (λ x. In x bs) (told_one q.site (value_after d q.step) one.0 false there h) one.2)

  -- where all its answers are not yes, a question is refused
  pub refused_some : (d : Data) (k : Rule S) (bs : List Bool) → AreAnswers r (whole d) k bs → all_true bs ≡ false
      → (q : Question S) × In q (asks k) × IsTold verdicts r q.site (whole (value_after d q.step)) false
  refused_some d k bs a e =
      let ask : Question S → _ = λ q. told verdicts r a.unfoldings q.site (asked_at (whole d) q) in
      let one = known-of ask (asks k) bs a.are false (some_false bs e) in
      (one.0, one.1, is_told_same r one.0.site (asked_at (whole d) one.0) (whole (value_after d one.0.step)) false refl (record { unfoldings = a.unfoldings; is = one.2 }))

  pub not_both : (s : S) (d : Data) → IsTold verdicts r s (whole d) false → IsTold verdicts r s (whole d) true → ⊥
  not_both s d g h = let no : false ≡ true = told_one s d false true g h in cc

  -- a keyword whose obliged question leads to a refusal refuses
  pub obliged_refuses : (d : Data) (k : Rule S) (bs : List Bool) (q : Question S) (i e : List ℕ) → AreAnswers r (whole d) k bs → In q (obliged k bs)
      → AreSpelled r q.site (value_after d q.step) i e → accepts k bs ≡ false
  obliged_refuses d k bs q i e a o under =
      let ask : Question S → Option Bool = λ q. told verdicts r a.unfoldings q.site (asked_at (whole d) q) in
      let known = all_known-in ask (asks k) bs a.are q (obliged_in k bs q o) in
      let there : IsTold verdicts r q.site (whole (value_after d q.step)) known.0 =
      is_told_same r q.site (asked_at (whole d) q) (whole (value_after d q.step)) known.0 refl (record { unfoldings = a.unfoldings; is = known.1 }) in
      let no : known.0 ≡ false = spelled_refuses r q.site (value_after d q.step) i e known.0 under there in
      let are : bs ≡ map (λ q. or true (ask q)) (asks k) = answers_are true ask (asks k) bs a.are in
      ap (accepts k) are ∙ refused_when_obliged (λ q. or true (ask q)) k q (subst (λ xs. In q (obliged k xs)) are o) (ap (or true) known.1 ∙ no)
