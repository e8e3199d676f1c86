-- A certificate implies refusal.
use Rattle.std.proofs.Common.{◌≡◌, ◌+◌, ℕ, List, Bool, true, false, map, Option, Some, None, sym, ap, ◌∙◌, subst, add_comm}
use Rattle.schema_meaning.specs.Members.{In, all_true, all_known}
use Rattle.json_values.specs.Parts.{Part}
use Rattle.schema_meaning.specs.Places.{Spot}
use Rattle.schema_meaning.specs.Questions.{Question, asked_at}
use Rattle.schema_meaning.specs.Rules.{Rule, asks, accepts, obliged}
use Rattle.schema_meaning.specs.Readings.{Reading, rules, Telling, verdicts, tell_one, told}
use Rattle.schema_meaning.specs.Certificates.{AreAnswers, Certificate, ends, leads}
use Rattle.meaning_laws.specs.Laws.{CertificateRefuses}
use Rattle.meaning_laws.proofs.Known.{Below-all_known, option_map-some, all_known-in}
use Rattle.meaning_laws.proofs.Stays.{told-more, told-asks}
use Rattle.meaning_laws.proofs.Obliged.{one_false, refused_when_obliged, obliged_in, or, answers_are}

some_same : {A : Type 0} (o : Option A) (x y : A) → o ≡ Some x → o ≡ Some y → x ≡ y
some_same None x y e f = cc
some_same (Some z) x y e f = cc

module _ {S A : Type 0} (t : Telling S A) (r : Reading S) where
  pub told_once : (n m : ℕ) (s : S) (w : Spot) (x y : A) → told t r n s w ≡ Some x → told t r m s w ≡ Some y → x ≡ y
  told_once n m s w x y e f =
      let a : told t r (m + n) s w ≡ Some x = told-more t r m n s w x e in
      let b : told t r (n + m) s w ≡ Some y = told-more t r n m s w y f in
      some_same (told t r (m + n) s w) x y a (subst (λ k. told t r k s w ≡ Some y) (add_comm n m) b)

  pub answers_once : (n m : ℕ) (w : Spot) (qs : List (Question S)) (xs ys : List A)
      → all_known (map (λ q. told t r n q.site (asked_at w q)) qs) ≡ Some xs → all_known (map (λ q. told t r m q.site (asked_at w q)) qs) ≡ Some ys → xs ≡ ys
  answers_once n m w qs xs ys e f =
      let a = Below-all_known (λ q. told t r n q.site (asked_at w q)) (λ (q : Question S). told t r (m + n) q.site (asked_at w q)) (λ q. told-more t r m n q.site (asked_at w q)) qs xs e in
      let b = Below-all_known (λ q. told t r m q.site (asked_at w q)) (λ (q : Question S). told t r (n + m) q.site (asked_at w q)) (λ q. told-more t r n m q.site (asked_at w q)) qs ys f in
      some_same (all_known (map (λ q. told t r (m + n) q.site (asked_at w q)) qs)) xs ys a
      (subst (λ k. all_known (map (λ q. told t r k q.site (asked_at w q)) qs) ≡ Some ys) (add_comm n m) b)

module _ {S : Type 0} (r : Reading S) where
  -- a keyword that refuses refuses the value
  refused : (n : ℕ) (s : S) (w : Spot) (b : Bool) → told verdicts r n s w ≡ Some b → (k : Rule S) (bs : List Bool) → In k (rules r s w.value) → AreAnswers r w k bs
      → accepts k bs ≡ false → b ≡ false
  refused n s w b e k bs i a wrong =
      let ask : Question S → Option Bool = λ q. told verdicts r n q.site (asked_at w q) in
      let all = option_map-some all_true (all_known (map (tell_one verdicts w (r.schema_path s) ask) (rules r s w.value))) b (told-asks verdicts r n s w b e) in
      let one = all_known-in (tell_one verdicts w (r.schema_path s) ask) (rules r s w.value) all.0 all.1 k i in
      let of = option_map-some (accepts k) (all_known (map ask (asks k))) one.0 one.1 in
      let same : of.0 ≡ bs = answers_once verdicts r n a.unfoldings w (asks k) of.0 bs of.1 a.are in
      let is : one.0 ≡ false = sym of.2 ∙ ap (accepts k) same ∙ wrong in
      sym all.2 ∙ one_false all.0 (subst (λ x. In x all.0) is one.2)

  pub refuses : (s : S) (w : Spot) (i e : List Part) (b : Bool) (n : ℕ) → Certificate r s w i e → told verdicts r n s w ≡ Some b → b ≡ false
  refuses s w i e b n (ends k bs j a wrong) h = refused n s w b h k bs j a wrong
  refuses s w i e b n (leads k bs q j a o rest) h =
      let ask : Question S → Option Bool = λ q. told verdicts r a.unfoldings q.site (asked_at w q) in
      let are : bs ≡ map (λ q. or true (ask q)) (asks k) = answers_are true ask (asks k) bs a.are in
      let one = all_known-in ask (asks k) bs a.are q (obliged_in k bs q o) in
      let wrong : one.0 ≡ false = refuses q.site (asked_at w q) i e one.0 a.unfoldings rest one.1 in
      let gone : or true (ask q) ≡ false = ap (or true) one.1 ∙ wrong in
      refused n s w b h k bs j a
      (ap (accepts k) are ∙ refused_when_obliged (λ q. or true (ask q)) k q (subst (λ xs. In q (obliged k xs)) are o) gone)

pub certificate_refuses : (S : Type 0) → CertificateRefuses S
certificate_refuses S r s w i e b cert h = refuses r s w i e b h.unfoldings cert h.is
