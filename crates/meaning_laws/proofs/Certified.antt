-- Every fault has a certificate with its two paths.
use Rattle.std.proofs.Common.{◌≡◌, ◌+◌, ℕ, zero, suc, List, [], ◌∷◌, map, Option, Some, None, option_map, refl, sym, ap, ◌∙◌, subst, arith}
use Rattle.serde_json.specs.Data.{string}
use Rattle.schema_meaning.specs.Members.{In, first, later, all_known}
use Rattle.schema_meaning.specs.Places.{Spot, stay, value_after, path_after}
use Rattle.schema_meaning.specs.Faults.{Fault, Faults, none, join, is_none, instance_path, evaluation_path, Told}
use Rattle.schema_meaning.specs.Questions.{Question, asked_at}
use Rattle.schema_meaning.specs.Rules.{Rule, asks, faults}
use Rattle.schema_meaning.specs.Keywords.{rule}
use Rattle.schema_meaning.specs.Readings.{Reading, rules, verdicts, bags, tell_one, tell, told, unfolded}
use Rattle.schema_meaning.specs.Certificates.{AreAnswers, Certificate, ends, leads}
use Rattle.meaning_laws.specs.Laws.{FaultsAreCertified}
use Rattle.meaning_laws.proofs.Known.{option_map-some, known_head, all_known-in, all_known-through}
use Rattle.meaning_laws.proofs.Stays.{told-asks}
use Rattle.meaning_laws.proofs.Verdicts.{told_agrees}
use Rattle.meaning_laws.proofs.Unfolded.{unfolded-le, told-unfolded, enough}
use Rattle.meaning_laws.proofs.Obliged.{obliged_in, or, answers_are}
use Rattle.meaning_laws.proofs.Traced.{Traced, own, below, named, traced, told_join, in_mapped}
use Rattle.meaning_laws.proofs.Texts.{text_stays}

some_same : {A : Type 0} (o : Option A) (x y : A) → o ≡ Some x → o ≡ Some y → x ≡ y
some_same None x y e f = cc
some_same (Some z) x y e f = cc

-- each of the answers that are known was asked for
known-of : {A B : Type 0} (f : A → Option B) (qs : List A) (xs : List B) → all_known (map f qs) ≡ Some xs → (x : B) → In x xs → (q : A) × In q qs × (f q ≡ Some x)
known-of f [] xs e x i = elim (subst (In x) (sym (some_same (Some []) [] xs refl e)) i) [ ]
known-of {A} {B} f (p ∷ qs) [] e x i = elim i [ ]
known-of {A} {B} f (p ∷ qs) (y ∷ ys) e x i =
    let h = known_head (f p) (all_known (map f qs)) y ys e in go i h.0 (λ j. known-of f qs ys h.1 x j)
  where
    go : {x : B} → In x (y ∷ ys) → f p ≡ Some y → (In x ys → (q : A) × In q qs × (f q ≡ Some x)) → (q : A) × In q (p ∷ qs) × (f q ≡ Some x)
    go first e again = (p, first, e)
    go (later j) e again = let r = again j in (r.0, later r.1, r.2)

module _ {S : Type 0} (r : Reading S) where
  -- the keyword that a fault comes from, with the bags that answer its questions
  record Source (ask : Question S → Option Faults) (s : S) (w : Spot) (f : Fault) : Type 0 where
    pub keyword : Rule S
    pub stands : In keyword (rules r s w.value)
    pub are : all_known (map ask (asks keyword)) ≡ Some (map (λ q. or none (ask q)) (asks keyword))
    pub told : Told f (faults keyword w (r.schema_path s) (map (λ q. or none (ask q)) (asks keyword)))

  source : (ask : Question S → Option Faults) (s : S) (w : Spot) (fs : Faults) → tell bags w (r.schema_path s) ask (rules r s w.value) ≡ Some fs
      → (f : Fault) → Told f fs → Source ask s w f
  source ask s w fs e f h =
      let all = option_map-some join (all_known (map (tell_one bags w (r.schema_path s) ask) (rules r s w.value))) fs e in
      let one = told_join f all.0 (subst (Told f) (sym all.2) h) in
      let k = known-of (tell_one bags w (r.schema_path s) ask) (rules r s w.value) all.0 all.1 one.0 one.1 in
      let of = option_map-some (faults k.0 w (r.schema_path s)) (all_known (map ask (asks k.0))) one.0 k.2 in
      let are : of.0 ≡ map (λ q. or none (ask q)) (asks k.0) = answers_are none ask (asks k.0) of.0 of.1 in
      record {
        keyword = k.0;
        stands = k.1;
        are = of.1 ∙ ap Some are;
        told = subst (Told f) (sym of.2 ∙ ap (faults k.0 w (r.schema_path s)) are) one.2;
      }

  -- ---- a name's faults have the object's path

  asked_stays : (w : Spot) (q : Question S) → q.step ≡ stay → ((asked_at w q).value ≡ w.value) × ((asked_at w q).path ≡ w.path)
  asked_stays w q e = (ap (value_after w.value) e, ap (path_after w.path) e)

  -- a keyword asks of a text at its own place
  text_asked : (s : S) (w : Spot) (t : List ℕ) → w.value ≡ string t → (k : Rule S) → In k (rules r s w.value) → (q : Question S) → In q (asks k) → q.step ≡ stay
  text_asked s w t is k i q j =
      let shape = in_mapped (rule r.matches w.value) (r.keywords s) k i in
      let e : rule r.matches (string t) shape.0 ≡ k = ap (λ d. rule r.matches d shape.0) (sym is) ∙ shape.2 in
      text_stays r.matches t shape.0 q (subst (λ (x : Rule S). In q (asks x)) (sym e) j)

  text_step : (ask : Question S → Option Faults) (s : S) (w : Spot) (t : List ℕ) → w.value ≡ string t
      → ((q : Question S) → (asked_at w q).value ≡ string t → (fs : Faults) → ask q ≡ Some fs → (f : Fault) → Told f fs → instance_path f ≡ (asked_at w q).path)
      → (f : Fault) (from : Source ask s w f) → Traced from.keyword w (λ q. or none (ask q)) f → instance_path f ≡ w.path
  text_step ask s w t is again f from (own wrong p e) = p
  text_step ask s w t is again f from (named q name h i d j p e) = p
  text_step ask s w t is again f from (below q i d) =
      let asked = obliged_in from.keyword _ q i in
      let at = asked_stays w q (text_asked s w t is from.keyword from.stands q asked) in
      let known = all_known-in ask (asks from.keyword) _ from.are q asked in
      again q (at.0 ∙ is) known.0 known.1 f (subst (λ o. Told f (or none o)) known.1 d) ∙ at.1

  text_path : (m : ℕ) (s : S) (w : Spot) (t : List ℕ) → w.value ≡ string t → (fs : Faults) → unfolded bags r m s w ≡ Some fs → (f : Fault) → Told f fs → instance_path f ≡ w.path
  unfolding unfolded
  text_path zero s w t is fs e f h = cc
  text_path (suc m) s w t is fs e f h =
      let ask : Question S → Option Faults = λ q. unfolded bags r m q.site (asked_at w q) in
      let from = source ask s w fs e f h in
      text_step ask s w t is (λ q e fs g f i. text_path m q.site (asked_at w q) t e fs g f i) f from (traced from.keyword w (r.schema_path s) (λ q. or none (ask q)) f from.told)

  -- ---- certificates

  -- what is told with unfoldings at references alone is what is told with unfoldings at every question
  both : (n m : ℕ) (s : S) (w : Spot) (fs gs : Faults) → told bags r n s w ≡ Some fs → unfolded bags r m s w ≡ Some gs → gs ≡ fs
  both n m s w fs gs e f =
      let a = unfolded-le bags r (enough bags r n) (enough bags r n + m) (omega arith) s w fs (told-unfolded bags r n s w fs e) in
      let b = unfolded-le bags r m (enough bags r n + m) (omega arith) s w gs f in
      some_same (unfolded bags r (enough bags r n + m) s w) gs fs b a

  -- the verdicts that answer the questions
  verdicts_are : (n : ℕ) (w : Spot) (qs : List (Question S)) (bags' : List Faults) → all_known (map (λ q. told bags r n q.site (asked_at w q)) qs) ≡ Some bags'
      → all_known (map (λ q. told verdicts r n q.site (asked_at w q)) qs) ≡ Some (map is_none bags')
  verdicts_are n w qs bags' e =
      sym (all_known-through is_none (λ q. told bags r n q.site (asked_at w q)) (λ (q : Question S). told verdicts r n q.site (asked_at w q)) (λ q. told_agrees r n q.site (asked_at w q)) qs)
      ∙ ap (option_map (map is_none)) e

  Certified : S → Spot → Fault → Type 0
  Certified s w f = Certificate r s w (instance_path f) (evaluation_path f)

  step : (n m : ℕ) (s : S) (w : Spot)
      → ((q : Question S) (fs : Faults) → told bags r n q.site (asked_at w q) ≡ Some fs → unfolded bags r m q.site (asked_at w q) ≡ Some fs → (f : Fault) → Told f fs → Certified q.site (asked_at w q) f)
      → ((k : Rule S) → In k (rules r s w.value) → (q : Question S) → In q (asks k) → (fs : Faults) → told bags r n q.site (asked_at w q) ≡ Some fs → unfolded bags r m q.site (asked_at w q) ≡ Some fs)
      → (f : Fault) (from : Source (λ q. told bags r n q.site (asked_at w q)) s w f) → Traced from.keyword w (λ q. or none (told bags r n q.site (asked_at w q))) f → Certified s w f
  unfolding Certified
  step n m s w again same f from (own wrong p e) =
      let answers : AreAnswers r w from.keyword _ = record { unfoldings = n; are = verdicts_are n w (asks from.keyword) _ from.are } in
      subst (λ i. Certificate r s w i (evaluation_path f)) (sym p) (subst (Certificate r s w w.path) (sym e) (ends from.keyword _ from.stands answers wrong))
  step n m s w again same f from (below q i d) =
      let ask : Question S → Option Faults = λ q. told bags r n q.site (asked_at w q) in
      let asked = obliged_in from.keyword _ q i in
      let known = all_known-in ask (asks from.keyword) _ from.are q asked in
      let answers : AreAnswers r w from.keyword _ = record { unfoldings = n; are = verdicts_are n w (asks from.keyword) _ from.are } in
      leads from.keyword _ q from.stands answers i
      (again q known.0 known.1 (same from.keyword from.stands q asked known.0 known.1) f (subst (λ o. Told f (or none o)) known.1 d))
  step n m s w again same f from (named q name h i d j p e) =
      let ask : Question S → Option Faults = λ q. told bags r n q.site (asked_at w q) in
      let asked = obliged_in from.keyword _ q i in
      let known = all_known-in ask (asks from.keyword) _ from.are q asked in
      let answers : AreAnswers r w from.keyword _ = record { unfoldings = n; are = verdicts_are n w (asks from.keyword) _ from.are } in
      let told_h : Told h known.0 = subst (λ o. Told h (or none o)) known.1 d in
      let open_m = same from.keyword from.stands q asked known.0 known.1 in
      let cert : Certificate r q.site (asked_at w q) (instance_path h) (evaluation_path h) = again q known.0 known.1 open_m h told_h in
      let is : (asked_at w q).value ≡ string name = ap (value_after w.value) j in
      let path : instance_path h ≡ instance_path f = text_path m q.site (asked_at w q) name is known.0 open_m h told_h ∙ ap (path_after w.path) j ∙ sym p in
      leads from.keyword _ q from.stands answers i
      (subst (λ x. Certificate r q.site (asked_at w q) x (evaluation_path f)) path (subst (Certificate r q.site (asked_at w q) (instance_path h)) (sym e) cert))

  certified : (n m : ℕ) (s : S) (w : Spot) (fs : Faults) → told bags r n s w ≡ Some fs → unfolded bags r m s w ≡ Some fs → (f : Fault) → Told f fs → Certified s w f
  unfolding unfolded
  certified n zero s w fs e g f h = cc
  certified n (suc m) s w fs e g f h =
      let ask : Question S → Option Faults = λ q. told bags r n q.site (asked_at w q) in
      let ask' : Question S → Option Faults = λ q. unfolded bags r m q.site (asked_at w q) in
      let from = source ask s w fs (told-asks bags r n s w fs e) f h in
      step n m s w (λ q fs e g f i. certified n m q.site (asked_at w q) fs e g f i)
      (λ k i q j fs e.
      let all = option_map-some join (all_known (map (tell_one bags w (r.schema_path s) ask') (rules r s w.value))) _ g in
      let one = all_known-in (tell_one bags w (r.schema_path s) ask') (rules r s w.value) all.0 all.1 k i in
      let of = option_map-some (faults k w (r.schema_path s)) (all_known (map ask' (asks k))) one.0 one.1 in
      let known = all_known-in ask' (asks k) of.0 of.1 q j in
      known.1 ∙ ap Some (both n m q.site (asked_at w q) fs known.0 e known.1))
      f from (traced from.keyword w (r.schema_path s) (λ q. or none (ask q)) f from.told)

pub faults_are_certified : (S : Type 0) → FaultsAreCertified S
unfolding Certified
faults_are_certified S r s w fs h f i =
    certified r h.unfoldings (enough bags r h.unfoldings) s w fs h.is (told-unfolded bags r h.unfoldings s w fs h.is) f i
