-- Related readings have the same certificates.
use Rattle.std.proofs.Common.{◌≡◌, ◌≤◌, ◌<◌, ◌++◌, ℕ, List, [], ◌∷◌, Bool, true, false, map, Option, Some, None, refl, sym, ◌∙◌, subst, arith}
use Rattle.std.specs.List.{AllZip}
use Rattle.serde_json.specs.Data.{Data}
use Rattle.schema_meaning.specs.Members.{In, first, later, known_too, all_known, Reordered, nothing_left, kept, exchanged, in_turn}
use Rattle.json_values.specs.Parts.{Part}
use Rattle.schema_meaning.specs.Places.{Spot}
use Rattle.schema_meaning.specs.Faults.{Faults}
use Rattle.schema_meaning.specs.Order.{SameFaults, SameOrOut}
use Rattle.schema_meaning.specs.Questions.{Question, asked_at}
use Rattle.schema_meaning.specs.Rules.{Rule, asks, refuses_at, obliged, lone, chosen, if_same, consequents}
use Rattle.schema_meaning.specs.Keywords.{rule}
use Rattle.schema_meaning.specs.Readings.{Reading, rules, verdicts, bags, told, unfolded, Asks, IsNested}
use Rattle.schema_meaning.specs.Certificates.{AreAnswers, Certificate, ends, leads}
use Rattle.meaning_laws.proofs.Known.{Below}
use Rattle.meaning_laws.proofs.Unfolded.{enough, told-unfolded, unfolded-told}
use Rattle.meaning_laws.proofs.Obliged.{obliged_in}
use Rattle.linked_meanings.specs.Related.{AreRelatedButForPaths, but_for_paths}
use Rattle.linked_meanings.specs.Laws.{HaveSameCertificates, DecideAlike}
use Rattle.linked_meanings.proofs.Alike.{mapped_reordered}
use Rattle.linked_meanings.proofs.RelatedRules.{SameQuestion, same_question, SameSide, same_side, SameRule, same_every, same_together, same_each_named, same_some_branch, same_one_branch, same_refusal, same_counted, same_conditional, asks_related}
use Rattle.linked_meanings.proofs.RelatedAnswers.{accepts_related, rules_related, verdicts_related, related_alike}
use Rattle.linked_meanings.proofs.Turned.{turned, turned_related}

-- ---- what stands among one stands among the other

reordered_in : {A : Type 0} (x : A) (xs ys : List A) → Reordered xs ys → In x xs → In x ys
reordered_in x xs ys nothing_left i = elim i [ ]
reordered_in x xs ys (kept r) first = first
reordered_in x xs ys (kept {xs = us} {ys = vs} r) (later i) = later (reordered_in x us vs r i)
reordered_in x xs ys exchanged first = later first
reordered_in x xs ys exchanged (later first) = first
reordered_in x xs ys exchanged (later (later i)) = later (later i)
reordered_in x xs ys (in_turn {ys = us} r s) i = reordered_in x us ys s (reordered_in x xs us r i)

zip_in : {X Y : Type 0} (P : X → Y → Type 0) (xs : List X) (ys : List Y) → AllZip P xs ys → (x : X) → In x xs → (y : Y) × In y ys × P x y
zip_in P [] ys h x i = elim i [ ]
zip_in P (z ∷ xs) [] h x i = absurd h
zip_in P (z ∷ xs) (y ∷ ys) h x first = (y, first, h.0)
zip_in P (z ∷ xs) (y ∷ ys) h x (later i) = let p = zip_in P xs ys h.1 x i in (p.0, later p.1, p.2)

Below-too : {A : Type 0} (o p : Option A) (os ps : Option (List A)) → Below o p → Below os ps → Below (known_too o os) (known_too p ps)
Below-too None p os ps h hs x e = cc
Below-too (Some y) p None ps h hs x e = cc
Below-too (Some y) p (Some ys) ps h hs x e = rw (h y refl, hs ys refl) e

Below-zip : {X Y A : Type 0} (P : X → Y → Type 0) (f : X → Option A) (g : Y → Option A) (xs : List X) (ys : List Y) → AllZip P xs ys → ((x : X) (y : Y) → P x y → In y ys → Below (f x) (g y))
    → Below (all_known (map f xs)) (all_known (map g ys))
Below-zip P f g [] [] h b x e = e
Below-zip P f g [] (y ∷ ys) h b x e = absurd h
Below-zip P f g (z ∷ xs) [] h b x e = absurd h
Below-zip P f g (z ∷ xs) (y ∷ ys) h b x e = Below-too (f z) (g y) _ _ (b z y h.0 first) (Below-zip P f g xs ys h.1 (λ c d l i. b c d l (later i))) x e

-- ---- rules

module _ {S T : Type 0} (like : S → T → Type 0) where
  -- where they refuse, and the steps that they are obliged to
  refuses_related : (k : Rule S) (h : Rule T) → SameRule like k h → (bs : List Bool) → refuses_at k bs ≡ refuses_at h bs
  refuses_related k h (same_every l) bs = refl
  refuses_related k h (same_together l) bs = refl
  refuses_related k h (same_each_named l) bs = refl
  refuses_related k h (same_some_branch l) bs = refl
  refuses_related k h (same_one_branch l) bs = refl
  refuses_related k h (same_refusal l) bs = refl
  refuses_related k h (same_counted l) bs = refl
  refuses_related k h (same_conditional l m) bs = refl

  lone_related : (qs : List (Question S)) (rs : List (Question T)) → AllZip (SameQuestion like) qs rs → AllZip (SameQuestion like) (lone qs) (lone rs)
  lone_related [] [] h = tt
  lone_related [] (r ∷ rs) h = absurd h
  lone_related (q ∷ qs) [] h = absurd h
  lone_related (q ∷ []) (r ∷ []) h = h
  lone_related (q ∷ []) (r ∷ t ∷ rs) h = absurd h.1
  lone_related (q ∷ s ∷ qs) (r ∷ []) h = absurd h.1
  lone_related (q ∷ s ∷ qs) (r ∷ t ∷ rs) h = tt

  side_related : (b : Bool) (c : Bool × Question S) (e : Bool × Question T) → SameSide like c e → (qs : List (Question S)) (rs : List (Question T)) → AllZip (SameQuestion like) qs rs
      → AllZip (SameQuestion like) (if_same b c.0 c.1 qs) (if_same b e.0 e.1 rs)
  side_related true c e (same_side {b = true} h) qs rs z = (h, z)
  side_related true c e (same_side {b = false} h) qs rs z = z
  side_related false c e (same_side {b = true} h) qs rs z = z
  side_related false c e (same_side {b = false} h) qs rs z = (h, z)

  steps_related : (b : Bool) (cs : List (Bool × Question S)) (es : List (Bool × Question T)) → AllZip (SameSide like) cs es
      → AllZip (SameQuestion like) (chosen b cs (consequents cs)) (chosen b es (consequents es))
  steps_related b [] [] h = tt
  steps_related b [] (e ∷ es) h = absurd h
  steps_related b (c ∷ cs) [] h = absurd h
  steps_related b (c ∷ cs) (e ∷ es) h = side_related b c e h.0 _ _ (steps_related b cs es h.1)

  obliged_related : (k : Rule S) (h : Rule T) → SameRule like k h → (bs : List Bool) → AllZip (SameQuestion like) (obliged k bs) (obliged h bs)
  obliged_related k h (same_every l) bs = l
  obliged_related k h (same_together l) bs = l
  obliged_related k h (same_each_named l) bs = asks_related like k h (same_each_named l)
  obliged_related k h (same_some_branch {qs} {rs} l) bs = lone_related qs rs l
  obliged_related k h (same_one_branch {qs} {rs} l) bs = lone_related qs rs l
  obliged_related k h (same_refusal l) bs = tt
  obliged_related k h (same_counted l) bs = tt
  obliged_related k h (same_conditional l m) [] = tt
  obliged_related k h (same_conditional {cs} {es} l m) (b ∷ bs) = steps_related b cs es m

  spot_same : (w : Spot) (q : Question S) (p : Question T) → SameQuestion like q p → asked_at w q ≡ asked_at w p
  spot_same w q p (same_question h) = refl

  sites_related : (q : Question S) (p : Question T) → SameQuestion like q p → like q.site p.site
  sites_related q p (same_question h) = h

-- ---- certificates

module _ {S T : Type 0} (r : Reading S) (u : Reading T) (like : S → T → Type 0) (related : AreRelatedButForPaths r u like) (nested : IsNested u) where
  -- the keyword of the other reading that is the same
  partner : (s : S) (t : T) → like s t → (d : Data) (k : Rule S) → In k (rules r s d) → (h : Rule T) × In h (rules u t d) × SameRule like k h
  partner s t l d k i =
      let same = related.keywords s t l in
      zip_in (SameRule like) (map (rule r.matches d) same.order) (rules u t d) (rules_related r u like related d same.order (u.keywords t) same.same) k
      (reordered_in k (rules r s d) (map (rule r.matches d) same.order) (mapped_reordered (rule r.matches d) (r.keywords s) same.order same.reordered) i)

  -- a question of a site that nests no deeper than the reading says, neither does its own site
  low : (t : T) (w : Spot) (p : Question T) → nested.rank t ≤ u.nesting → Asks u t w p → nested.rank p.site ≤ u.nesting
  low t w p shallow i = by p.follows refl
    where
      by : (b : Bool) → p.follows ≡ b → nested.rank p.site ≤ u.nesting
      by true e = nested.shallow t w p i e
      by false e = let less : nested.rank p.site < nested.rank t = nested.falls t w p i e in omega (arith, less, shallow)

  told_related : (n : ℕ) (s : S) (t : T) (w : Spot) → like s t → nested.rank t ≤ u.nesting → Below (told verdicts r n s w) (told verdicts u (enough verdicts r n) t w)
  told_related n s t w l shallow x e =
      unfolded-told verdicts u nested (enough verdicts r n) t w shallow x (sym (verdicts_related r u like related (enough verdicts r n) s t w l) ∙ told-unfolded verdicts r n s w x e)

  answers_related : (s : S) (t : T) (w : Spot) → nested.rank t ≤ u.nesting → (k : Rule S) (h : Rule T) → In h (rules u t w.value) → SameRule like k h
      → (bs : List Bool) → AreAnswers r w k bs → AreAnswers u w h bs
  answers_related s t w shallow k h i same bs a = record {
    unfoldings = enough verdicts r a.unfoldings;
    are = Below-zip (SameQuestion like) (λ q. told verdicts r a.unfoldings q.site (asked_at w q)) (λ p. told verdicts u (enough verdicts r a.unfoldings) p.site (asked_at w p))
        (asks k) (asks h) (asks_related like k h same)
        (λ q p l j. subst (λ v. Below (told verdicts r a.unfoldings q.site (asked_at w q)) (told verdicts u (enough verdicts r a.unfoldings) p.site v)) (spot_same like w q p l)
        (told_related a.unfoldings q.site p.site (asked_at w q) (sites_related like q p l) (low t w p shallow (record { keyword = h; stands = i; asked = j })))) bs a.are;
  }

  pub certified : (s : S) (t : T) (w : Spot) (i e : List Part) → like s t → nested.rank t ≤ u.nesting → Certificate r s w i e → Certificate u t w i e
  certified s t w i e l shallow (ends k bs j a wrong) =
      let other = partner s t l w.value k j in
      subst (λ p. Certificate u t w w.path (p ++ w.road)) (sym (refuses_related like k other.0 other.2 bs))
      (ends other.0 bs other.1 (answers_related s t w shallow k other.0 other.1 other.2 bs a) (sym (accepts_related like k other.0 other.2 bs) ∙ wrong))
  certified s t w i e l shallow (leads k bs q j a o rest) =
      let other = partner s t l w.value k j in
      let step = zip_in (SameQuestion like) (obliged k bs) (obliged other.0 bs) (obliged_related like k other.0 other.2 bs) q o in
      let asks_it : Asks u t w step.0 = record { keyword = other.0; stands = other.1; asked = obliged_in other.0 bs step.0 step.1 } in
      leads other.0 bs step.0 other.1 (answers_related s t w shallow k other.0 other.1 other.2 bs a) step.1
      (subst (λ v. Certificate u step.0.site v i e) (spot_same like w q step.0 step.2)
      (certified q.site step.0.site (asked_at w q) i e (sites_related like q step.0 step.2) (low t w step.0 shallow asks_it) rest))

pub related_certified : {S T : Type 0} (like : S → T → Type 0) → HaveSameCertificates like
related_certified like r u related s t w i e l = (
  λ nested shallow c. certified r u like related nested s t w i e l shallow c,
  λ nested shallow c. certified u r (turned like) (turned_related r u like related) nested t s w i e l shallow c,
)

-- ---- what is decided

same_if_known : (o p : Option Faults) → SameOrOut o p → (fs : Faults) → o ≡ Some fs → (gs : Faults) × SameFaults fs gs × (p ≡ Some gs)
same_if_known None p h fs e = cc
same_if_known (Some x) None h fs e = absurd h
same_if_known (Some x) (Some y) h fs e = (y, subst (λ zs. SameFaults zs y) (some_same x fs e) h, refl)
  where
    some_same : (x y : Faults) → Some x ≡ Some y → x ≡ y
    some_same x y e = cc

pub related_told : {S T : Type 0} (like : S → T → Type 0) → DecideAlike like
related_told like r u related s t w l nested shallow = (
  λ b h. record { unfoldings = enough verdicts r h.unfoldings; is = told_related r u like (but_for_paths related) nested h.unfoldings s t w l shallow b h.is },
  λ fs h.
      let n = enough bags r h.unfoldings in
      let alike = related_alike like r u related n s t w l in
      let known = same_if_known (unfolded bags r n s w) (unfolded bags u n t w) alike.1 fs (told-unfolded bags r h.unfoldings s w fs h.is) in
      (known.0, known.1, record { unfoldings = n; is = unfolded-told bags u nested n t w shallow known.0 known.2 }),
)
