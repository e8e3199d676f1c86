-- Related readings are cut alike where equal places stand with equal places.
use Rattle.std.proofs.Common.{◌≡◌, ◌++◌, ℕ, zero, suc, List, [], ◌∷◌, Bool, true, false, ◌&&◌, ◌||◌, map, refl, sym, ap, ap₂, ◌∙◌, ◌≤◌, ◌+◌, ◌*◌, subst, arith}
use Rattle.std.specs.List.{AllZip}
use Rattle.json_values.specs.Parts.{Part}
use Rattle.schema_meaning.specs.Members.{all_true, Reordered}
use Rattle.schema_meaning.specs.Places.{Spot, Key}
use Rattle.schema_meaning.specs.Questions.{Question}
use Rattle.schema_meaning.specs.Rules.{Rule, asks, accepts}
use Rattle.schema_meaning.specs.Keywords.{rule}
use Rattle.schema_meaning.specs.Readings.{Reading, rules, Telling, verdicts, bags}
use Rattle.schema_meaning.specs.Faults.{Faults}
use Rattle.schema_meaning.specs.Order.{SameFaults}
use Rattle.schema_meaning.specs.Circular.{key_at}
use Rattle.schema_meaning.specs.Cut.{same_path, same_name, same_key, is_in_progress, cut_one, cut_unless, cut_asked, cut_within, left, cut}
use Rattle.meaning_laws.proofs.Enough.{cut_is_enough}
use Rattle.linked_meanings.specs.Related.{AreRelatedButForPaths, but_for_paths}
use Rattle.linked_meanings.specs.Laws.{same_place, PlacesGoTogether, CutAlikeWithPlaces, SameCutWithPlaces}
use Rattle.linked_meanings.proofs.Alike.{mapped_reordered}
use Rattle.linked_meanings.proofs.NearFaults.{NearFaults, near_by_way_of, faults_same}
use Rattle.linked_meanings.proofs.RelatedRules.{SameQuestion, same_question, SameRule, asks_related}
use Rattle.linked_meanings.proofs.RelatedAnswers.{rules_related, accepts_related, all_same, all_reordered, faults_related, join_near, join_reordered}

zip_mapped : {X Y A B : Type 0} (P : X → Y → Type 0) (Q : A → B → Type 0) (f : X → A) (g : Y → B) → ((x : X) (y : Y) → P x y → Q (f x) (g y)) → (xs : List X) (ys : List Y) → AllZip P xs ys
    → AllZip Q (map f xs) (map g ys)
zip_mapped P Q f g h [] [] z = tt
zip_mapped P Q f g h [] (y ∷ ys) z = absurd z
zip_mapped P Q f g h (x ∷ xs) [] z = absurd z
zip_mapped P Q f g h (x ∷ xs) (y ∷ ys) z = (h x y z.0, zip_mapped P Q f g h xs ys z.1)

module _ {S T : Type 0} (r : Reading S) (u : Reading T) (like : S → T → Type 0) (places : PlacesGoTogether r u like) where
  -- keys of related targets
  abbrev AlikeKeys : Key → Key → Type 0
  AlikeKeys k l = (s : S) × (t : T) × like s t × (k.target ≡ r.place s) × (l.target ≡ u.place t) × (k.path ≡ l.path) × (k.called ≡ l.called)

  same_alike : (k m : Key) (l n : Key) → AlikeKeys k l → AlikeKeys m n → same_key k m ≡ same_key l n
  same_alike k m l n a b =
      let p : same_place k.target m.target ≡ same_place l.target n.target = ap₂ same_place a.3 b.3 ∙ places a.0 b.0 a.1 b.1 a.2 b.2 ∙ sym (ap₂ same_place a.4 b.4) in
      ap₂ (λ x y. x && y) (ap₂ (λ x y. x && y) p (ap₂ same_path a.5 b.5)) (ap₂ same_name a.6 b.6)

  progress_alike : (k l : Key) → AlikeKeys k l → (ks hs : List Key) → AllZip AlikeKeys ks hs → is_in_progress k ks ≡ is_in_progress l hs
  progress_alike k l a [] [] z = refl
  progress_alike k l a [] (n ∷ hs) z = absurd z
  progress_alike k l a (m ∷ ks) [] z = absurd z
  progress_alike k l a (m ∷ ks) (n ∷ hs) z = ap₂ (λ x y. x || y) (same_alike k m l n a z.0) (progress_alike k l a ks hs z.1)

  module _ {A : Type 0} (related : AreRelatedButForPaths r u like) (beside : List Part → List Part → Type 0) (paths : (s : S) (x : T) → like s x → beside (r.schema_path s) (u.schema_path x))
      (t : Telling S A) (v : Telling T A) (alike : A → A → Type 0) (trans : (x y z : A) → alike x y → alike y z → alike x z)
      (of_rules : (k : Rule S) (h : Rule T) → SameRule like k h → (w : Spot) (p q : List Part) → beside p q → (xs ys : List A) → AllZip alike xs ys
      → alike (t.of_rule k w p xs) (v.of_rule h w q ys))
      (of_alls : (xs ys : List A) → AllZip alike xs ys → alike (t.of_all xs) (v.of_all ys))
      (of_turned : (xs ys : List A) → Reordered xs ys → alike (t.of_all xs) (t.of_all ys)) where
    unless_alike : (b c : Bool) (x y : A) → b ≡ c → alike x y → alike (cut_unless b (t.of_all []) x) (cut_unless c (v.of_all []) y)
    unless_alike true true x y e h = of_alls [] [] tt
    unless_alike true false x y e h = cc
    unless_alike false true x y e h = cc
    unless_alike false false x y e h = h

    asked_alike : (f : List Key → S → Spot → A) (g : List Key → T → Spot → A)
        → ((ks hs : List Key) → AllZip AlikeKeys ks hs → (s : S) (x : T) (w : Spot) → like s x → alike (f ks s w) (g hs x w))
        → (ks hs : List Key) → AllZip AlikeKeys ks hs → (w : Spot) (q : Question S) (p : Question T) → SameQuestion like q p → alike (cut_asked t r f ks w q) (cut_asked v u g hs w p)
    asked_alike f g e ks hs z w q p (same_question {s} {t = x} {step} {added} {b = false} h) = e ks hs z s x _ h
    asked_alike f g e ks hs z w q p (same_question {s} {t = x} {step} {added} {b = true} h) =
        let a : AlikeKeys (key_at r w q) (key_at u w p) = (s, x, h, refl, refl, refl, refl) in
        unless_alike _ _ _ _ (progress_alike (key_at r w q) (key_at u w p) a ks hs z) (e (key_at r w q ∷ ks) (key_at u w p ∷ hs) (a, z) s x _ h)

    pub cut_related : (n : ℕ) (ks hs : List Key) → AllZip AlikeKeys ks hs → (s : S) (x : T) (w : Spot) → like s x → alike (cut_within t r n ks s w) (cut_within v u n hs x w)
    unfolding cut_within
    cut_related zero ks hs z s x w h = of_alls [] [] tt
    cut_related (suc n) ks hs z s x w h =
        let same = related.keywords s x h in
        let one : Rule S → A = cut_one t w (r.schema_path s) (cut_asked t r (cut_within t r n) ks w) in
        let other : Rule T → A = cut_one v w (u.schema_path x) (cut_asked v u (cut_within v u n) hs w) in
        trans _ _ _ (of_turned _ _ (mapped_reordered one _ _ (mapped_reordered (rule r.matches w.value) (r.keywords s) same.order same.reordered)))
        (of_alls _ _ (zip_mapped (SameRule like) alike one other
        (λ k m l. of_rules k m l w (r.schema_path s) (u.schema_path x) (paths s x h) _ _
        (zip_mapped (SameQuestion like) alike (cut_asked t r (cut_within t r n) ks w) (cut_asked v u (cut_within v u n) hs w)
        (asked_alike (cut_within t r n) (cut_within v u n) (cut_related n) ks hs z w) (asks k) (asks m) (asks_related like k m l)))
        (map (rule r.matches w.value) same.order) (rules u x w.value) (rules_related r u like related w.value same.order (u.keywords x) same.same)))

pub cut_alike_with_places : {S T : Type 0} (like : S → T → Type 0) → CutAlikeWithPlaces like
cut_alike_with_places like r u related places n s t w l = (
  cut_related r u like places (but_for_paths related) (λ p q. Unit {0}) (λ s x h. tt) verdicts verdicts (λ a b. a ≡ b) (λ a b c p q. p ∙ q)
      (λ k x h w p q b xs ys z. accepts_related like k x h xs ∙ ap (accepts x) (all_same xs ys z)) (λ xs ys z. ap all_true (all_same xs ys z)) all_reordered n [] [] tt s t w l,
  faults_same (cut_related r u like places (but_for_paths related) (λ p q. p ≡ q) related.paths bags bags (NearFaults (λ p q. p ≡ q)) (λ a b c p q. near_by_way_of p q)
      (faults_related like (λ p q. p ≡ q) (λ p. refl) (λ steps p q e. ap (λ x. steps ++ x) e)) (join_near (λ p q. p ≡ q) (λ p. refl) (λ steps p q e. ap (λ x. steps ++ x) e))
      (join_reordered (λ p q. p ≡ q) (λ p. refl) (λ steps p q e. ap (λ x. steps ++ x) e)) n [] [] tt s t w l),
)

pub same_cut_with_places : {S T : Type 0} (like : S → T → Type 0) → SameCutWithPlaces like
same_cut_with_places {S} {T} like r u related places s t w l i low j shallow ks hs all every =
    let a : ℕ = suc (left [] ks) * suc r.nesting in
    let b : ℕ = suc (left [] hs) * suc u.nesting in
    let same = cut_alike_with_places like r u related places (a + b) s t w l in
    let deep : a ≤ a + b = omega arith in
    let down : b ≤ a + b = omega arith in (
      sym (cut_is_enough S Bool verdicts r s w ks i low all (a + b) deep) ∙ same.0 ∙ cut_is_enough T Bool verdicts u t w hs j shallow every (a + b) down,
      subst (λ fs. SameFaults fs (cut bags u hs [] t w)) (cut_is_enough S Faults bags r s w ks i low all (a + b) deep)
          (subst (λ gs. SameFaults (cut_within bags r (a + b) [] s w) gs) (cut_is_enough T Faults bags u t w hs j shallow every (a + b) down) same.1),
    )
