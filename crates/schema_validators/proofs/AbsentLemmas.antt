-- Lists of what is absent, told one by one.
use Rattle.std.proofs.Common.{◌≡◌, ◌∙◌, ℕ, List, [], ◌∷◌, ◌++◌, Bool, true, false, if◌then◌else◌, refl, sym, ap, subst, append-nil}
use Rattle.std.specs.List.{AllZip, flat_map}
use Rattle.std.proofs.lemmas.Slice.Zip.{all_zipped_more}
use Rattle.schema_definitions.specs.Bearers.{Standing}
use Rattle.schema_definitions.specs.Rounds.{Want, wanted_at}
use Rattle.schema_validators.specs.Absent.{absence, absent_at, first_some}

flat-same : {X A : Type 0} (f g : X → List A) → ((x : X) → f x ≡ g x) → (xs : List X) → flat_map f xs ≡ flat_map g xs
flat-same f g e [] = refl
flat-same f g e (x ∷ xs) = ap (λ l. l ++ flat_map f xs) (e x) ∙ ap (λ l. g x ++ l) (flat-same f g e xs)

-- what is known alike lacks the same
pub absent-same : (f g : List ℕ → Bool) → ((q : List ℕ) → f q ≡ g q) → (ss : List Standing) → flat_map (absent_at f) ss ≡ flat_map (absent_at g) ss
absent-same f g e ss =
    flat-same (absent_at f) (absent_at g)
    (λ s. flat-same (λ w. if f w.uri then [] else absence s w ∷ []) (λ w. if g w.uri then [] else absence s w ∷ []) (λ w. ap (λ b. if b then [] else absence s w ∷ []) (e w.uri)) (wanted_at s))
    ss

-- what a place lacks that wants one document
pub one-absent : (known : List ℕ → Bool) (s : Standing) (w : Want) → w ∷ [] ≡ wanted_at s → absent_at known s ≡ (if known w.uri then [] else absence s w ∷ [])
one-absent known s w met = ap (flat_map (λ v. if known v.uri then [] else absence s v ∷ [])) (sym met) ∙ append-nil (if known w.uri then [] else absence s w ∷ [])

module _ {A B : Type 0} (R : A → B → Type 0) where
  -- nothing more, where it is known
  pub none-more : (found : List A) (bs : List B) (a : A) (b : Bool) → b ≡ true → AllZip R found bs → AllZip R (found ++ (if b then [] else a ∷ [])) bs
  none-more found bs a true is told = subst (λ l. AllZip R l bs) (sym (append-nil found)) told
  none-more found bs a false is told = absurd (cc (is))

  -- one more, where it is not
  pub one-more : (found : List A) (bs : List B) (a : A) (c : B) (b : Bool) → b ≡ false → AllZip R found bs → R a c → AllZip R (found ++ (if b then [] else a ∷ [])) (bs ++ c ∷ [])
  one-more found bs a c true is told r = absurd (cc (is))
  one-more found bs a c false is told r = all_zipped_more R found bs a c told r

  -- where the first list has nothing, nothing was told of it
  pub first-none : (xs ys : List A) (bs cs : List B) → AllZip R xs bs → bs ≡ [] → AllZip R ys cs → AllZip R (first_some xs ys) cs
  first-none [] ys bs cs told none more = more
  first-none (x ∷ xs) ys [] cs told none more = absurd told
  first-none (x ∷ xs) ys (b ∷ bs) cs told none more = absurd (cc (none))

  pub first-some : (xs ys : List A) (bs : List B) → AllZip R xs bs → (bs ≡ [] → ⊥) → AllZip R (first_some xs ys) bs
  first-some [] ys [] told some = absurd (some refl)
  first-some [] ys (b ∷ bs) told some = absurd told
  first-some (x ∷ xs) ys bs told some = told
