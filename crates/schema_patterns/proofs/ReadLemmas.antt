-- The matches of one more pattern.
use Rattle.std.proofs.Common.{arith, zero, suc, ◌≡◌, ◌+◌, ◌<◌, ◌≤◌, ℕ, List, [], ◌∷◌, map, take, length, get_or, slice_get, Bool, true, false, ◌||◌, ◌&&◌, cond, Option, Some, None, option_map, bytes_eq, refl, sym, ap, ◌∙◌, subst, Bor, true≢false}
use Rattle.std.specs.List.{list_any}
use Rattle.std.specs.HashMap.{get_by_text}
use Rattle.std.proofs.lemmas.Slice.Eq.{bytes_eq-Decides}
use Rattle.std.proofs.lemmas.List.{take_all}
use Rattle.std.proofs.lemmas.Option.{slice_get-map, slice_get_within, get_or_from_slice_get, none-some}
use Rattle.std.proofs.lemmas.List.Folds.{list_any_more}
use Rattle.json_values.specs.Patterns.{Literal, literal_of, literal_or, means, matched, known}
use Rattle.schema_meaning.specs.Members.{is_listed}
use Rattle.schema_patterns.proofs.Scripts.{any_mapped}
use Rattle.schema_patterns.specs.Texts.{bytes_of}
use Rattle.schema_patterns.specs.Read.{reads, leaves, found_in, left_in, IsRead, IsReadBy, is_yes, is_left, TellsTexts, Adds}
use Rattle.schema_patterns.specs.declared.matches.PatternMatches.{PatternMatches}
use Rattle.schema_patterns.specs.declared.matches.Matches.{Matches}
use Rattle.schema_patterns.proofs.Found.{at_text}

read_so : (fin : Option Bool) (r l : Bool) → r ≡ is_yes fin → l ≡ is_left fin → IsRead fin r l
read_so (Some b) r l found gone = (found, gone)
read_so None r l found gone = (found, gone)

-- a match by the literal form or else as it was read
read_by : (form : Option Literal) (fin : Option Bool) (text : List ℕ) (r l : Bool) → r ≡ is_yes (literal_or (λ f. Some (means f text)) fin form) → l ≡ is_left (literal_or (λ f. Some (means f text)) fin form)
    → IsRead (literal_or (λ f. Some (means f text)) fin form) (literal_or (λ f. means f text) r form) (literal_or (λ f. false) l form)
read_by (Some f) fin text r l found gone = (refl, refl)
read_by None fin text r l found gone = read_so fin r l found gone

told_of : (found : List ℕ → Option Bool) (test : Option Bool → Bool) (texts : List (Bor (List ℕ))) (t : List ℕ) → list_any (λ k. bytes_eq t k.now) texts ≡ true
    → list_any (λ k. bytes_eq t k.now && test (found k.now)) texts ≡ test (found t)
told_of found test texts t among =
    any_mapped (λ s. bytes_eq t s && test (found s)) (λ (k : Bor (List ℕ)). k.now) texts
    ∙ at_text (λ s. test (found s)) (bytes_of texts) t (sym (any_mapped (bytes_eq t) (λ (k : Bor (List ℕ)). k.now) texts) ∙ among)

module _ (finished : List ℕ → List ℕ → Option Bool) (texts : List (List ℕ)) where
  one_read : (m : Matches) (p t : List ℕ) (f : PatternMatches) (found : List ℕ → Option Bool) (asked : List (Bor (List ℕ))) → get_by_text m.by_pattern p ≡ Some f → TellsTexts found asked f
      → found t ≡ known finished p t → list_any (λ k. bytes_eq t k.now) asked ≡ true → IsRead (known finished p t) (matched (reads m) p t) (leaves m p t)
  one_read m p t f found asked there told is among =
      read_by (literal_of p) (finished p t) t _ _
      (ap (λ o. found_in o t) there ∙ told.yes t ∙ told_of found is_yes asked t among ∙ ap is_yes is)
      (ap (λ o. left_in o t) there ∙ told.left t ∙ told_of found is_left asked t among ∙ ap is_left is)

  pub none_read : (m : Matches) → IsReadBy finished [] texts m
  none_read m = record { each = λ p t h. absurd (true≢false (sym h)) }

  pub more_read : (m n : Matches) (ps : List (List ℕ)) (i : ℕ) (p : List ℕ) (found : List ℕ → Option Bool) (asked : List (Bor (List ℕ)))
      → i < length ps → get_or ps i p ≡ p → Adds found p asked m.by_pattern n.by_pattern
      → ((t : List ℕ) → found t ≡ known finished p t) → ((t : List ℕ) → list_any (λ k. bytes_eq t k.now) asked ≡ list_any (bytes_eq t) texts)
      → IsReadBy finished (take i ps) texts m → IsReadBy finished (take (i + 1) ps) texts n
  more_read m n ps i p found asked short at adds knows all old = record { each = λ q t h among. by (bytes_eq q p) q t refl h among }
    where
      f : PatternMatches
      f = adds.matches

      after : (q : List ℕ) → get_by_text n.by_pattern q ≡ cond (bytes_eq p q) (Some f) (get_by_text m.by_pattern q)
      after q = adds.updated q

      more : (q : List ℕ) → is_listed q (take (i + 1) ps) ≡ (is_listed q (take i ps) || bytes_eq q p)
      more q = list_any_more (bytes_eq q) ps i p short ∙ ap (λ u. is_listed q (take i ps) || bytes_eq q u) at

      or_no : (b c : Bool) → (b || c) ≡ true → c ≡ false → b ≡ true
      or_no true c h e = refl
      or_no false c h e = sym e ∙ h

      other : (c : Bool) (q : List ℕ) → bytes_eq p q ≡ c → bytes_eq q p ≡ false → c ≡ false
      other true q e f = sym ((bytes_eq-Decides q p).1 (sym ((bytes_eq-Decides p q).0 e))) ∙ f
      other false q e f = refl

      by : (b : Bool) (q t : List ℕ) → bytes_eq q p ≡ b → is_listed q (take (i + 1) ps) ≡ true → is_listed t texts ≡ true → IsRead (known finished q t) (matched (reads n) q t) (leaves n q t)
      by true q t e h among =
          let same : q ≡ p = (bytes_eq-Decides q p).0 e in
          subst (λ (u : List ℕ). IsRead (known finished u t) (matched (reads n) u t) (leaves n u t)) (sym same)
          (one_read n p t f found asked (after p ∙ ap (λ b. cond b (Some f) (get_by_text m.by_pattern p)) ((bytes_eq-Decides p p).1 refl)) adds.told (knows t) (all t ∙ among))
      by false q t e h among =
          let there : is_listed q (take i ps) ≡ true = or_no _ _ (sym (more q) ∙ h) e in
          let stays : get_by_text m.by_pattern q ≡ get_by_text n.by_pattern q = sym (after q ∙ ap (λ b. cond b (Some f) (get_by_text m.by_pattern q)) (other (bytes_eq p q) q refl e)) in
          subst (λ (o : Option PatternMatches). IsRead (known finished q t) (literal_or (λ l. means l t) (found_in o t) (literal_of q)) (literal_or (λ l. false) (left_in o t) (literal_of q))) stays
          (old.each q t there among)

  pub all_read : (m : Matches) (ps : List (List ℕ)) (i : ℕ) → length ps ≤ i → IsReadBy finished (take i ps) texts m → IsReadBy finished ps texts m
  all_read m ps i past h = subst (λ (us : List (List ℕ)). IsReadBy finished us texts m) (take_all i ps past) h

-- the texts of a table, at a number
pub text_at : {A : Type 0} (es : List (List ℕ × A)) (n : ℕ) (p : List ℕ) (x : A) (o : Option (List ℕ × A)) → o ≡ slice_get es n → o ≡ Some (p, x) → (n < length (map (λ e. e.0) es)) × (get_or (map (λ e. e.0) es) n p ≡ p)
text_at es n p x o is at =
    let there : slice_get (map (λ e. e.0) es) n ≡ Some p = slice_get-map (λ e. e.0) es n ∙ ap (option_map (λ e. e.0)) (sym is ∙ at) in
    (slice_get_within (map (λ e. e.0) es) n p there, get_or_from_slice_get (map (λ e. e.0) es) n p p there)

pub none_past : {A : Type 0} (es : List A) (n : ℕ) → n < length es → slice_get es n ≡ None → ⊥
none_past [] n short none = omega (arith, short)
none_past (x ∷ es) zero short none = none-some x (sym none)
none_past (x ∷ es) (suc n) short none = none_past es n (omega (arith, short)) none
