-- What sets of texts have, and what a loop over texts has found.
use Rattle.std.proofs.Common.{◌≡◌, ◌+◌, ◌<◌, ℕ, List, [], ◌∷◌, ◌++◌, take, length, get_or, Bool, true, false, ◌||◌, ◌&&◌, cond, if◌then◌else◌, Option, bytes_eq, refl, sym, ap, ap₂, ◌∙◌, subst, Bor, String, Global, string_bytes, true≢false}
use Rattle.std.specs.List.{list_any}
use Rattle.std.specs.HashSet.{HashSet, contains_text, UpdatesBy}
use Rattle.std.specs.String.{string_eq}
use Rattle.std.proofs.lemmas.Slice.Eq.{bytes_eq-Decides}
use Rattle.std.proofs.lemmas.List.Folds.{list_any-append, list_any_more}
use Rattle.std.proofs.lemmas.Map.Text.{hash_set_updates_text}
use Rattle.indexmap.specs.IndexSet.{insert_key}
use Rattle.schema_patterns.specs.Answers.{Tells}
use Rattle.schema_patterns.specs.declared.matcher.MatchAnswer.TheVariants.{Yes, No, Unfinished}
use Rattle.schema_patterns.specs.Read.{is_yes, is_left, TellsTexts, Notes}
use Rattle.schema_patterns.specs.declared.matches.PatternMatches.{PatternMatches}

pub or_false : (b : Bool) → b ≡ (b || false)
or_false true = refl
or_false false = refl

and_true : (b : Bool) → b ≡ (b && true)
and_true true = refl
and_true false = refl

and_false : (b : Bool) → false ≡ (b && false)
and_false true = refl
and_false false = refl

same_or : (b c : Bool) → (c ≡ true → b ≡ true) → b ≡ (b || c)
same_or true c h = refl
same_or false true h = h refl
same_or false false h = refl

cond_or : (b c : Bool) → cond c true b ≡ (b || c)
cond_or true true = refl
cond_or false true = refl
cond_or true false = refl
cond_or false false = refl

bytes_swap : (s t : List ℕ) → bytes_eq s t ≡ bytes_eq t s
bytes_swap s t = by (bytes_eq s t) (bytes_eq t s) refl refl
  where
    by : (b c : Bool) → bytes_eq s t ≡ b → bytes_eq t s ≡ c → b ≡ c
    by true true f g = refl
    by false false f g = refl
    by true false f g = sym ((bytes_eq-Decides t s).1 (sym ((bytes_eq-Decides s t).0 f))) ∙ g
    by false true f g = sym f ∙ (bytes_eq-Decides s t).1 (sym ((bytes_eq-Decides t s).0 g))

-- a text that was inserted
pub text_inserted : {S : Type 0} (s n : HashSet (String Global) S) (key : String Global) (text : List ℕ) → string_bytes key ≡ text → UpdatesBy string_eq (string_eq key) s n true
    → (t : List ℕ) → contains_text n t ≡ (contains_text s t || bytes_eq t text)
text_inserted s n key text is updates t =
    hash_set_updates_text (string_bytes key) s n true updates t ∙ cond_or (contains_text s t) (bytes_eq (string_bytes key) t)
    ∙ ap (λ b. contains_text s t || b) (ap (λ k. bytes_eq k t) is ∙ bytes_swap text t)

-- a text among those that are kept once
pub key_inserted : (ks : List (Bor (List ℕ))) (k : Bor (List ℕ)) (t : List ℕ)
    → list_any (λ j. bytes_eq t j.now) (insert_key (λ x y. bytes_eq x.now y.now) ks k) ≡ (list_any (λ j. bytes_eq t j.now) ks || bytes_eq t k.now)
key_inserted ks k t = by (list_any (λ y. bytes_eq k.now y.now) ks) refl
  where
    by : (b : Bool) → list_any (λ y. bytes_eq k.now y.now) ks ≡ b
        → list_any (λ j. bytes_eq t j.now) (if b then ks else ks ++ k ∷ []) ≡ (list_any (λ j. bytes_eq t j.now) ks || bytes_eq t k.now)
    by true there = same_or _ _ (λ e. subst (λ (u : List ℕ). list_any (λ j. bytes_eq u j.now) ks ≡ true) (sym ((bytes_eq-Decides t k.now).0 e)) there)
    by false new = list_any-append (λ j. bytes_eq t j.now) ks (k ∷ []) ∙ ap (λ b. list_any (λ j. bytes_eq t j.now) ks || b) (sym (or_false (bytes_eq t k.now)))

-- one more of a list
pub one_more : {X : Type 0} (p : X → Bool) (xs : List X) (i : ℕ) (d : X) (old new : Bool) → i < length xs → old ≡ list_any p (take i xs) → new ≡ (old || p (get_or xs i d)) → new ≡ list_any p (take (i + 1) xs)
one_more p xs i d old new short was is = is ∙ ap (λ b. b || p (get_or xs i d)) was ∙ sym (list_any_more p xs i d short)

-- a test of a text that is among others
pub at_text : (p : List ℕ → Bool) (ts : List (List ℕ)) (t : List ℕ) → list_any (bytes_eq t) ts ≡ true → list_any (λ s. bytes_eq t s && p s) ts ≡ p t
at_text p ts t among = by (p t) refl
  where
    no : (b : Bool) (s : List ℕ) → bytes_eq t s ≡ b → p t ≡ false → (b && p s) ≡ false
    no true s e f = ap p (sym ((bytes_eq-Decides t s).0 e)) ∙ f
    no false s e f = refl

    none : (us : List (List ℕ)) → p t ≡ false → list_any (λ s. bytes_eq t s && p s) us ≡ false
    none [] f = refl
    none (s ∷ us) f = ap₂ (λ (a b : Bool). a || b) (no (bytes_eq t s) s refl f) (none us f)

    either : (b rest tail : Bool) (s : List ℕ) → bytes_eq t s ≡ b → (b || rest) ≡ true → p t ≡ true → (rest ≡ true → tail ≡ true) → (b && p s || tail) ≡ true
    either true rest tail s e h is_so more = ap (λ b. b || tail) (ap p (sym ((bytes_eq-Decides t s).0 e)) ∙ is_so)
    either false rest tail s e h is_so more = more h

    some : (us : List (List ℕ)) → list_any (bytes_eq t) us ≡ true → p t ≡ true → list_any (λ s. bytes_eq t s && p s) us ≡ true
    some [] h is_so = absurd (true≢false (sym h))
    some (s ∷ us) h is_so = either (bytes_eq t s) (list_any (bytes_eq t) us) (list_any (λ s. bytes_eq t s && p s) us) s refl h is_so (λ e. some us e is_so)

    by : (b : Bool) → p t ≡ b → list_any (λ s. bytes_eq t s && p s) ts ≡ p t
    by true is_so = some ts among is_so ∙ sym is_so
    by false f = none ts f ∙ sym f

-- what a matcher's answer leaves noted
module _ (old : PatternMatches) (text : List ℕ) where
  pub noted_yes : (new : PatternMatches) (known : Option Bool) → Tells known Yes → ((t : List ℕ) → contains_text new.yes t ≡ (contains_text old.yes t || bytes_eq t text)) → new.unfinished ≡ old.unfinished → Notes known text old new
  noted_yes new known told inserted same =
      rw told (record {
        yes = λ t. inserted t ∙ ap (λ b. contains_text old.yes t || b) (and_true (bytes_eq t text));
        left = λ t. ap (λ s. contains_text s t) same ∙ or_false (contains_text old.unfinished t) ∙ ap (λ b. contains_text old.unfinished t || b) (and_false (bytes_eq t text));
      })

  pub noted_no : (known : Option Bool) → Tells known No → Notes known text old old
  noted_no known told =
      rw told (record {
        yes = λ t. or_false (contains_text old.yes t) ∙ ap (λ b. contains_text old.yes t || b) (and_false (bytes_eq t text));
        left = λ t. or_false (contains_text old.unfinished t) ∙ ap (λ b. contains_text old.unfinished t || b) (and_false (bytes_eq t text));
      })

  pub noted_left : (new : PatternMatches) (known : Option Bool) → Tells known Unfinished → ((t : List ℕ) → contains_text new.unfinished t ≡ (contains_text old.unfinished t || bytes_eq t text)) → new.yes ≡ old.yes → Notes known text old new
  noted_left new known told inserted same =
      rw told (record {
        yes = λ t. ap (λ s. contains_text s t) same ∙ or_false (contains_text old.yes t) ∙ ap (λ b. contains_text old.yes t || b) (and_false (bytes_eq t text));
        left = λ t. inserted t ∙ ap (λ b. contains_text old.unfinished t || b) (and_true (bytes_eq t text));
      })

-- one more of the texts
pub texts_step : (found : List ℕ → Option Bool) (texts : List (Bor (List ℕ))) (i : ℕ) (d : Bor (List ℕ)) (old new : PatternMatches) → i < length texts
    → TellsTexts found (take i texts) old → Notes (found (get_or texts i d).now) (get_or texts i d).now old new → TellsTexts found (take (i + 1) texts) new
texts_step found texts i d old new short told notes =
    record {
      yes = λ t. one_more (λ k. bytes_eq t k.now && is_yes (found k.now)) texts i d _ _ short (told.yes t) (notes.yes t);
      left = λ t. one_more (λ k. bytes_eq t k.now && is_left (found k.now)) texts i d _ _ short (told.left t) (notes.left t);
    }
