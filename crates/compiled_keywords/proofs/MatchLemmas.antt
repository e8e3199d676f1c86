-- The matches that keywords may ask for, one after another.
use Rattle.std.proofs.Common.{◌≡◌, ◌++◌, ℕ, List, [], ◌∷◌, map, sym, subst}
use Rattle.std.specs.List.{flat_map}
use Rattle.serde_json.specs.Data.{Data, null, boolean, number, string, array, object}
use Rattle.schema_meaning.specs.Keywords as keywords
use Rattle.schema_meaning.specs.Matches.{with_names, form_matches}
use Rattle.schema_meaning.specs.Members.{In, first, later}
use Rattle.schema_meaning.specs.Questions.{names_of}
use Rattle.schema_engine.specs.Led.{MayMatch, MayAskFor}
use Rattle.schema_engine.specs.Matches.{Matches}
use Rattle.applicators.specs.Forms.{Form, by_pattern, of_others, shape_by}
use Rattle.applicators.specs.declared.combining.Combining.{Combining}
use Rattle.applicators.proofs.FormLemmas.{IsKeyword, by_every, by_together, by_names, by_some, by_one, by_refusal, counted_items, chosen_by}
use Rattle.compiled_keywords.specs.Asked.{MayMatchText, MayMatchEach, MayMatchIn}

-- ---- one pattern, by its number

pub by_number : (m now : Matches) (n : ℕ) (pattern text : List ℕ) → now ≡ m
    → m.pattern n ≡ pattern → MayMatch m pattern text → MayMatch now (now.pattern n) text
by_number m now n pattern text same numbered may =
    subst (λ (x : Matches). MayMatch x (x.pattern n) text) (sym same)
    (subst (λ p. MayMatch m p text) (sym numbered) may)

-- ---- some patterns with some texts

module _ {m : Matches} where
  pub one_match : {p t : List ℕ} → MayMatchEach m (p ∷ []) (t ∷ []) → MayMatch m p t
  one_match {p} {t} h = h.each p t first first

  pub pattern_alone : {p : List ℕ} {ps ts : List (List ℕ)} → MayMatchEach m (p ∷ ps) ts
      → MayMatchEach m (p ∷ []) ts
  pattern_alone {p} {ps} {ts} h = record { each = λ q t i j. h.each q t (only i) j }
    where
      only : {q : List ℕ} → In q (p ∷ []) → In q (p ∷ ps)
      only first = first
      only (later i) = elim i [ ]

  pub patterns_left : {p : List ℕ} {ps ts : List (List ℕ)} → MayMatchEach m (p ∷ ps) ts
      → MayMatchEach m ps ts
  patterns_left h = record { each = λ q t i j. h.each q t (later i) j }

  pub text_alone : {t : List ℕ} {ps ts : List (List ℕ)} → MayMatchEach m ps (t ∷ ts)
      → MayMatchEach m ps (t ∷ [])
  text_alone {t} {ps} {ts} h = record { each = λ p u i j. h.each p u i (only j) }
    where
      only : {u : List ℕ} → In u (t ∷ []) → In u (t ∷ ts)
      only first = first
      only (later j) = elim j [ ]

  pub texts_left : {t : List ℕ} {ps ts : List (List ℕ)} → MayMatchEach m ps (t ∷ ts)
      → MayMatchEach m ps ts
  texts_left h = record { each = λ p u i j. h.each p u i (later j) }

-- ---- what the shape of a keyword asks for

in_before : {A : Type 0} {x : A} (xs ys : List A) → In x xs → In x (xs ++ ys)
in_before [] ys i = elim i [ ]
in_before (y ∷ xs) ys first = first
in_before (y ∷ xs) ys (later i) = later (in_before xs ys i)

in_behind : {A : Type 0} {x : A} (xs ys : List A) → In x ys → In x (xs ++ ys)
in_behind [] ys i = i
in_behind (y ∷ xs) ys i = later (in_behind xs ys i)

in_map : {A B : Type 0} (f : A → B) (x : A) (xs : List A) → In x xs → In (f x) (map f xs)
in_map f x [] i = elim i [ ]
in_map f x (y ∷ xs) first = first
in_map f x (y ∷ xs) (later i) = later (in_map f x xs i)

-- a pattern with a name is among those of some patterns with the names of a value
module _ {A : Type 0} (f : A → List ℕ) (d : Data) where
  asked_there : (xs : List A) (p t : List ℕ) → In p (map f xs) → In t (names_of d)
      → In (p, t) (flat_map (λ x. with_names d (f x)) xs)
  asked_there [] p t i j = elim i [ ]
  asked_there (x ∷ xs) _ t first j =
      in_before (with_names d (f x)) _ (in_map (λ k. (f x, k)) t (names_of d) j)
  asked_there (x ∷ xs) p t (later i) j = in_behind (with_names d (f x)) _ (asked_there xs p t i j)

other_there : (ps : List (List ℕ)) (d : Data) (p t : List ℕ) → In p ps → In t (names_of d)
    → In (p, t) (flat_map (with_names d) ps)
other_there ps d p t i j = asked_there (λ q. q) d ps p t (in_map (λ q. q) p ps i) j

module _ (m : Matches) where
  pub text_asked : (p : List ℕ) (d : Data) → MayAskFor m (keywords.asserts (keywords.pattern p)) d
      → MayMatchText m p d
  text_asked p null h = tt
  text_asked p (boolean b) h = tt
  text_asked p (number n) h = tt
  text_asked p (string s) h = h.each p s first
  text_asked p (array ds) h = tt
  text_asked p (object ms) h = tt

  -- what a form asks for
  form_asked : (f : Form ℕ) (d : Data) → ((p t : List ℕ) → In (p, t) (form_matches d f) → MayMatch m p t) → MayMatchIn m f d
  form_asked (by_pattern ps) d h =
      record { each = λ p t i j. h p t (asked_there (λ q. q.0) d ps p t i j) }
  form_asked (of_others w s) d h =
      record { each = λ p t i j. h p t (other_there w.patterns d p t i j) }
  form_asked f d h = tt

  pub asked_in : (d : Data) (k : List ℕ) (c : Combining) (f : Form ℕ) → IsKeyword k c f
      → MayAskFor m (shape_by k c f) d → MayMatchIn m f d
  asked_in d _ _ _ (by_every k f e) h = form_asked f d h.each
  asked_in d _ _ _ (by_together k f e) h = form_asked f d h.each
  asked_in d _ _ _ (by_names k s) h = tt
  asked_in d _ _ _ (by_some k f e) h = form_asked f d h.each
  asked_in d _ _ _ (by_one k f e) h = form_asked f d h.each
  asked_in d _ _ _ (by_refusal k schema s) h = tt
  asked_in d _ _ _ (counted_items least most s) h = tt
  asked_in d _ _ _ (chosen_by s t e) h = tt
