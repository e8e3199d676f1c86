-- Runs by what is assumed, one after another.
use Rattle.std.proofs.Common.{◌≡◌, ◌&&◌, ◌||◌, ◌++◌, ◌∙◌, ℕ, List, [], ◌∷◌, length, Bool, true, false, not, Option, Some, None, bytes_eq, string_bytes, if◌then◌else◌, refl, sym, ap}
use Rattle.std.proofs.lemmas.Slice.Eq.{bytes_eq-Decides}
use Rattle.serde_json.specs.Data.{Data}
use Rattle.json_values.specs.Patterns.{or_else}
use Rattle.schema_meaning.specs.Keywords.{Shape}
use Rattle.schema_meaning.specs.Places.{Key, whole}
use Rattle.schema_meaning.specs.Readings.{verdicts}
use Rattle.schema_meaning.specs.Cut.{cut, AreAll}
use Rattle.schema_patterns.specs.declared.table.PatternTable.{PatternTable}
use Rattle.schema_engine.specs.Graphs.{reading_of, IsSound}
use Rattle.schema_engine.specs.Matches.{Answers, completed, known_or}
use Rattle.schema_engine.specs.declared.node.Node.{Node}
use Rattle.graph_answers.specs.Answers.{keys_below}
use Rattle.graph_answers.specs.Completions.{table_finds, assumed_in, is_of, matches_with}
use Rattle.graph_answers.specs.Runs.{same_answer, answer_of, agrees, after_one, is_behind, is_left, verdict_in}
use Rattle.graph_answers.specs.declared.assumed.AssumedMatch.{AssumedMatch}
use Rattle.graph_answers.proofs.Keys.{all_keys}

-- ---- in which order they are assumed

same_or_after : (m v a b : Bool) → after_one m v (a || b) ≡ (same_answer m v && a || after_one m v b)
same_or_after true true a b = refl
same_or_after true false a b = refl
same_or_after false true a b = refl
same_or_after false false a b = refl

last_yes : (v : Bool) → after_one true v false ≡ false
last_yes true = refl
last_yes false = refl

last_no : (v : Bool) → after_one false v false ≡ (same_answer true v && true || after_one true v false)
last_no true = refl
last_no false = refl

none_left_out : (v : Bool) → (same_answer false v && true || after_one false v false) ≡ true
none_left_out true = refl
none_left_out false = refl

pub said_not : (b : Bool) → not b ≡ true → b ≡ false
said_not true e = absurd (cc)
said_not false e = refl

pub not_denied : (b : Bool) → not b ≡ false → b ≡ true
not_denied true e = refl
not_denied false e = absurd (cc)

module _ (rest : Answers) where
  -- nothing comes behind a yes alone
  pub behind_yes : (xs : List AssumedMatch) (a : AssumedMatch) → a.is_match ≡ true → is_behind (xs ++ a ∷ []) rest ≡ is_behind xs rest
  behind_yes [] a so = ap (λ m. after_one m (answer_of a rest) false) so ∙ last_yes (answer_of a rest)
  behind_yes (x ∷ xs) a so = ap (after_one x.is_match (answer_of x rest)) (behind_yes xs a so)

  -- what comes behind a no is what is left by a yes
  pub behind_no : (xs : List AssumedMatch) (a b : AssumedMatch) → a.is_match ≡ false → b.is_match ≡ true → answer_of a rest ≡ answer_of b rest
      → is_behind (xs ++ a ∷ []) rest ≡ is_left (xs ++ b ∷ []) rest
  behind_no [] a b not_so so same =
      ap (λ m. after_one m (answer_of a rest) false) not_so ∙ ap (λ v. after_one false v false) same ∙ last_no (answer_of b rest)
      ∙ ap (λ m. same_answer m (answer_of b rest) && true || after_one m (answer_of b rest) false) (sym so)
  behind_no (x ∷ xs) a b not_so so same =
      ap (after_one x.is_match (answer_of x rest)) (behind_no xs a b not_so so same)
      ∙ same_or_after x.is_match (answer_of x rest) (agrees (xs ++ b ∷ []) rest) (is_behind (xs ++ b ∷ []) rest)

  -- a no more leaves what was left
  pub left_no : (xs : List AssumedMatch) (a : AssumedMatch) → a.is_match ≡ false → is_left (xs ++ a ∷ []) rest ≡ is_left xs rest
  left_no [] a not_so = ap (λ m. same_answer m (answer_of a rest) && true || after_one m (answer_of a rest) false) not_so ∙ none_left_out (answer_of a rest)
  left_no (x ∷ xs) a not_so =
      sym (same_or_after x.is_match (answer_of x rest) (agrees (xs ++ a ∷ []) rest) (is_behind (xs ++ a ∷ []) rest))
      ∙ ap (after_one x.is_match (answer_of x rest)) (left_no xs a not_so)
      ∙ same_or_after x.is_match (answer_of x rest) (agrees xs rest) (is_behind xs rest)

-- ---- completions

pub same_answers : (f g : Answers) → ((p t : List ℕ) → f p t ≡ g p t) → f ≡ g
same_answers f g h = λ i p t. h p t i

both_true : (a b : Bool) → (a && b) ≡ true → (a ≡ true) × (b ≡ true)
both_true true b e = (refl, e)
both_true false b e = absurd (cc)

is_same : (m v : Bool) → same_answer m v ≡ true → v ≡ m
is_same true true e = refl
is_same true false e = absurd (cc)
is_same false true e = absurd (cc)
is_same false false e = refl

-- answers that agree are those that are assumed
assumed_agrees : (assumed : List AssumedMatch) (rest : Answers) → agrees assumed rest ≡ true → (p t : List ℕ) → known_or (rest p t) (assumed_in assumed p t) ≡ rest p t
assumed_agrees [] rest e p t = refl
assumed_agrees (a ∷ more) rest e p t =
    let both = both_true (same_answer a.is_match (answer_of a rest)) (agrees more rest) e in
    by_test (is_of a p t) refl (is_same a.is_match (answer_of a rest) both.0) (assumed_agrees more rest both.1 p t)
  where
    by_test : (b : Bool) → is_of a p t ≡ b → answer_of a rest ≡ a.is_match → known_or (rest p t) (assumed_in more p t) ≡ rest p t
        → known_or (rest p t) (if b then Some a.is_match else assumed_in more p t) ≡ rest p t
    by_test false is one others = others
    by_test true is one others =
        let both = both_true (bytes_eq (string_bytes a.pattern) p) (bytes_eq (string_bytes a.text) t) is in
        sym one ∙ ap (λ q. rest q (string_bytes a.text)) ((bytes_eq-Decides (string_bytes a.pattern) p).0 both.0) ∙ ap (rest p) ((bytes_eq-Decides (string_bytes a.text) t).0 both.1)

module _ {M : Type 0} (finds : M → List ℕ → Option Bool) (table : PatternTable M) (assumed : List AssumedMatch) (rest : Answers) where
  -- where the answers agree, what is assumed changes no completion
  pub agreeing : agrees assumed rest ≡ true → completed (matches_with finds table assumed) rest ≡ completed (matches_with finds table []) rest
  unfolding completed
  agreeing e = same_answers _ _ (λ p t. by_found p t (table_finds finds table p t))
    where
      by_found : (p t : List ℕ) (f : Option Bool) → known_or (rest p t) (or_else f (assumed_in assumed p t)) ≡ known_or (rest p t) (or_else f None)
      by_found p t None = assumed_agrees assumed rest e p t
      by_found p t (Some b) = refl

  -- what is assumed and the rest are answers to all that stays unfinished
  pub without : completed (matches_with finds table assumed) rest ≡ completed (matches_with finds table []) (completed (matches_with finds table assumed) rest)
  unfolding completed
  without = same_answers _ _ (λ p t. by_found p t (table_finds finds table p t))
    where
      by_found : (p t : List ℕ) (f : Option Bool) → known_or (rest p t) (or_else f (assumed_in assumed p t)) ≡ known_or (known_or (rest p t) (or_else f (assumed_in assumed p t))) (or_else f None)
      by_found p t None = refl
      by_found p t (Some b) = refl

-- ---- verdicts

module _ {K : Type 0} (shape : K → Shape ℕ) (nodes : List (Node K)) (start : ℕ) (d : Data) where
  -- what holds of the cut reading by all keys holds of the verdict
  pub told_all : IsSound shape nodes → (reads : Answers) (b : Bool)
      → ((all : List Key) → AreAll (reading_of shape reads nodes) start (whole d) all → b ≡ cut verdicts (reading_of shape reads nodes) all [] start (whole d))
      → b ≡ verdict_in shape nodes start d reads
  unfolding verdict_in
  told_all sound reads b told = told (keys_below (length nodes) d) (all_keys shape reads nodes sound d start)

  module _ {M : Type 0} (finds : M → List ℕ → Option Bool) (table : PatternTable M) (assumed : List AssumedMatch) where
    -- once a run accepts, what is left comes behind what it assumed
    pub accepted_till : ((rest : Answers) → true ≡ verdict_in shape nodes start d (completed (matches_with finds table assumed) rest))
        → ((rest : Answers) → is_left assumed rest ≡ false → verdict_in shape nodes start d (completed (matches_with finds table []) rest) ≡ true)
        → (rest : Answers) → is_behind assumed rest ≡ false → verdict_in shape nodes start d (completed (matches_with finds table []) rest) ≡ true
    accepted_till run before rest none = by_test (agrees assumed rest) refl
      where
        by_test : (b : Bool) → agrees assumed rest ≡ b → verdict_in shape nodes start d (completed (matches_with finds table []) rest) ≡ true
        by_test true e = ap (verdict_in shape nodes start d) (sym (agreeing finds table assumed rest e)) ∙ sym (run rest)
        by_test false e = before rest (ap (λ a. a || is_behind assumed rest) e ∙ none)

    -- a run that refuses shows a completion that does
    pub refused_by : ((rest : Answers) → false ≡ verdict_in shape nodes start d (completed (matches_with finds table assumed) rest))
        → (rest : Answers) × (verdict_in shape nodes start d (completed (matches_with finds table []) rest) ≡ false)
    refused_by run = (completed (matches_with finds table assumed) (λ p t. false), ap (verdict_in shape nodes start d) (sym (without finds table assumed (λ p t. false))) ∙ sym (run (λ p t. false)))
