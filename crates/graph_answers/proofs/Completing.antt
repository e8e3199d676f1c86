-- Completions of a table's matches, by what is assumed of those that stay unfinished.
use Rattle.std.proofs.Common.{◌≡◌, ◌∙◌, ℕ, List, [], Bool, false, Option, Some, None, refl, sym, ap}
use Rattle.json_values.specs.Patterns.{Literal, literal_of, literal_or, means, matched, or_else}
use Rattle.schema_patterns.specs.Compiled.{found_by}
use Rattle.schema_patterns.specs.Tables.{pattern_for}
use Rattle.schema_patterns.specs.declared.compiled.CompiledPattern.{CompiledPattern}
use Rattle.schema_patterns.specs.declared.table.PatternTable.{PatternTable}
use Rattle.schema_engine.specs.Matches.{Answers, Matches, Start, InEach, completed, known_or}
use Rattle.graph_answers.specs.Tables.{AreForms}
use Rattle.graph_answers.specs.Completions.{found_in, table_finds, assumed_in, matches_with, asked_from}
use Rattle.graph_answers.specs.declared.assumed.AssumedMatch.{AssumedMatch}

same_some : (x y : Bool) → Some x ≡ Some y → x ≡ y
same_some x y h = cc

no_some : (x : Bool) → None ≡ Some x → ⊥
no_some x h = cc

-- which matches may be asked for is nothing that is known of them
pub same_completed : (s : Start) (m : Matches) (rest : Answers) → completed (asked_from s m) rest ≡ completed m rest
unfolding completed
same_completed s m rest = refl

pub read_from : (s : Start) (m : Matches) (b : Bool) (pattern text : List ℕ) → InEach m (λ reads. b ≡ matched reads pattern text) → InEach (asked_from s m) (λ reads. b ≡ matched reads pattern text)
unfolding completed
read_from s m b pattern text read rest = read rest

module _ {M : Type 0} (finds : M → List ℕ → Option Bool) (table : PatternTable M) (assumed : List AssumedMatch) where
  -- what is known is read so in each completion
  known_read : (rest : Answers) (pattern text : List ℕ) (b : Bool) → literal_of pattern ≡ None → or_else (table_finds finds table pattern text) (assumed_in assumed pattern text) ≡ Some b
      → b ≡ matched (completed (matches_with finds table assumed) rest) pattern text
  unfolding completed
  known_read rest pattern text b plain is =
      sym (ap (literal_or (λ l. means l text) (known_or (rest pattern text) (or_else (table_finds finds table pattern text) (assumed_in assumed pattern text)))) plain
      ∙ ap (known_or (rest pattern text)) is)

  -- what a pattern finds
  pub read_found : AreForms finds table → (pattern text : List ℕ) (c : CompiledPattern M) (b : Bool) → pattern_for table pattern ≡ Some c → found_by finds c text ≡ Some b
      → InEach (matches_with finds table assumed) (λ m. b ≡ matched m pattern text)
  read_found forms pattern text c b at is rest = by_form (literal_of pattern) refl
    where
      by_form : (o : Option Literal) → literal_of pattern ≡ o → b ≡ matched (completed (matches_with finds table assumed) rest) pattern text
      by_form None e = known_read rest pattern text b e (ap (λ o. or_else (found_in finds text o) (assumed_in assumed pattern text)) at ∙ ap (λ o. or_else o (assumed_in assumed pattern text)) is)
      by_form (Some l) e =
          same_some b (means l text) (sym is ∙ forms pattern c l text at e)
          ∙ sym (ap (literal_or (λ l. means l text) (completed (matches_with finds table assumed) rest pattern text)) e)

  -- a pattern that there is not
  pub read_absent : (pattern text : List ℕ) → pattern_for table pattern ≡ None → pattern ≡ [] → InEach (matches_with finds table assumed) (λ m. false ≡ matched m pattern text)
  read_absent pattern text none empty rest =
      known_read rest pattern text false (ap literal_of empty) (ap (λ o. or_else (found_in finds text o) (assumed_in assumed pattern text)) none)

  -- what is assumed where a pattern gives up
  pub read_assumed : AreForms finds table → (pattern text : List ℕ) (c : CompiledPattern M) (b : Bool) → pattern_for table pattern ≡ Some c → found_by finds c text ≡ None → assumed_in assumed pattern text ≡ Some b
      → InEach (matches_with finds table assumed) (λ m. b ≡ matched m pattern text)
  read_assumed forms pattern text c b at gives_up is rest = by_form (literal_of pattern) refl
    where
      by_form : (o : Option Literal) → literal_of pattern ≡ o → b ≡ matched (completed (matches_with finds table assumed) rest) pattern text
      by_form None e =
          known_read rest pattern text b e
          (ap (λ o. or_else (found_in finds text o) (assumed_in assumed pattern text)) at ∙ ap (λ o. or_else o (assumed_in assumed pattern text)) gives_up ∙ is)
      by_form (Some l) e = absurd (no_some (means l text) (sym gives_up ∙ forms pattern c l text at e))
