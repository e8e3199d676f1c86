-- What runs that tell decide, one after another.
use Rattle.std.proofs.Common.{◌≡◌, ◌∙◌, ℕ, List, [], ◌∷◌, length, Bool, true, false, true≢false, Option, refl, sym, ap, subst}
use Rattle.std.specs.Prelude.{◌==◌}
use Rattle.std.proofs.lemmas.Bool.{eqb-true}
use Rattle.serde_json.specs.Data.{Data}
use Rattle.schema_meaning.specs.Keywords.{Shape}
use Rattle.schema_meaning.specs.Faults.{is_none}
use Rattle.schema_patterns.specs.declared.table.PatternTable.{PatternTable}
use Rattle.schema_reports.specs.Told.{faults_of, AreAll}
use Rattle.schema_reports.specs.declared.error.ValidationError.{ValidationError}
use Rattle.schema_engine.specs.Matches.{Answers, Matches, InEach, completed, none_matched}
use Rattle.schema_engine.specs.declared.node.Node.{Node}
use Rattle.graph_answers.specs.Certain.{faults_in}
use Rattle.graph_answers.specs.Completions.{matches_with}
use Rattle.graph_answers.specs.Runs.{is_behind, is_left, verdict_in, IsDecision}
use Rattle.graph_answers.specs.declared.assumed.AssumedMatch.{AssumedMatch}
use Rattle.graph_answers.specs.declared.runs.Decision.{Decision}
use Rattle.graph_answers.specs.declared.runs.Decision.TheVariants as decision
use Rattle.graph_answers.proofs.CertainLemmas.{agree_in, none_listed, told_till}
use Rattle.graph_answers.proofs.RunLemmas.{without}

not_none : (es : List ValidationError) → (length es == 0) ≡ false → is_none (faults_of es) ≡ false
not_none [] e = absurd (true≢false e)
not_none (x ∷ xs) e = refl

module _ {K M : Type 0} (shape : K → Shape ℕ) (nodes : List (Node K)) (start : ℕ) (d : Data) (finds : M → List ℕ → Option Bool) (table : PatternTable M) where
  abbrev base : Matches
  base = matches_with finds table []

  -- of the completions that are not left: each accepts, or there is one that refuses
  abbrev pub DecidedBeside : Decision → (Answers → Bool) → Type 0
  DecidedBeside decision.Accepted left = (rest : Answers) → left rest ≡ false → verdict_in shape nodes start d (completed base rest) ≡ true
  DecidedBeside decision.Refused left = (rest : Answers) × (verdict_in shape nodes start d (completed base rest) ≡ false)
  DecidedBeside decision.Undecided left = ⊥

  pub beside_same : (a : Decision) (f h : Answers → Bool) → ((rest : Answers) → f rest ≡ h rest) → DecidedBeside a f → DecidedBeside a h
  beside_same decision.Accepted f h same decided = λ rest e. decided rest (same rest ∙ e)
  beside_same decision.Refused f h same decided = decided
  beside_same decision.Undecided f h same decided = decided

  -- where none is left it is decided
  pub beside_none : (a : Decision) (f : Answers → Bool) → ((rest : Answers) → f rest ≡ false) → DecidedBeside a f → IsDecision shape nodes start d base a
  beside_none decision.Accepted f none decided = λ rest. decided rest (none rest)
  beside_none decision.Refused f none decided = decided
  beside_none decision.Undecided f none decided = absurd decided

  module _ (assumed : List AssumedMatch) (es : List ValidationError) (run : InEach (matches_with finds table assumed) (λ reads. AreAll es (faults_in shape nodes start d reads))) where
    run_says : (rest : Answers) → is_none (faults_of es) ≡ verdict_in shape nodes start d (completed (matches_with finds table assumed) rest)
    run_says rest = ap is_none (run rest).told ∙ agree_in shape nodes start d (completed (matches_with finds table assumed) rest)

    -- a run that tells of none accepts
    none_told : (a : Decision) → es ≡ [] → DecidedBeside a (λ rest. is_left assumed rest) → DecidedBeside a (λ rest. is_behind assumed rest)
    none_told decision.Accepted empty before =
        told_till finds table assumed (λ reads. verdict_in shape nodes start d reads ≡ true) (λ rest. sym (run_says rest) ∙ ap (λ xs. is_none (faults_of xs)) empty) before
    none_told decision.Refused empty before = before
    none_told decision.Undecided empty before = before

    -- one that tells of some refuses
    some_told : (length es == 0) ≡ false → (rest : Answers) × (verdict_in shape nodes start d (completed base rest) ≡ false)
    some_told some = (
      completed (matches_with finds table assumed) none_matched,
      ap (verdict_in shape nodes start d) (sym (without finds table assumed none_matched)) ∙ sym (run_says none_matched) ∙ not_none es some,
    )

    -- once a run has told, what is left comes behind what it assumed
    pub once_told : (a b : Decision) (has_none : Bool) → has_none ≡ (length es == 0) → (has_none ≡ true → b ≡ a) → (has_none ≡ false → b ≡ decision.Refused)
        → DecidedBeside a (λ rest. is_left assumed rest) → DecidedBeside b (λ rest. is_behind assumed rest)
    once_told a b true is same other before =
        subst (λ x. DecidedBeside x (λ rest. is_behind assumed rest)) (sym (same refl)) (none_told a (none_listed es (eqb-true _ _ (sym is))) before)
    once_told a b false is same other before =
        subst (λ x. DecidedBeside x (λ rest. is_behind assumed rest)) (sym (other refl)) (some_told (sym is))
