-- Lemmas on how runs end.
use Rattle.std.proofs.Common.{◌≡◌, ◌∙◌, ℕ, Bool, List, [], subst, refl, Option, Result, Ok, Err, OnErr, OnOk, IfErr, IfOk}
use Rattle.std.specs.Io.KnownBytes.{IsAtEnd}
use Rattle.std.proofs.KnownBytes.{Consumes-nil}
use Rattle.line_cuts.specs.Devices.{IsRisen}
use Rattle.line_cuts.specs.Cuts.{unless_empty}
use Rattle.line_cuts.specs.Runs.{BreaksAt, ByError, Counts, RunsThroughBy, Stops}
use Rattle.line_cuts.specs.Steps.{Goes, Reads}
use Rattle.line_cuts.specs.declared.report.RunReport.{RunReport}
use Rattle.line_cuts.specs.declared.report.RunError.{RunError}
use Rattle.line_cuts.specs.declared.report.RunError.TheVariants.{Read, Write, Memory}
use Rattle.line_cuts.proofs.Reading.{reads_end, reads_end_broken, by_error}

module _ (Q : List ℕ → Bool) (R : List ℕ → List ℕ → Type 0) (from to before after later : Option (List ℕ)) (part : List ℕ) (report : RunReport) (h : Reads Q R from to before after part report) (ended : IsAtEnd to) where
  pub finish_ok : (r : Result RunReport RunError) → IfOk r (λ newer. Goes Q R (unless_empty part) [] report newer after later []) → IfOk r (λ newer. RunsThroughBy Q R from to before later newer)
  finish_ok (Ok newer) g = reads_end Q R from to before after part report h to later newer (Consumes-nil to) ended g
  finish_ok (Err e) g = tt

  pub finish_stops : (r : Result RunReport RunError) (P S : Type 0) → OnErr r (BreaksAt R (unless_empty part) after later) → IfErr r (λ e. ByError e ⊥ P S) → IfErr r (λ e. Stops R e from to before later)
  finish_stops (Ok newer) P S b f = tt
  finish_stops (Err e) P S b f = let off = reads_end_broken Q R from to before after part report h to later (Consumes-nil to) ended b in by_error e P S _ _ _ f (λ _. off) (λ _. off)

pub quiet_since : {T E : Type 0} (r : Result T E) (a b c : ℕ) → b ≡ a → OnOk r (c ≡ b) → OnOk r (c ≡ a)
quiet_since (Ok x) a b c h k = k ∙ h
quiet_since (Err e) a b c h k = tt

pub quiet_kept : {T E : Type 0} (r : Result T E) (a b : ℕ) → b ≡ a → OnOk r (b ≡ a)
quiet_kept (Ok x) a b h = h
quiet_kept (Err e) a b h = tt

pub counts_since : (e : RunError) (reads between reads_after writes middle writes_after : ℕ) → between ≡ reads → middle ≡ writes
    → Counts e between reads_after middle writes_after → Counts e reads reads_after writes writes_after
counts_since e reads between reads_after writes middle writes_after p q h =
    subst (λ n. Counts e n reads_after writes writes_after) p (subst (λ n. Counts e between reads_after n writes_after) q h)

counts_write : (e : RunError) (reads reads_after writes writes_after : ℕ) → reads_after ≡ reads → ByError e ⊥ (IsRisen writes writes_after) (writes_after ≡ writes)
    → Counts e reads reads_after writes writes_after
counts_write Read reads reads_after writes writes_after p h = absurd h
counts_write Write reads reads_after writes writes_after p h = (p, h)
counts_write Memory reads reads_after writes writes_after p h = (p, h)

pub finish_counts : (r : Result RunReport RunError) (reads reads_after writes middle writes_after : ℕ) → reads_after ≡ reads → middle ≡ writes
    → IfErr r (λ e. ByError e ⊥ (IsRisen middle writes_after) (writes_after ≡ middle)) → IfErr r (λ e. Counts e reads reads_after writes writes_after)
finish_counts (Ok newer) reads reads_after writes middle writes_after p q h = tt
finish_counts (Err e) reads reads_after writes middle writes_after p q h =
    counts_since e reads reads reads_after writes middle writes_after refl q (counts_write e reads reads_after middle writes_after p h)
