-- Runs by what is written for lines, where that is something else besides.
use Rattle.std.proofs.Common.{ℕ, Bool, List, [], ◌∷◌, Option}
use Rattle.std.specs.List.{AllZip}
use Rattle.line_cuts.specs.Runs.{AnswersEach, RunsThroughBy, ReadsOn, Begins, BreaksAt, BreaksOff, Stops}
use Rattle.line_cuts.specs.declared.report.RunReport.{RunReport}
use Rattle.line_cuts.specs.declared.report.RunError.{RunError}
use Rattle.line_cuts.specs.declared.report.RunError.TheVariants.{Read, Write, Memory}

module _ (R Q : List ℕ → List ℕ → Type 0) (so : (line text : List ℕ) → R line text → Q line text) where
  each : (lines texts : List (List ℕ)) → AllZip R lines texts → AllZip Q lines texts
  each [] [] h = h
  each [] (t ∷ ts) h = absurd h
  each (l ∷ ls) [] h = absurd h
  each (l ∷ ls) (t ∷ ts) h = (so l t h.0, each ls ts h.1)

  pub runs_so : (T : List ℕ → Bool) (from to before after : Option (List ℕ)) (report : RunReport) → RunsThroughBy T R from to before after report → RunsThroughBy T Q from to before after report
  runs_so T from to before after report h = record {
    input = h.input;
    texts = h.texts;
    read = h.read;
    ended = h.ended;
    answered = each _ h.texts h.answered;
    appended = h.appended;
    counted = h.counted;
    refused = h.refused;
  }

  reads_so : (from to before after : Option (List ℕ)) → ReadsOn R from to before after → ReadsOn Q from to before after
  reads_so from to before after h = record { input = h.input; texts = h.texts; read = h.read; answered = each _ h.texts h.answered; appended = h.appended }

  begins_so : (lines : List (List ℕ)) (bytes : List ℕ) → Begins R lines bytes → Begins Q lines bytes
  begins_so lines bytes h = record { done = h.done; rest = h.rest; texts = h.texts; tail = h.tail; first = h.first; answered = each h.done h.texts h.answered; begun = h.begun }

  pub each_so : (T : List ℕ → Bool) (lines : List (List ℕ)) (before after : Option (List ℕ)) (report : RunReport) → AnswersEach T R lines before after report → AnswersEach T Q lines before after report
  each_so T lines before after report h = record { texts = h.texts; answered = each lines h.texts h.answered; appended = h.appended; counted = h.counted; refused = h.refused }

  pub breaks_at_so : (lines : List (List ℕ)) (before after : Option (List ℕ)) → BreaksAt R lines before after → BreaksAt Q lines before after
  breaks_at_so lines before after h = record { written = h.written; begun = begins_so lines h.written h.begun; appended = h.appended }

  breaks_so : (from to before after : Option (List ℕ)) → BreaksOff R from to before after → BreaksOff Q from to before after
  breaks_so from to before after h = record {
    input = h.input;
    lines = h.lines;
    read = h.read;
    known = h.known;
    breaks = breaks_at_so h.lines before after h.breaks;
  }

  pub stops_so : (e : RunError) (from to before after : Option (List ℕ)) → Stops R e from to before after → Stops Q e from to before after
  stops_so Read from to before after h = reads_so from to before after h
  stops_so Write from to before after h = breaks_so from to before after h
  stops_so Memory from to before after h = breaks_so from to before after h
