-- Lemmas on runs over a reader.
use Rattle.std.proofs.Common.{◌≡◌, ◌∙◌, ℕ, Bool, List, [], ◌++◌, ap, refl, sym, subst, append_assoc, append-nil, Option, arith, inl, inr}
use Rattle.std.specs.List.{AllZip, concat}
use Rattle.std.specs.Io.KnownBytes.{Appends, Consumes, IsAtEnd, Keeps}
use Rattle.std.proofs.KnownBytes.{Appends-nil, Appends-trans, Consumes-nil, Consumes-trans, Consumes-kept}
use Rattle.std.proofs.lemmas.List.Folds.{concat-append}
use Rattle.line_cuts.specs.Cuts.{ended_in, part_of, lines_of, unless_empty}
use Rattle.line_cuts.specs.Runs.{Answered, BreaksAt, BreaksOff, ByError, ReadsOn, RunsThroughBy}
use Rattle.line_cuts.specs.Steps.{Goes, Reads, StopsOnward, nothing_yet}
use Rattle.line_cuts.specs.declared.report.RunReport.{RunReport}
use Rattle.line_cuts.specs.declared.report.RunError.{RunError}
use Rattle.line_cuts.specs.declared.report.RunError.TheVariants.{Read, Write, Memory}
use Rattle.line_cuts.proofs.Cutting.{ended_append, part_append}
use Rattle.line_cuts.proofs.Counting.{all_zip-append, none_answered, answered-append}
use Rattle.line_cuts.proofs.Going.{breaks_none}

-- ---- answers after answers

module _ (Q : List ℕ → Bool) (R : List ℕ → List ℕ → Type 0) (lines more : List (List ℕ)) (a b c : Option (List ℕ)) where
  pub goes_on : (old new newer : RunReport) (written : List ℕ) → Answered Q R lines old new written → (g : Goes Q R more [] new newer b c []) → Answered Q R (lines ++ more) old newer (written ++ g.sent)
  goes_on old new newer written h g =
      let all = subst (λ l. Answered Q R l new newer (g.sent ++ [])) (sym (append-nil g.lines) ∙ sym g.cut) g.answered in
      answered-append Q R lines more old new newer written g.sent h (subst (Answered Q R more new newer) (append-nil g.sent) all)

  pub breaks_on : (old new : RunReport) (written : List ℕ) → Answered Q R lines old new written → Appends a b written → BreaksAt R more b c → BreaksAt R (lines ++ more) a c
  breaks_on old new written h p k = record {
    written = written ++ k.written;
    begun = record {
      done = lines ++ k.begun.done;
      rest = k.begun.rest;
      texts = h.texts ++ k.begun.texts;
      tail = k.begun.tail;
      first = ap (λ l. lines ++ l) k.begun.first ∙ sym (append_assoc lines k.begun.done k.begun.rest);
      answered = all_zip-append R lines k.begun.done h.texts k.begun.texts h.answered k.begun.answered;
      begun =
          concat-append h.texts k.begun.texts ∙ ap (λ l. l ++ concat k.begun.texts) (sym h.joined) ∙ ap (λ l. written ++ l) k.begun.begun
          ∙ sym (append_assoc written k.written k.begun.tail);
    };
    appended = Appends-trans a b c written k.written p k.appended;
  }

-- ---- the reader

module _ (Q : List ℕ → Bool) (R : List ℕ → List ℕ → Type 0) where
  pub reads_none : (from before : Option (List ℕ)) → Reads Q R from from before before [] nothing_yet
  reads_none from before = record { input = []; written = []; read = Consumes-nil from; kept = refl; answered = none_answered Q R nothing_yet; appended = Appends-nil before }

  module _ (from to before after : Option (List ℕ)) (part : List ℕ) (report : RunReport) (h : Reads Q R from to before after part report) where
    ended_more : (piece : List ℕ) → ended_in (h.input ++ piece) ≡ ended_in h.input ++ ended_in (part ++ piece)
    ended_more piece = ended_append h.input piece ∙ ap (λ l. ended_in h.input ++ ended_in (l ++ piece)) (sym h.kept)

    all_lines : lines_of h.input ≡ ended_in h.input ++ unless_empty part
    all_lines = ap (λ l. ended_in h.input ++ unless_empty l) (sym h.kept)

    pub reads_kept : (next : Option (List ℕ)) → Keeps to next → ReadsOn R from next before after
    reads_kept next k = record {
      input = h.input;
      texts = h.answered.texts;
      read = Consumes-kept from to next h.input h.read k;
      answered = h.answered.answered;
      appended = subst (Appends before after) h.answered.joined h.appended;
    }

    module _ (next later : Option (List ℕ)) where
      pub reads_more : (piece keeps : List ℕ) (newer : RunReport) → Consumes to next piece → Goes Q R (ended_in (part ++ piece)) [] report newer after later []
          → keeps ≡ part_of (part ++ piece) → Reads Q R from next before later keeps newer
      reads_more piece keeps newer k g e = record {
        input = h.input ++ piece;
        written = h.written ++ g.sent;
        read = Consumes-trans from to next h.input piece h.read k;
        kept = e ∙ ap (λ l. part_of (l ++ piece)) h.kept ∙ sym (part_append h.input piece);
        answered =
            subst (λ l. Answered Q R l nothing_yet newer (h.written ++ g.sent)) (sym (ended_more piece))
            (goes_on Q R (ended_in h.input) (ended_in (part ++ piece)) before after later nothing_yet report newer h.written h.answered g);
        appended = Appends-trans before after later h.written g.sent h.appended g.appended;
      }

      pub reads_broken : (piece : List ℕ) → Consumes to next piece → BreaksAt R (ended_in (part ++ piece)) after later → BreaksOff R from next before later
      reads_broken piece k broken = record {
        input = h.input ++ piece;
        lines = ended_in (h.input ++ piece);
        read = Consumes-trans from to next h.input piece h.read k;
        known = inl refl;
        breaks =
            subst (λ l. BreaksAt R l before later) (sym (ended_more piece))
            (breaks_on Q R (ended_in h.input) (ended_in (part ++ piece)) before after later nothing_yet report h.written h.answered h.appended broken);
      }

      read_all : Consumes to next [] → Consumes from next h.input
      read_all k = subst (Consumes from next) (append-nil h.input) (Consumes-trans from to next h.input [] h.read k)

      pub reads_end : (newer : RunReport) → Consumes to next [] → IsAtEnd next → Goes Q R (unless_empty part) [] report newer after later [] → RunsThroughBy Q R from next before later newer
      reads_end newer k ended g =
          let all = goes_on Q R (ended_in h.input) (unless_empty part) before after later nothing_yet report newer h.written h.answered g in
          let counted = all.counted (omega arith) in
          record {
            input = h.input;
            texts = all.texts;
            read = read_all k;
            ended = ended;
            answered = subst (λ l. AllZip R l all.texts) (sym all_lines) all.answered;
            appended = subst (Appends before later) all.joined (Appends-trans before after later h.written g.sent h.appended g.appended);
            counted = omega (arith, counted);
            refused = all.refused;
          }

      pub reads_end_broken : Consumes to next [] → IsAtEnd next → BreaksAt R (unless_empty part) after later → BreaksOff R from next before later
      reads_end_broken k ended broken = record {
        input = h.input;
        lines = lines_of h.input;
        read = read_all k;
        known = inr (ended, refl);
        breaks =
            subst (λ l. BreaksAt R l before later) (sym all_lines)
            (breaks_on Q R (ended_in h.input) (unless_empty part) before after later nothing_yet report h.written h.answered h.appended broken);
      }

pub off_at_once : (R : List ℕ → List ℕ → Type 0) (from before : Option (List ℕ)) → BreaksOff R from from before before
off_at_once R from before = record { input = []; lines = []; read = Consumes-nil from; known = inl refl; breaks = breaks_none R [] before }

-- ---- errors

pub by_error : (e : RunError) (P Q S V W : Type 0) → ByError e ⊥ P Q → (P → V) → (Q → W) → ByError e S V W
by_error Read P Q S V W h v w = absurd h
by_error Write P Q S V W h v w = v h
by_error Memory P Q S V W h v w = w h

pub stops_broken : (Q : List ℕ → Bool) (R : List ℕ → List ℕ → Type 0) (e : RunError) (to next after later : Option (List ℕ)) (part : List ℕ) (report : RunReport) (piece : List ℕ) (P S : Type 0)
    → Consumes to next piece → BreaksAt R (ended_in (part ++ piece)) after later → ByError e ⊥ P S → StopsOnward Q R e to next after later part report
stops_broken Q R e to next after later part report piece P S k broken failed = record {
  onward = λ from before r. let off = reads_broken Q R from to before after part report r next later piece k broken in by_error e P S _ _ _ failed (λ _. off) (λ _. off);
}

pub reads_first : (Q : List ℕ → Bool) (R : List ℕ → List ℕ → Type 0) (from before : Option (List ℕ)) (part : List ℕ) (report : RunReport) → part ≡ [] → report ≡ nothing_yet → Reads Q R from from before before part report
reads_first Q R from before part report p q = subst (λ l. Reads Q R from from before before l report) (sym p) (subst (λ n. Reads Q R from from before before [] n) (sym q) (reads_none Q R from before))
