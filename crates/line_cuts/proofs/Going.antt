-- Lemmas on how far a run has come.
use Rattle.std.proofs.Common.{◌≡◌, ◌∙◌, ℕ, Bool, List, [], ◌∷◌, ◌++◌, ap, refl, sym, subst, append_assoc, append-nil, Option, Result, Ok, Err, OnErr}
use Rattle.std.proofs.KnownBytes.{Appends-nil, Appends-trans}
use Rattle.line_cuts.specs.Cuts.{pieces, ended_in, unless_empty}
use Rattle.line_cuts.specs.Runs.{Answered, BreaksAt, TakesSome}
use Rattle.line_cuts.specs.Steps.{Answers, Goes, Sends, nothing_yet}
use Rattle.line_cuts.specs.declared.report.RunReport.{RunReport}
use Rattle.line_cuts.proofs.Cutting.{ended_first, ended_none}
use Rattle.line_cuts.proofs.Counting.{none_answered, answered-append}

pub any_err : {T E : Type 0} (r : Result T E) (P : Type 0) → P → OnErr r P
any_err (Ok x) P h = tt
any_err (Err e) P h = h

-- nothing was written
pub breaks_none : (R : List ℕ → List ℕ → Type 0) (all : List (List ℕ)) (a : Option (List ℕ)) → BreaksAt R all a a
breaks_none R all a = record {
  written = [];
  begun = record { done = []; rest = all; texts = []; tail = []; first = refl; answered = tt; begun = refl };
  appended = Appends-nil a;
}

module _ (Q : List ℕ → Bool) (R : List ℕ → List ℕ → Type 0) (all : List (List ℕ)) where
  pub goes_none : (report : RunReport) (a : Option (List ℕ)) → Goes Q R all all report report a a []
  goes_none report a = record { lines = []; sent = []; cut = refl; answered = none_answered Q R report; appended = Appends-nil a }

  module _ (left : List (List ℕ)) (old new : RunReport) (a b : Option (List ℕ)) (text : List ℕ) where
    pub goes_answer : (line : List ℕ) (newer : RunReport) (longer : List ℕ) → Goes Q R all (line ∷ left) old new a b text → Answers Q R line new newer text longer
        → Goes Q R all left old newer a b longer
    goes_answer line newer longer g h = record {
      lines = g.lines ++ line ∷ [];
      sent = g.sent;
      cut = g.cut ∙ sym (append_assoc g.lines (line ∷ []) left);
      answered =
          subst (Answered Q R (g.lines ++ line ∷ []) old newer) (append_assoc g.sent text h.written ∙ ap (λ l. g.sent ++ l) (sym h.appended))
          (answered-append Q R g.lines (line ∷ []) old new newer (g.sent ++ text) h.written g.answered h.answered);
      appended = g.appended;
    }

    pub goes_sent : (c : Option (List ℕ)) (waits : List ℕ) → Goes Q R all left old new a b text → Sends b c text waits → Goes Q R all left old new a c waits
    goes_sent c waits g h = record {
      lines = g.lines;
      sent = g.sent ++ h.sent;
      cut = g.cut;
      answered = subst (Answered Q R g.lines old new) (ap (λ l. g.sent ++ l) h.whole ∙ sym (append_assoc g.sent h.sent waits)) g.answered;
      appended = Appends-trans a b c g.sent h.sent g.appended h.appended;
    }

    pub goes_breaks : Goes Q R all left old new a b text → BreaksAt R all a b
    goes_breaks g = record {
      written = g.sent;
      begun = record { done = g.lines; rest = left; texts = g.answered.texts; tail = text; first = g.cut; answered = g.answered.answered; begun = sym g.answered.joined };
      appended = g.appended;
    }

    pub goes_taken : (c : Option (List ℕ)) → Goes Q R all left old new a b text → TakesSome b c text → BreaksAt R all a c
    goes_taken c g t = record {
      written = g.sent ++ t.taken;
      begun = record {
        done = g.lines;
        rest = left;
        texts = g.answered.texts;
        tail = t.left;
        first = g.cut;
        answered = g.answered.answered;
        begun = sym g.answered.joined ∙ ap (λ l. g.sent ++ l) t.whole ∙ sym (append_assoc g.sent t.taken t.left);
      };
      appended = Appends-trans a b c g.sent t.taken g.appended t.appended;
    }

  -- a line ends with `end`: the line is answered, and part of what waits may be written
  module _ (part rest end after : List ℕ) (plain : pieces part ≡ part ∷ []) (first : pieces rest ≡ end ∷ pieces after) (old new : RunReport) (a b : Option (List ℕ)) (text : List ℕ)
      (g : Goes Q R all (ended_in (part ++ rest)) old new a b text) where
    pub goes_line : (newer : RunReport) (longer : List ℕ) → Answers Q R (part ++ end) new newer text longer → Goes Q R all (ended_in after) old newer a b longer
    goes_line newer longer h =
        goes_answer (ended_in after) old new a b text (part ++ end) newer longer
        (subst (λ lines. Goes Q R all lines old new a b text) (ended_first part rest plain end after first) g) h

-- the last line where it is not empty
pub unless_some : (line : List ℕ) → (line ≡ [] → ⊥) → unless_empty line ≡ line ∷ []
unless_some [] h = absurd (h refl)
unless_some (b ∷ line) h = refl

pub last_goes : (Q : List ℕ → Bool) (R : List ℕ → List ℕ → Type 0) (line : List ℕ) (old new : RunReport) (a : Option (List ℕ)) (before text : List ℕ) → (line ≡ [] → ⊥) → before ≡ []
    → Answers Q R (line ++ []) old new before text → Goes Q R (unless_empty line) [] old new a a text
last_goes Q R line old new a before text some none h =
    let last = subst (λ l. Answers Q R l old new before text) (append-nil line) h in
    let only = subst (λ l. Answers Q R line old new l text) none last in
    subst (λ lines. Goes Q R lines [] old new a a text) (sym (unless_some line some))
    (goes_answer Q R (line ∷ []) [] old old a a [] line new text (goes_none Q R (line ∷ []) old a) only)

pub finish_goes : (Q : List ℕ → Bool) (R : List ℕ → List ℕ → Type 0) (line : List ℕ) (old new newer : RunReport) (a b : Option (List ℕ)) (before text : List ℕ) → (line ≡ [] → ⊥) → before ≡ []
    → Answers Q R (line ++ []) old new before text → Sends a b text [] → newer ≡ new → Goes Q R (unless_empty line) [] old newer a b []
finish_goes Q R line old new newer a b before text some none h sends same =
    subst (λ r. Goes Q R (unless_empty line) [] old r a b []) (sym same) (goes_sent Q R (unless_empty line) [] old new a a text b [] (last_goes Q R line old new a before text some none h) sends)

pub none_goes : (Q : List ℕ → Bool) (R : List ℕ → List ℕ → Type 0) (line : List ℕ) (report : RunReport) (a : Option (List ℕ)) → line ≡ [] → Goes Q R (unless_empty line) [] report report a a []
none_goes Q R line report a none = subst (λ l. Goes Q R (unless_empty l) [] report report a a []) (sym none) (goes_none Q R [] report a)

-- a line ends, its answer is put behind what waits, and part of what waits may be written
module _ (Q : List ℕ → Bool) (R : List ℕ → List ℕ → Type 0) (all : List (List ℕ)) (part rest end after : List ℕ) (plain : pieces part ≡ part ∷ []) (first : pieces rest ≡ end ∷ pieces after)
    (old new newer : RunReport) (a b : Option (List ℕ)) (text longer : List ℕ)
    (g : Goes Q R all (ended_in (part ++ rest)) old new a b text) (h : Answers Q R (part ++ end) new newer text longer) where
  line_goes : Goes Q R all (ended_in after) old newer a b longer
  line_goes = goes_line Q R all part rest end after plain first old new a b text g newer longer h

  pub line_breaks : (c : Option (List ℕ)) → TakesSome b c longer → BreaksAt R all a c
  line_breaks c t = goes_taken Q R all (ended_in after) old newer a b longer c line_goes t

  pub line_sent : (c : Option (List ℕ)) (waits kept : List ℕ) (newest : RunReport) → Sends b c longer waits → kept ≡ [] → newest ≡ newer
      → Goes Q R all (ended_in (kept ++ after)) old newest a c waits
  line_sent c waits kept newest s none same =
      subst (λ r. Goes Q R all (ended_in (kept ++ after)) old r a c waits) (sym same)
      (subst (λ l. Goes Q R all (ended_in (l ++ after)) old newer a c waits) (sym none) (goes_sent Q R all (ended_in after) old newer a b longer c waits line_goes s))

-- no line ends
pub rest_goes : (Q : List ℕ → Bool) (R : List ℕ → List ℕ → Type 0) (all : List (List ℕ)) (part rest : List ℕ) → pieces part ≡ part ∷ [] → pieces rest ≡ rest ∷ []
    → (old new newer : RunReport) (a b c : Option (List ℕ)) (text : List ℕ) → Goes Q R all (ended_in (part ++ rest)) old new a b text → Sends b c text [] → newer ≡ new → Goes Q R all [] old newer a c []
rest_goes Q R all part rest plain none old new newer a b c text g s same =
    let still = subst (λ lines. Goes Q R all lines old new a b text) (ended_none part rest plain none) g in
    subst (λ r. Goes Q R all [] old r a c []) (sym same) (goes_sent Q R all [] old new a b text c [] still s)

pub goes_first : (Q : List ℕ → Bool) (R : List ℕ → List ℕ → Type 0) (all : List (List ℕ)) (report : RunReport) (a : Option (List ℕ)) → report ≡ nothing_yet → Goes Q R all all nothing_yet report a a []
goes_first Q R all report a e = subst (λ r. Goes Q R all all nothing_yet r a a []) (sym e) (goes_none Q R all nothing_yet a)

-- a whole text is answered, and its answer written
module _ (Q : List ℕ → Bool) (R : List ℕ → List ℕ → Type 0) (all left left_now : List (List ℕ)) (line : List ℕ) (old new newer : RunReport) (a b : Option (List ℕ)) (before text : List ℕ)
    (next : left_now ≡ line ∷ left) (g : Goes Q R all left_now old new a b []) (none : before ≡ []) (h : Answers Q R line new newer before text) where
  text_goes : Goes Q R all left old newer a b text
  text_goes = goes_answer Q R all left old new a b [] line newer text (subst (λ lines. Goes Q R all lines old new a b []) next g) (subst (λ l. Answers Q R line new newer l text) none h)

  pub text_breaks : (c : Option (List ℕ)) → TakesSome b c text → BreaksAt R all a c
  text_breaks c t = goes_taken Q R all left old newer a b text c text_goes t

  pub text_sent : (c : Option (List ℕ)) (newest : RunReport) → Sends b c text [] → newest ≡ newer → Goes Q R all left old newest a c []
  text_sent c newest s same = subst (λ r. Goes Q R all left old r a c []) (sym same) (goes_sent Q R all left old newer a b text c [] text_goes s)
