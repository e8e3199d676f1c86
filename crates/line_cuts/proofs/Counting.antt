-- Lemmas on lines answered and counted.
use Rattle.std.proofs.Common.{◌≡◌, ◌+◌, ◌-◌, ◌∙◌, ℕ, List, [], ◌∷◌, ◌++◌, Bool, true, false, ◌||◌, min, length, take, drop, arith, ap, refl, sym, append-nil, length-append}
use Rattle.std.specs.List.{AllZip, concat, list_any}
use Rattle.std.proofs.Math.Seq.{drop-append_seam}
use Rattle.std.proofs.lemmas.List.{take_rest}
use Rattle.std.proofs.lemmas.List.Folds.{list_any-append, concat-append}
use Rattle.line_cuts.specs.Devices.{most}
use Rattle.line_cuts.specs.Runs.{Answered}
use Rattle.line_cuts.specs.declared.report.RunReport.{RunReport}

or_false : (b : Bool) → (b || false) ≡ b
or_false true = refl
or_false false = refl

or_assoc : (a b c : Bool) → ((a || b) || c) ≡ (a || (b || c))
or_assoc true b c = refl
or_assoc false b c = refl

-- ---- two lists, place by place

pub all_zip-append : {A B : Type 0} (R : A → B → Type 0) (xs cs : List A) (ys ds : List B) → AllZip R xs ys → AllZip R cs ds → AllZip R (xs ++ cs) (ys ++ ds)
all_zip-append R [] cs [] ds p q = q
all_zip-append R [] cs (y ∷ ys) ds p q = absurd p
all_zip-append R (x ∷ xs) cs [] ds p q = absurd p
all_zip-append R (x ∷ xs) cs (y ∷ ys) ds p q = (p.0, all_zip-append R xs cs ys ds p.1 q)

-- ---- one line

pub behind : (start : ℕ) (before written : List ℕ) → start ≡ length before → take (length (before ++ written) - start) (drop start (before ++ written)) ≡ written
behind start before written e = take_rest (before ++ written) start ∙ ap (λ n. drop n (before ++ written)) e ∙ drop-append_seam before written

pub one_answered : (Q : List ℕ → Bool) (R : List ℕ → List ℕ → Type 0) (line written : List ℕ) (old new : RunReport) → R line written
    → new.lines ≡ min (old.lines + 1) most → new.any_refused ≡ (old.any_refused || Q written) → Answered Q R (line ∷ []) old new written
one_answered Q R line written old new r counted refused = record {
  texts = written ∷ [];
  answered = (r, tt);
  joined = sym (append-nil written);
  counted = λ _. counted;
  refused = refused ∙ ap (λ b. old.any_refused || b) (sym (or_false (Q written)));
}

-- ---- no lines, and lines after lines

pub none_answered : (Q : List ℕ → Bool) (R : List ℕ → List ℕ → Type 0) (report : RunReport) → Answered Q R [] report report []
none_answered Q R report = record { texts = []; answered = tt; joined = refl; counted = λ low. omega arith; refused = sym (or_false report.any_refused) }

pub answered-append : (Q : List ℕ → Bool) (R : List ℕ → List ℕ → Type 0) (lines more : List (List ℕ)) (a b c : RunReport) (bytes later : List ℕ)
    → Answered Q R lines a b bytes → Answered Q R more b c later → Answered Q R (lines ++ more) a c (bytes ++ later)
answered-append Q R lines more a b c bytes later p q = record {
  texts = p.texts ++ q.texts;
  answered = all_zip-append R lines more p.texts q.texts p.answered q.answered;
  joined = ap (λ l. l ++ later) p.joined ∙ ap (λ l. concat p.texts ++ l) q.joined ∙ sym (concat-append p.texts q.texts);
  counted = λ low. let x = p.counted low in let y = q.counted (omega arith) in omega (arith, x, y, length-append p.texts q.texts);
  refused = q.refused ∙ ap (λ b. b || list_any Q q.texts) p.refused ∙ or_assoc a.any_refused _ _ ∙ ap (λ b. a.any_refused || b) (sym (list_any-append Q p.texts q.texts));
}
