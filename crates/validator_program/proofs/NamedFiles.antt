-- Files of instances, one after another, and lines of a reader where there are none.
use Rattle.std.proofs.Common.{◌≡◌, ◌<◌, ◌≤◌, ◌+◌, ◌∙◌, ◌++◌, ℕ, List, [], ◌∷◌, Option, ap, sym, subst, drop, length, drop_of_length-le, append-nil, append_assoc, refl, arith}
use Rattle.std.specs.List.{slice_index_or}
use Rattle.std.specs.Borrow.{Bor}
use Rattle.std.specs.declared.alloc.Global.{Global}
use Rattle.std.specs.declared.vec.Vec.{Vec}
use Rattle.std.proofs.lemmas.List.{drop_more, map-append}
use Rattle.clap.specs.Walk.{texts}
use Rattle.line_cuts.specs.Cuts.{bytes_of}
use Rattle.line_cuts.specs.declared.report.RunReport.{RunReport}
use Rattle.line_cuts.specs.declared.report.RunError.{RunError}
use Rattle.line_runs.specs.Passed.{Root, Patterns}
use Rattle.program_inputs.specs.Held.{Held}
use Rattle.validator_program.specs.Given.{MayHold}
use Rattle.validator_program.specs.Instances.{AnswersFiles, AnswersNamed, AreInstances, StopsAtFiles, StopsNamed}
use Rattle.validator_program.specs.Outputs.{RunsUnder, StopsUnder}
use Rattle.validator_program.specs.declared.output.OutputForm.{OutputForm}

-- what those so far hold, and whatever the rest holds, come to all
abbrev pub HeldSoFar : (List ℕ → Held) → List (Bor (List ℕ)) → ℕ → List (Vec ℕ Global) → Type 0
HeldSoFar held names i vs = (rest : List (List ℕ)) → AreInstances held (texts (drop i names)) rest → AreInstances held (texts names) (bytes_of vs ++ rest)

pub held_next : (held : List ℕ → Held) (names : List (Bor (List ℕ))) (i : ℕ) (d : Bor (List ℕ)) (vs : List (Vec ℕ Global)) (v : Vec ℕ Global) → i < length names
    → MayHold (held (slice_index_or names i d).now) v.items → HeldSoFar held names i vs → HeldSoFar held names (i + 1) (vs ++ v ∷ [])
held_next held names i d vs v within holds so_far = λ rest more.
    subst (AreInstances held (texts names)) (sym (ap (λ t. t ++ rest) (map-append (λ w. w.items) vs (v ∷ [])) ∙ append_assoc (bytes_of vs) (v.items ∷ []) rest))
    (so_far (v.items ∷ rest) (subst (λ ns. AreInstances held (texts ns) (v.items ∷ rest)) (sym (drop_more names i d within)) (holds, more)))

pub all_held : (held : List ℕ → Held) (names : List (Bor (List ℕ))) (i : ℕ) (vs : List (Vec ℕ Global)) → length names ≤ i → HeldSoFar held names i vs → AreInstances held (texts names) (bytes_of vs)
all_held held names i vs past so_far =
    subst (AreInstances held (texts names)) (append-nil (bytes_of vs)) (so_far [] (subst (λ ns. AreInstances held (texts ns) []) (sym (drop_of_length-le names past)) tt))

module _ (form : OutputForm) (p : Patterns) (r : Root) (held : List ℕ → Held) (from to before after : Option (List ℕ)) where
  pub of_lines : (names : List (Bor (List ℕ))) (report : RunReport) → names ≡ [] → RunsUnder form p r from to before after report → AnswersNamed form p r (texts names) held from to before after report
  of_lines names report none h = subst (λ (ns : List (Bor (List ℕ))). AnswersNamed form p r (texts ns) held from to before after report) (sym none) h

  pub stops_at_lines : (names : List (Bor (List ℕ))) (e : RunError) → names ≡ [] → StopsUnder form p r e from to before after → StopsNamed form p r (texts names) held e from to before after
  stops_at_lines names e none h = subst (λ (ns : List (Bor (List ℕ))). StopsNamed form p r (texts ns) held e from to before after) (sym none) h

  pub of_files : (names : List (Bor (List ℕ))) (report : RunReport) → (names ≡ [] → ⊥) → AnswersFiles form p r (texts names) held from to before after report
      → AnswersNamed form p r (texts names) held from to before after report
  of_files [] report some h = absurd (some refl)
  of_files (n ∷ ns) report some h = h

  pub stops_at_files : (names : List (Bor (List ℕ))) (e : RunError) → (names ≡ [] → ⊥) → StopsAtFiles form p r (texts names) held from to before after
      → StopsNamed form p r (texts names) held e from to before after
  stops_at_files [] e some h = absurd (some refl)
  stops_at_files (n ∷ ns) e some h = h

pub none_named : (names : List (Bor (List ℕ))) → length names ≡ 0 → names ≡ []
none_named [] e = refl
none_named (n ∷ ns) e = absurd (omega (arith, e))
