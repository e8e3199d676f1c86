-- What checks say of the faults that a line lists.
use Rattle.std.specs.Prelude.{◌≡◌, ℕ, List, Bool, Option, Some, None, map}
use Rattle.std.specs.List.{AllZip}
use Rattle.std.specs.Borrow.{Bor}
use Rattle.serde_json.specs.Data.{Data}
use Rattle.schema_definitions.specs.Lines.{line_value}
use Rattle.schema_registries.specs.Roots.{Patterns, Root, IsSound, root_on}
use Rattle.fault_checks.specs.Checked.{AreReached, IsChecked}
use Rattle.fault_checks.specs.declared.checking.CheckAnswer.{CheckAnswer}
use Rattle.answer_checks.specs.Paths.{Paths, paths_in}
use Rattle.answer_checks.specs.declared.checker.AnswerChecker.{AnswerChecker}
use Rattle.answer_checks.specs.declared.run.LinePair.{LinePair}

-- the answer of a check of two paths, at a root that builds
abbrev pub IsPathChecked : Patterns → Root → Data → Paths → CheckAnswer → Type 0
IsPathChecked p r d path answer = IsSound p r → IsChecked p r d path.0 path.1 answer

-- what is said of a line: its answers, or nothing
abbrev pub CheckAnswers : Type 0
CheckAnswers = Option (List CheckAnswer)

-- one answer for each of the paths; none where there is no value or no list
abbrev pub ValueChecked : Patterns → Root → Option Data → Option (List Paths) → CheckAnswers → Type 0
ValueChecked p r None paths answers = answers ≡ None
ValueChecked p r (Some d) None answers = answers ≡ None
ValueChecked p r (Some d) (Some paths) None = ⊥
ValueChecked p r (Some d) (Some paths) (Some answers) = AllZip (IsPathChecked p r d) paths answers

-- an instance, and the line that lists its faults
abbrev pub Listed : Type 0
Listed = List ℕ × List ℕ

abbrev pub pair_bytes : LinePair → Listed
pair_bytes pair = (pair.instance.now, pair.answers.now)

abbrev pub IsPairChecked : Patterns → Root → Listed → CheckAnswers → Type 0
IsPairChecked p r lines answers = ValueChecked p r (line_value lines.0) (paths_in lines.1) answers

-- the bytes that are lent
abbrev pub views : List (Bor (List ℕ)) → List (List ℕ)
views texts = map (λ s. s.now) texts

-- ---- by a checker

-- it goes by the patterns that are reached from a root
pub record IsCheckerOf {M : Type 0} (finds : M → List ℕ → Option Bool) (p : Patterns) (r : Root) (checker : AnswerChecker M) : Type 0 where
  pub root : root_on checker.registry.now checker.root.now ≡ r
  pub reached : AreReached finds p r checker.patterns

-- one answer for each of the paths, at each root of which it is one
abbrev pub AreCheckedBy : {M : Type 0} → (M → List ℕ → Option Bool) → AnswerChecker M → Data → List Paths → List CheckAnswer → Type 0
AreCheckedBy finds checker d paths answers =
    (p : Patterns) (r : Root) → IsCheckerOf finds p r checker → AllZip (IsPathChecked p r d) paths answers

abbrev pub IsLineCheckedBy : {M : Type 0} → (M → List ℕ → Option Bool) → AnswerChecker M → List ℕ → List ℕ → CheckAnswers → Type 0
IsLineCheckedBy finds checker line listed answers =
    (p : Patterns) (r : Root) → IsCheckerOf finds p r checker → IsPairChecked p r (line, listed) answers

abbrev pub IsPairCheckedBy : {M : Type 0} → (M → List ℕ → Option Bool) → AnswerChecker M → Listed → CheckAnswers → Type 0
IsPairCheckedBy finds checker lines answers = IsLineCheckedBy finds checker lines.0 lines.1 answers
