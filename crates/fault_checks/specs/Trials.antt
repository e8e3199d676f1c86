-- What is said of a schema that is tried on a value.
use Rattle.std.specs.Prelude.{ℕ, List, Bool, not}
use Rattle.serde_json.specs.Data.{Data}
use Rattle.serde_json.specs.View.{view}
use Rattle.schema_meaning.specs.Places.{value_after}
use Rattle.schema_patterns.specs.Read.{reads}
use Rattle.applicators.specs.Questions.{step_of}
use Rattle.applicators.specs.Applied as applied
use Rattle.applicators.specs.declared.question.Asked.{Asked}
use Rattle.applicators.specs.declared.question.Question.{Question}
use Rattle.fault_checks.specs.Passed.{AreAsked, target_in}
use Rattle.plain_reader.specs.Passed.{Keyword, ReferenceKeyword, Resolved}
use Rattle.fault_checks.specs.Rows.{applied_row, applied_questions, reference_row, reference_questions}
use Rattle.fault_checks.specs.Verdicts.{IsVerdict, IsInnerVerdict, IsRefusalAt, IsAnswered, AreRefused, AreCounted}
use Rattle.fault_checks.specs.declared.trial.Trial.{Trial}

-- ---- whether the value is refused, another, what is asked of, and the value by a schema at a keyword

abbrev pub IsRefused : Trial → Bool → Type 0
IsRefused t b = IsVerdict t.site.now (view t.value.now) (not b)

abbrev pub IsOtherRefused : Trial → Data → Bool → Type 0
IsOtherRefused t d b = IsVerdict t.site.now d (not b)

abbrev pub IsAskedRefused : Trial → Asked → Bool → Type 0
IsAskedRefused t asked b = IsVerdict t.site.now (value_after (view t.value.now) (step_of asked)) (not b)

abbrev pub IsInnerRefused : Trial → List ℕ → Data → Bool → Type 0
IsInnerRefused t k schema b = IsInnerVerdict t.site.now (view t.value.now) k schema (not b)

-- ---- whether a keyword refuses under a name, and the target of a reference

abbrev pub KeywordRefuses : Trial → Keyword → List ℕ → Bool → Type 0
KeywordRefuses t k name b = IsRefusalAt t.site.now (view t.value.now) k name b

abbrev pub IsTargetRefused : Trial → ReferenceKeyword → List ℕ → Resolved → Bool → Type 0
IsTargetRefused t by text target b =
    AreRefused t.site.now (view t.value.now) (reference_row by text (target_in target)) (reference_questions by text (target_in target)) b

-- ---- the questions of an applicator, whether one is refused, some of them, and how many are accepted

abbrev pub AreItsQuestions : Trial → applied.Applicator → List Question → Type 0
AreItsQuestions t a qs = AreAsked (reads t.site.now.matches.now) a (view t.value.now) qs

abbrev pub IsQuestionRefused : Trial → Question → Bool → Type 0
IsQuestionRefused t q b = IsAnswered t.site.now (view t.value.now) q (not b)

abbrev pub IsSomeRefused : Trial → applied.Applicator → Bool → Type 0
IsSomeRefused t a b = AreRefused t.site.now (view t.value.now) (applied_row a) (applied_questions a (view t.value.now)) b

abbrev pub CountsAccepted : Trial → applied.Applicator → ℕ → ℕ → Type 0
CountsAccepted t a asked accepted = AreCounted t.site.now (view t.value.now) a asked accepted
