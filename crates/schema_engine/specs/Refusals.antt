-- The faults of a rule, but for those that its questions tell.
use Rattle.std.specs.Prelude.{◌≡◌, ℕ, List, [], Bool, true, false}
use Rattle.serde_json.specs.Data.{Data}
use Rattle.serde_json.specs.View.{view}
use Rattle.json_values.specs.Parts.{Part}
use Rattle.schema_meaning.specs.Members.{count_true}
use Rattle.schema_meaning.specs.Places.{Spot}
use Rattle.schema_meaning.specs.Faults.{AnyOf, Contains, FalseSchema, Not, Fault, Faults, none, branches_of}
use Rattle.schema_meaning.specs.Questions.{at}
use Rattle.schema_meaning.specs.Rules.{Rule, every, together, each_named, some_branch, one_branch, refusal, counted, conditional, Note, own_fault, own_faults, verdicts_of, count_refused_at, one_of_kind}
use Rattle.schema_reports.specs.Kinds.{StandsFor}
use Rattle.schema_engine.specs.declared.reason.Reason.{Reason}
use Rattle.schema_engine.specs.declared.combination.Combination.{Combination}
use Rattle.schema_engine.specs.declared.combination.Combination.TheVariants as combination

-- what is noted of the value itself
abbrev pub own_notes : Rule ℕ → Spot → List Part → Faults
own_notes (every p notes qs) w above = own_faults w above p notes
own_notes (together p note qs) w above = none
own_notes (each_named p s names) w above = none
own_notes (some_branch p qs) w above = none
own_notes (one_branch p qs) w above = none
own_notes (refusal p schema q) w above = none
own_notes (counted least most qs) w above = none
own_notes (conditional q cs) w above = none

-- ---- where one fault speaks for all questions

abbrev pub has_one_fault : Combination → Bool
has_one_fault combination.Every = false
has_one_fault combination.Together = true
has_one_fault combination.EachNamed = false
has_one_fault combination.SomeBranch = true
has_one_fault combination.OneBranch = true
has_one_fault combination.Refusal = true
has_one_fault (combination.Counted least most) = true
has_one_fault combination.Conditional = false

-- the parts under which the rule refuses where so many answers are yes
abbrev pub refused_at : Rule ℕ → ℕ → List Part
refused_at (every p notes qs) n = p
refused_at (together p note qs) n = p
refused_at (each_named p s names) n = p
refused_at (some_branch p qs) n = p
refused_at (one_branch p qs) n = p
refused_at (refusal p schema q) n = p
refused_at (counted least most qs) n = at (count_refused_at least most n)
refused_at (conditional q cs) n = []

-- what is wrong with the value, by the faults of each question
abbrev pub refused : Rule ℕ → Data → List Faults → Note
refused (every p notes qs) d answers = record { kind = FalseSchema; value = d }
refused (together p note qs) d answers = note
refused (each_named p s names) d answers = record { kind = FalseSchema; value = d }
refused (some_branch p qs) d answers = record { kind = AnyOf (branches_of answers); value = d }
refused (one_branch p qs) d answers = record { kind = one_of_kind (count_true (verdicts_of answers)) (branches_of answers); value = d }
refused (refusal p schema q) d answers = record { kind = Not schema; value = d }
refused (counted least most qs) d answers = record { kind = Contains; value = d }
refused (conditional q cs) d answers = record { kind = FalseSchema; value = d }

-- the one fault
abbrev pub refused_fault : Rule ℕ → Spot → List Part → List Faults → Fault
refused_fault k w above answers = own_fault w above (refused_at k (count_true (verdicts_of answers))) (refused k w.value answers)

-- ---- what a keyword says of it

-- the rule refuses under this name, where so many answers are yes
abbrev pub IsRefusedUnder : Rule ℕ → ℕ → List ℕ → Type 0
IsRefusedUnder (every p notes qs) n name = Unit {0}
IsRefusedUnder (together p note qs) n name = p ≡ at name
IsRefusedUnder (each_named p s names) n name = Unit {0}
IsRefusedUnder (some_branch p qs) n name = p ≡ at name
IsRefusedUnder (one_branch p qs) n name = p ≡ at name
IsRefusedUnder (refusal p schema q) n name = p ≡ at name
IsRefusedUnder (counted least most qs) n name = count_refused_at least most n ≡ name
IsRefusedUnder (conditional q cs) n name = Unit {0}

-- the code's reason is this note
pub record IsNote (r : Reason) (note : Note) : Type 0 where
  pub kind : StandsFor r.kind note.kind
  pub value : view r.value.now ≡ note.value

-- the reason of a rule whose one fault says nothing of the answers
abbrev pub IsReason : Rule ℕ → Data → Reason → Type 0
IsReason (every p notes qs) d r = Unit {0}
IsReason (together p note qs) d r = IsNote r note
IsReason (each_named p s names) d r = Unit {0}
IsReason (some_branch p qs) d r = Unit {0}
IsReason (one_branch p qs) d r = Unit {0}
IsReason (refusal p schema q) d r = IsNote r (record { kind = Not schema; value = d })
IsReason (counted least most qs) d r = Unit {0}
IsReason (conditional q cs) d r = Unit {0}
