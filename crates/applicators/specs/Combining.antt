-- How the answers to a keyword's questions are combined.
use Rattle.std.specs.Prelude.{◌≡◌, ◌==◌, ℕ, nat_lt, List, [], Bool, true, false, not, ◌&&◌, is_some, if◌then◌else◌}
use Rattle.serde_json.specs.Data.{Data}
use Rattle.serde_json.specs.Find.{as_array}
use Rattle.schema_meaning.specs.Faults.{Kind, AnyOf, Contains, Not, Faults, branches_of}
use Rattle.schema_meaning.specs.Members.{count_true}
use Rattle.schema_meaning.specs.Questions.{at}
use Rattle.schema_meaning.specs.Rules.{Rule, Note, every, together, each_named, some_branch, one_branch, refusal, counted, conditional, is_enough, is_few, count_refused_at, one_of_kind, verdicts_of}
use Rattle.applicators.specs.declared.combining.Combining.{Combining}
use Rattle.applicators.specs.declared.combining.Combining.TheVariants as code

-- whether it tells what is noted of the value itself, and the faults of its subschemas
abbrev pub tells_each : Combining → Bool
tells_each code.Every = true
tells_each code.Together = false
tells_each code.EachNamed = false
tells_each code.SomeBranch = false
tells_each code.OneBranch = false
tells_each code.Refusal = false
tells_each (code.Counted least most) = false
tells_each code.Conditional = false

-- whether it tells each fault of a name of the object
abbrev pub tells_names : Combining → Bool
tells_names code.Every = false
tells_names code.Together = false
tells_names code.EachNamed = true
tells_names code.SomeBranch = false
tells_names code.OneBranch = false
tells_names code.Refusal = false
tells_names (code.Counted least most) = false
tells_names code.Conditional = false

-- whether its verdict is by the number of answers that are yes and by what is noted of the value itself
abbrev pub counts_answers : Combining → Bool
counts_answers code.Every = true
counts_answers code.Together = true
counts_answers code.EachNamed = true
counts_answers code.SomeBranch = true
counts_answers code.OneBranch = true
counts_answers code.Refusal = true
counts_answers (code.Counted least most) = true
counts_answers code.Conditional = false

-- whether a value is accepted of which so many questions are asked, so many of them answered yes, where nothing is noted; a count is of
-- lists alone
abbrev pub decided_by : Combining → Data → ℕ → ℕ → Bool
decided_by code.Every d n m = m == n
decided_by code.Together d n m = m == n
decided_by code.EachNamed d n m = m == n
decided_by code.SomeBranch d n m = nat_lt 0 m
decided_by code.OneBranch d n m = m == 1
decided_by code.Refusal d n m = not (m == n)
decided_by (code.Counted least most) d n m = if is_some (as_array d) then (is_enough least m && is_few most m) else (m == n)
decided_by code.Conditional d n m = m == n

-- the name under which a keyword of this name refuses, where so many answers are yes
abbrev pub refused_under : List ℕ → Combining → ℕ → List ℕ
refused_under k code.Every n = k
refused_under k code.Together n = k
refused_under k code.EachNamed n = k
refused_under k code.SomeBranch n = k
refused_under k code.OneBranch n = k
refused_under k code.Refusal n = k
refused_under k (code.Counted least most) n = count_refused_at least most n
refused_under k code.Conditional n = k

-- the kind of the one fault, where it tells one; `own` is that by what the keyword asks
abbrev pub kind_combined : Combining → Kind → List Faults → Kind
kind_combined code.Every own answers = own
kind_combined code.Together own answers = own
kind_combined code.EachNamed own answers = own
kind_combined code.SomeBranch own answers = AnyOf (branches_of answers)
kind_combined code.OneBranch own answers = one_of_kind (count_true (verdicts_of answers)) (branches_of answers)
kind_combined code.Refusal own answers = own
kind_combined (code.Counted least most) own answers = Contains
kind_combined code.Conditional own answers = own

-- what the rule of a keyword is made of beside its questions: its name, what is noted of the value itself, and the kind and the value of
-- the one fault, where the answers do not tell them
pub record Named : Type 0 where
  pub name : List ℕ
  pub notes : List Note
  pub note : Note

-- a rule at a value combines so the answers to its questions; where a count is not of the value, nothing is asked
abbrev pub Combines : {S : Type 0} → Named → Data → Combining → Rule S → Type 0
Combines w d code.Every (every p notes qs) = (p ≡ at w.name) × (notes ≡ w.notes)
Combines w d code.Together (together p note qs) = (p ≡ at w.name) × (note ≡ w.note)
Combines w d code.EachNamed (each_named p s names) = p ≡ at w.name
Combines w d code.SomeBranch (some_branch p qs) = (p ≡ at w.name) × (w.note.value ≡ d)
Combines w d code.OneBranch (one_branch p qs) = (p ≡ at w.name) × (w.note.value ≡ d)
Combines w d code.Refusal (refusal p schema q) = (p ≡ at w.name) × (w.note.kind ≡ Not schema) × (w.note.value ≡ d)
Combines w d (code.Counted least most) (counted l m qs) = (l ≡ least) × (m ≡ most) × (w.note.value ≡ d) × (is_some (as_array d) ≡ true)
Combines w d (code.Counted least most) (every p notes qs) = (notes ≡ []) × (qs ≡ []) × (is_some (as_array d) ≡ false)
Combines w d code.Conditional (conditional q cs) = Unit {0}
Combines w d c r = ⊥
