-- Runs by what is assumed of the matches that stay unfinished: each first as no, then as yes.
use Rattle.std.specs.Prelude.{◌≡◌, ◌&&◌, ◌||◌, ◌++◌, ℕ, List, [], ◌∷◌, length, Bool, true, false, Option, None, string_bytes}
use Rattle.serde_json.specs.Data.{Data}
use Rattle.schema_meaning.specs.Members.{In}
use Rattle.schema_meaning.specs.Places.{whole}
use Rattle.schema_meaning.specs.Keywords.{Shape}
use Rattle.schema_meaning.specs.Readings.{verdicts}
use Rattle.schema_meaning.specs.Cut.{cut}
use Rattle.schema_engine.specs.Graphs.{reading_of}
use Rattle.schema_definitions.specs.Bearers.{Documents}
use Rattle.schema_definitions.specs.Sites.{Site}
use Rattle.schema_engine.specs.Led.{AsksFor}
use Rattle.schema_engine.specs.Matches.{Answers, Matches, Start, InEach, completed}
use Rattle.schema_engine.specs.declared.node.Node.{Node}
use Rattle.schema_patterns.specs.declared.table.PatternTable.{PatternTable}
use Rattle.reading_laws.specs.Keys.{Distinct}
use Rattle.graph_answers.specs.Answers.{keys_below, IsDecided, IsVerdict}
use Rattle.graph_answers.specs.Completions.{start_at, asked_from, IsStop}
use Rattle.graph_answers.specs.declared.assumed.AssumedMatch.{AssumedMatch}
use Rattle.graph_answers.specs.declared.runs.Decision.{Decision}
use Rattle.graph_answers.specs.declared.runs.Decision.TheVariants as decision
use Rattle.graph_answers.specs.declared.runs.Run.{Run}
use Rattle.graph_answers.specs.declared.runs.Run.TheVariants as run

abbrev pub same_answer : Bool → Bool → Bool
same_answer true b = b
same_answer false true = false
same_answer false false = true

abbrev pub answer_of : AssumedMatch → Answers → Bool
answer_of a rest = rest (string_bytes a.pattern) (string_bytes a.text)

-- the answers are those that are assumed
abbrev pub agrees : List AssumedMatch → Answers → Bool
agrees [] rest = true
agrees (a ∷ more) rest = same_answer a.is_match (answer_of a rest) && agrees more rest

abbrev pub after_one : Bool → Bool → Bool → Bool
after_one true true b = b
after_one true false b = false
after_one false true b = true
after_one false false b = b

-- they come behind what is assumed: up to some match they are those that are assumed, and that one is yes where no is assumed
abbrev pub is_behind : List AssumedMatch → Answers → Bool
is_behind [] rest = false
is_behind (a ∷ more) rest = after_one a.is_match (answer_of a rest) (is_behind more rest)

abbrev pub is_left : List AssumedMatch → Answers → Bool
is_left assumed rest = agrees assumed rest || is_behind assumed rest

-- the last no is a yes, and the yeses behind it are gone
pub record IsTurned (old new : List AssumedMatch) : Type 0 where
  pub before : List AssumedMatch
  pub last : AssumedMatch
  pub behind : List AssumedMatch
  pub was_no : last.is_match ≡ false
  pub all_yes : (a : AssumedMatch) → In a behind → a.is_match ≡ true
  pub was : old ≡ before ++ last ∷ behind
  pub is : new ≡ before ++ record { pattern = last.pattern; text = last.text; is_match = true } ∷ []

-- ---- matches that stay unfinished

-- in some completion questions from the start on ask for it
abbrev pub IsAskedFor : Matches → Start → List ℕ → List ℕ → Type 0
IsAskedFor m s pattern text = (rest : Answers) × AsksFor (completed m rest) s pattern text

-- a match of a pattern with a text that is asked for, and of which nothing is known
pub record IsOpen (m : Matches) (s : Start) (pattern text : List ℕ) : Type 0 where
  pub unknown : m.known pattern text ≡ None
  pub asked : ∥ IsAskedFor m s pattern text ∥₁

-- different ones
pub record AreOpen (m : Matches) (s : Start) (found : List (List ℕ × List ℕ)) : Type 0 where
  pub apart : Distinct found
  pub each : (pattern text : List ℕ) → In (pattern, text) found → IsOpen m s pattern text

pub record AreSixOpen (m : Matches) (s : Start) : Type 0 where
  pub found : List (List ℕ × List ℕ)
  pub six : length found ≡ 6
  pub are_open : AreOpen m s found

-- ---- verdicts

module _ {K : Type 0} (shape : K → Shape ℕ) (nodes : List (Node K)) (start : ℕ) (d : Data) where
  -- the verdict from a node on by these matches, a return of references taken as accepted
  unfoldable pub verdict_in : Answers → Bool
  verdict_in reads = cut verdicts (reading_of shape reads nodes) (keys_below (length nodes) d) [] start (whole d)

  abbrev begin : Start
  begin = start_at shape nodes start d

  -- a run that was not stopped has the verdict of each completion, and one that was is at a match that is asked for, and of which nothing is known
  abbrev pub IsRun : Matches → Run → Type 0
  IsRun m (run.Answered b) = InEach m (λ reads. b ≡ verdict_in reads)
  IsRun m (run.Stopped one) = IsStop (asked_from begin m) (string_bytes one.pattern) (string_bytes one.text)

  -- every completion accepts, or one refuses, or there are six matches that the value asks for and of which nothing is known
  abbrev pub IsDecision : Matches → Decision → Type 0
  IsDecision m decision.Accepted = InEach m (λ reads. verdict_in reads ≡ true)
  IsDecision m decision.Refused = (rest : Answers) × (verdict_in (completed m rest) ≡ false)
  IsDecision m decision.Undecided = AreSixOpen m begin

-- It is the verdict of documents that the graph means, where each match that the value asks for is finished: then it is never undecided.
abbrev pub IsVerdictOf : {K M : Type 0} → (K → Shape ℕ) → (M → List ℕ → Option Bool) → List (Node K) → PatternTable M → ℕ → Data → Decision → Type 0
IsVerdictOf shape finds nodes table start d decision.Accepted = IsVerdict shape finds nodes table start d true
IsVerdictOf shape finds nodes table start d decision.Refused = IsVerdict shape finds nodes table start d false
IsVerdictOf shape finds nodes table start d decision.Undecided = (docs : Documents) (makes : List ℕ → Bool) (matches : List ℕ → List ℕ → Bool) (root : Site)
    → IsDecided shape finds nodes table start d docs makes matches root → ⊥
