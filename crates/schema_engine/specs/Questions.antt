-- Questions of numbered nodes.
use Rattle.std.specs.Prelude.{◌≡◌, ℕ, List, [], map, take, drop, length, Bool}
use Rattle.json_values.specs.Parts.{Part}
use Rattle.schema_meaning.specs.Places.{Step}
use Rattle.schema_meaning.specs.Questions as told
use Rattle.schema_engine.specs.Places.{step_of}
use Rattle.schema_engine.specs.declared.place.Question as code

-- one without the parts that it adds to a road
pub record Call : Type 0 where
  pub node : ℕ
  pub step : Step
  pub follows : Bool
  pub beside : Bool

-- what the code's question asks
abbrev pub call_of : code.Question → Call
call_of q = record { node = q.node; step = step_of q.asked; follows = q.follows; beside = q.beside }

-- a question of a rule, beside an answer to a condition
abbrev pub call : Bool → told.Question ℕ → Call
call b q = record { node = q.site; step = q.step; follows = q.follows; beside = b }

-- as a question of a rule
abbrev pub question_of : Call → told.Question ℕ
question_of c = record { site = c.node; step = c.step; added = []; follows = c.follows }

-- the code's question as one of a rule, which adds these parts, and as a keyword's, which knows the parts of its entries
abbrev pub told_question : List Part → code.Question → told.Question ℕ
told_question added q = record { site = q.node; step = step_of q.asked; added = added; follows = q.follows }

abbrev pub question_by : (ℕ → List Part) → code.Question → told.Question ℕ
question_by added q = told_question (added q.entry) q

-- behind what was there stand those that are seen as these
pub record PushesAs {A : Type 0} (seen : code.Question → A) (old new : List code.Question) (all : List A) : Type 0 where
  pub kept : take (length old) new ≡ old
  pub pushed : map seen (drop (length old) new) ≡ all

abbrev pub Pushes : List code.Question → List code.Question → List Call → Type 0
Pushes old new calls = PushesAs call_of old new calls

abbrev pub PushesAsked : (ℕ → List Part) → List code.Question → List code.Question → List (told.Question ℕ) → Type 0
PushesAsked added old new qs = PushesAs (question_by added) old new qs
