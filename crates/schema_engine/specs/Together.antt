-- Questions of two keywords, pushed together.
use Rattle.std.specs.Prelude.{◌≡◌, ◌⊎◌, ◌&&◌, List, map, take, drop, length, Bool, true, ℕ}
use Rattle.schema_meaning.specs.Members.{In}
use Rattle.schema_meaning.specs.Rules.{Rule}
use Rattle.schema_engine.specs.Questions.{Call, call_of}
use Rattle.schema_engine.specs.Rules.{all_beside, combined, combination_of, questions_of}
use Rattle.schema_engine.specs.declared.place.Question as code

-- the verdict of a rule by the answers to its questions
abbrev pub answered : Rule ℕ → (Call → Bool) → Bool
answered k ask = combined (combination_of k) ask (questions_of k)

-- behind what was there stand questions of two rules, and both accept where each of these is answered yes
pub record PushesBoth (old new : List code.Question) (one other : Rule ℕ) : Type 0 where
  pub kept : take (length old) new ≡ old
  pub each : (c : Call) → In c (map call_of (drop (length old) new)) → In c (questions_of one) ⊎ In c (questions_of other)
  pub all : (ask : Call → Bool) → all_beside ask true (map call_of (drop (length old) new)) ≡ (answered one ask && answered other ask)
