-- What a loop of the engine has still to ask.
use Rattle.std.proofs.Common.{◌≡◌, ◌≤◌, ◌+◌, ℕ, List, Bool, map}
use Rattle.schema_meaning.specs.Members.{all_true, count_true}
use Rattle.schema_meaning.specs.Keywords.{Shape, rule}
use Rattle.schema_engine.specs.declared.node.Node.{Node}
use Rattle.schema_engine.specs.declared.place.Place.{Place}
use Rattle.schema_engine.specs.declared.place.Question.{Question}
use Rattle.schema_engine.specs.Places.{value_at}
use Rattle.schema_engine.specs.Questions.{call_of}
use Rattle.schema_engine.specs.Rules.{all_beside}
use Rattle.schema_engine.specs.Graphs.{reading_of, rank_at}
use Rattle.schema_engine.specs.Verdicts.{Setting, Fits, asked_in, rule_in, size}

module _ {K : Type 0} (shape : K → Shape ℕ) (matches : List ℕ → List ℕ → Bool) (nodes : List (Node K)) (node : ℕ) (p : Place) (progress : List ℕ) where
  -- of all keywords, the rest decides
  pub record KeywordsLeft (all rest : List K) : Type 0 where
    pub left : (x : Setting) → Fits p progress x → size nodes (value_at p) progress (rank_at nodes node) ≤ x.depth
        → all_true (map (λ k. rule_in (reading_of shape matches nodes) (rule matches (value_at p) (shape k)) x) all)
        ≡ all_true (map (λ k. rule_in (reading_of shape matches nodes) (rule matches (value_at p) (shape k)) x) rest)

  -- of all questions, the rest decides
  pub record EachLeft (beside : Bool) (all rest : List Question) : Type 0 where
    pub left : (x : Setting) → Fits p progress x → size nodes (value_at p) progress (rank_at nodes node) ≤ x.depth
        → all_beside (asked_in (reading_of shape matches nodes) x) beside (map call_of all) ≡ all_beside (asked_in (reading_of shape matches nodes) x) beside (map call_of rest)

  -- so many answers are yes, and those of the rest
  pub record CountLeft (all rest : List Question) (count : ℕ) : Type 0 where
    pub left : (x : Setting) → Fits p progress x → size nodes (value_at p) progress (rank_at nodes node) ≤ x.depth
        → count_true (map (asked_in (reading_of shape matches nodes) x) (map call_of all)) ≡ count_true (map (asked_in (reading_of shape matches nodes) x) (map call_of rest)) + count
