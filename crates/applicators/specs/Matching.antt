-- The questions of members whose names patterns match.
use Rattle.std.specs.Prelude.{ℕ, List, map, Bool}
use Rattle.std.specs.List.{filter, flat_map}
use Rattle.serde_json.specs.Data.{Data}
use Rattle.json_values.specs.Patterns.{matched}
use Rattle.schema_meaning.specs.Places.{to_member}
use Rattle.schema_meaning.specs.Questions.{Question, question, at_name}

-- those that one pattern matches, by the site of its schema, at a keyword
abbrev pub matching_members : {S : Type 0} → (List ℕ → List ℕ → Bool) → List ℕ → S → List ℕ → List (List ℕ × Data) → List (Question S)
matching_members matches k s pattern ms = map (λ m. question s (to_member m.0 m.1) (at_name k pattern)) (filter (λ m. matched matches pattern m.0) ms)

-- by pattern, and then by the member's name
abbrev pub by_patterns : {S : Type 0} → (List ℕ → List ℕ → Bool) → List ℕ → List (List ℕ × Data) → List (List ℕ × S) → List (Question S)
by_patterns matches k ms ps = flat_map (λ p. matching_members matches k p.1 p.0 ms) ps
