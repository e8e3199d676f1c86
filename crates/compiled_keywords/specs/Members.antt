-- Members of objects, and the questions that are asked of them.
use Rattle.std.specs.Prelude.{ℕ, List, [], map, not, Bool, Option, None, Some}
use Rattle.std.specs.List.{filter}
use Rattle.std.specs.Borrow.{Bor}
use Rattle.serde_json.specs.Data.{Data}
use Rattle.serde_json.specs.View.{members_view}
use Rattle.json_values.specs.Patterns.{matched}
use Rattle.schema_meaning.specs.Places.{to_member}
use Rattle.schema_meaning.specs.Questions.{Question, question, at_name, listed_members, Declared, is_declared}
use Rattle.schema_meaning.specs.Keywords.{Dependency, needs, applies}
use Rattle.applicators.specs.Lent.{Schemas}

abbrev pub listed : Schemas → List (List ℕ × Data)
listed ms = listed_members (members_view ms.entries)

abbrev pub members_in : Option (Bor Schemas) → List (List ℕ × Data)
members_in None = []
members_in (Some ms) = listed ms.now

-- those whose names a pattern matches, by its node
abbrev pub matching_of : (List ℕ → List ℕ → Bool) → List ℕ → List ℕ × ℕ → List (List ℕ × Data) → List (Question ℕ)
matching_of matches k p ms = map (λ m. question p.1 (to_member m.0 m.1) (at_name k p.0)) (filter (λ m. matched matches p.0 m.0) ms)

-- those that are not declared
abbrev pub others_among : (List ℕ → List ℕ → Bool) → Declared → List (List ℕ × Data) → List (List ℕ × Data)
others_among matches declared ms = filter (λ m. not (is_declared matches declared m.0)) ms

-- the node that is asked where a name is a member's
abbrev pub applied_node : Option Data → Dependency ℕ → Option ℕ
applied_node None d = None
applied_node (Some e) (needs names) = None
applied_node (Some e) (applies node) = Some node
