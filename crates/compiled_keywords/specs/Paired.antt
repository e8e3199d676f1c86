-- Keywords whose questions are pushed together: of the members that patterns match, and of those that are not declared beside.
use Rattle.std.specs.Prelude.{◌≡◌, ℕ, List, [], ◌∷◌, ◌++◌, map, Bool, true, false, Some, slice_get}
use Rattle.std.specs.List.{filter, flat_map}
use Rattle.serde_json.specs.Data.{Data}
use Rattle.json_values.specs.Patterns.{matched}
use Rattle.schema_meaning.specs.Places.{to_member}
use Rattle.schema_meaning.specs.Questions.{Declared, is_declared, members_of}
use Rattle.schema_engine.specs.Matches.{Answers}
use Rattle.schema_engine.specs.Questions.{Call}
use Rattle.schema_engine.specs.declared.node.Together.{Together}
use Rattle.applicators.specs.Forms.{Form, by_pattern, of_others}
use Rattle.applicators.specs.declared.combining.Combining.{Combining}
use Rattle.applicators.specs.declared.combining.Combining.TheVariants as combining
use Rattle.compiled_keywords.specs.Applied.{combining_of, asks_of}
use Rattle.compiled_keywords.specs.Asked.{patterns_of}
use Rattle.compiled_keywords.specs.Owned.{declared_by}
use Rattle.compiled_keywords.specs.declared.applicator.Applicator.{Applicator}
use Rattle.compiled_keywords.specs.declared.asks.Asks.{Asks}
use Rattle.compiled_keywords.specs.declared.asks.Asks.TheVariants as code
use Rattle.compiled_keywords.specs.declared.keyword.Keyword.{Keyword}
use Rattle.compiled_keywords.specs.declared.keyword.Keyword.TheVariants as keyword

-- the patterns of the first are those that the second takes as declared, in their order
abbrev pub AreBeside : Asks → Asks → Type 0
AreBeside (code.MatchingMembers nodes) (code.OtherMembers declared node) = patterns_of nodes.items ≡ (declared_by declared).patterns
AreBeside one other = ⊥

-- every answer has to be yes
abbrev pub wants_all : Combining → Bool
wants_all combining.Every = true
wants_all combining.Together = true
wants_all c = false

-- so it is of both
pub record GoTogether (a b : Applicator) : Type 0 where
  pub first : wants_all (combining_of a) ≡ true
  pub second : wants_all (combining_of b) ≡ true
  pub beside : AreBeside (asks_of a) (asks_of b)

abbrev pub Pairs : Keyword → Keyword → Type 0
Pairs (keyword.Applicator a) (keyword.Applicator b) = GoTogether a b
Pairs one other = ⊥

-- two of a list that go together, at these positions
pub record StandTogether (keywords : List Keyword) (t : Together) : Type 0 where
  pub one : Keyword
  pub other : Keyword
  pub first : slice_get keywords t.first ≡ Some one
  pub second : slice_get keywords t.second ≡ Some other
  pub pairs : Pairs one other

-- ---- what is asked, member by member

abbrev pub member_call : ℕ → List ℕ × Data → Call
member_call node m = record { node = node; step = to_member m.0 m.1; follows = false; beside = true }

-- of one member, by the node of each pattern that matches its name
abbrev pub matched_calls : Answers → List (List ℕ × ℕ) → List ℕ × Data → List Call
matched_calls matches ps m = map (λ p. member_call p.1 m) (filter (λ p. matched matches p.0 m.0) ps)

abbrev pub unless_so : Bool → Call → List Call
unless_so true c = []
unless_so false c = c ∷ []

-- and by the other keyword's node, where it is not declared
abbrev pub calls_of_member : Answers → List (List ℕ × ℕ) → Declared → ℕ → List ℕ × Data → List Call
calls_of_member matches ps declared node m = matched_calls matches ps m ++ unless_so (is_declared matches declared m.0) (member_call node m)

abbrev pub calls_of_members : Answers → List (List ℕ × ℕ) → Declared → ℕ → List (List ℕ × Data) → List Call
calls_of_members matches ps declared node ms = flat_map (calls_of_member matches ps declared node) ms

abbrev pub calls_of_both : Answers → Form ℕ → Form ℕ → Data → List Call
calls_of_both matches (by_pattern ps) (of_others declared node) d = calls_of_members matches ps declared node (members_of d)
calls_of_both matches one other d = []
