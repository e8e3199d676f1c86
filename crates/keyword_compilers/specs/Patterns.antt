-- The patterns of keywords, by their numbers in a table.
use Rattle.std.specs.Prelude.{◌≡◌, ℕ, List, [], ◌∷◌, map, true, bytes_eq, Option, None, Some, slice_get}
use Rattle.std.specs.List.{position_or_len}
use Rattle.serde_json.specs.View.{members_view}
use Rattle.schema_definitions.specs.Rows.{member_names}
use Rattle.schema_definitions.specs.Words.{or}
use Rattle.schema_meaning.specs.Members.{In, is_listed}
use Rattle.applicators.specs.Applied as applied
use Rattle.applicators.specs.Lent as lent
use Rattle.applicators.specs.Sites.{names_declared}
use Rattle.applicators.specs.declared.asks.AsksOf.TheVariants as asks
use Rattle.schema_sites.specs.declared.keyword.Keyword as read
use Rattle.schema_sites.specs.declared.keyword.Keyword.TheVariants as reads
use Rattle.compiled_keywords.specs.Applied.{asks_of}
use Rattle.compiled_keywords.specs.Owned.{text_of}
use Rattle.compiled_keywords.specs.declared.asks.Asks.{Asks}
use Rattle.compiled_keywords.specs.declared.asks.Asks.TheVariants as code
use Rattle.compiled_keywords.specs.declared.keyword.Keyword.{Keyword}
use Rattle.compiled_keywords.specs.declared.keyword.Keyword.TheVariants as keyword
use Rattle.compiled_keywords.specs.declared.subschemas.Pattern.{Pattern}
use Rattle.compiled_keywords.specs.declared.subschemas.PatternNode.{PatternNode}

-- ---- of a keyword that is read: those that it writes, and those declared beside

abbrev pub patterns_asked : lent.Asks → List (List ℕ)
patterns_asked (asks.MatchingMembers schemas) = member_names (members_view schemas.now.entries)
patterns_asked (asks.OtherMembers declared schema) = names_declared declared.patterns
patterns_asked f = []

abbrev pub patterns_needed : read.Keyword → List (List ℕ)
patterns_needed (reads.Pattern p) = p.now ∷ []
patterns_needed (reads.Applicator a) = patterns_asked (applied.asks_of a)
patterns_needed k = []

-- ---- of a compiled keyword

abbrev pub patterns_among : Asks → List Pattern
patterns_among (code.MatchingMembers nodes) = map (λ n. n.pattern) nodes.items
patterns_among (code.OtherMembers declared node) = declared.patterns.items
patterns_among f = []

abbrev pub patterns_of : Keyword → List Pattern
patterns_of (keyword.Pattern p) = p ∷ []
patterns_of (keyword.Applicator a) = patterns_among (asks_of a)
patterns_of k = []

abbrev pub patterns_in : Option Keyword → List Pattern
patterns_in None = []
patterns_in (Some k) = patterns_of k

-- ---- their numbers

-- the place of a text, behind the last where it is not among them
abbrev pub number_in : List (List ℕ) → List ℕ → ℕ
number_in texts p = position_or_len (bytes_eq p) texts

abbrev pub numbered : List (List ℕ) → List ℕ → List ℕ × ℕ
numbered texts p = (p, number_in texts p)

abbrev pub seen : Pattern → List ℕ × ℕ
seen p = (text_of p, p.number)

abbrev pub seen_node : PatternNode → (List ℕ × ℕ) × ℕ
seen_node n = (seen n.pattern, n.node)

-- each number's text, an empty one behind the last
abbrev pub table_texts : List (List ℕ) → ℕ → List ℕ
table_texts texts n = or [] (slice_get texts n)

-- each of these is among the texts
pub record AreHeld (texts ps : List (List ℕ)) : Type 0 where
  pub each : (p : List ℕ) → In p ps → is_listed p texts ≡ true

-- each stands among the texts at its number
pub record AreEntries (texts : List (List ℕ)) (ps : List Pattern) : Type 0 where
  pub each : (p : Pattern) → In p ps → slice_get texts p.number ≡ Some (text_of p)
