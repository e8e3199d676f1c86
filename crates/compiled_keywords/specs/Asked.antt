-- The matches that a keyword may ask for, each of patterns with each of texts.
use Rattle.std.specs.Prelude.{ℕ, List, map}
use Rattle.serde_json.specs.Data.{Data, string}
use Rattle.schema_meaning.specs.Members.{In}
use Rattle.schema_meaning.specs.Questions.{members_of}
use Rattle.schema_engine.specs.Led.{MayMatch}
use Rattle.schema_engine.specs.Matches.{Matches}
use Rattle.applicators.specs.Forms.{Form, by_pattern, of_others}
use Rattle.compiled_keywords.specs.declared.subschemas.PatternNode.{PatternNode}
use Rattle.compiled_keywords.specs.Owned as owned

abbrev pub patterns_of : List PatternNode → List (List ℕ)
patterns_of nodes = map (λ p. p.0) (map owned.by_pattern nodes)

-- a pattern with a value, if that is a text
abbrev pub MayMatchText : Matches → List ℕ → Data → Type 0
MayMatchText m pattern (string text) = MayMatch m pattern text
MayMatchText m pattern d = Unit {0}

pub record MayMatchEach (m : Matches) (patterns texts : List (List ℕ)) : Type 0 where
  pub each : (pattern text : List ℕ) → In pattern patterns → In text texts
      → MayMatch m pattern text

-- with each of these members' names
abbrev pub MayMatchNames : Matches → List (List ℕ) → List (List ℕ × Data) → Type 0
MayMatchNames m patterns members = MayMatchEach m patterns (map (λ x. x.0) members)

-- what a keyword that asks so asks for at a value
abbrev pub MayMatchIn : {S : Type 0} → Matches → Form S → Data → Type 0
MayMatchIn m (by_pattern ps) d = MayMatchNames m (map (λ p. p.0) ps) (members_of d)
MayMatchIn m (of_others declared s) d = MayMatchNames m declared.patterns (members_of d)
MayMatchIn m form d = Unit {0}
