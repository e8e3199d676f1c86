-- What compiled keywords own.
use Rattle.std.specs.Prelude.{◌≡◌, ℕ, List, [], ◌∷◌, map, string_bytes}
use Rattle.schema_meaning.specs.Questions as told
use Rattle.schema_meaning.specs.Keywords as keywords
use Rattle.compiled_keywords.specs.declared.asks.Declared.{Declared}
use Rattle.compiled_keywords.specs.declared.subschemas.NamedNode.{NamedNode}
use Rattle.compiled_keywords.specs.declared.subschemas.NamedDependency.{NamedDependency}
use Rattle.compiled_keywords.specs.declared.subschemas.NeededNames.{NeededNames}
use Rattle.compiled_keywords.specs.declared.subschemas.Dependency.{Dependency}
use Rattle.compiled_keywords.specs.declared.subschemas.Dependency.TheVariants as dependency
use Rattle.compiled_keywords.specs.declared.subschemas.Pattern.{Pattern}
use Rattle.compiled_keywords.specs.declared.subschemas.PatternNode.{PatternNode}

-- ---- what they stand for

abbrev pub named : NamedNode → List ℕ × ℕ
named n = (string_bytes n.name, n.node)

abbrev pub text_of : Pattern → List ℕ
text_of p = string_bytes p.text

abbrev pub by_pattern : PatternNode → List ℕ × ℕ
by_pattern p = (text_of p.pattern, p.node)

abbrev pub dependency_of : Dependency → keywords.Dependency ℕ
dependency_of (dependency.Needs names) = keywords.needs (map string_bytes names.items)
dependency_of (dependency.Applies node) = keywords.applies node

abbrev pub depending : NamedDependency → List ℕ × keywords.Dependency ℕ
depending n = (string_bytes n.name, dependency_of n.dependency)

abbrev pub needed_by : NeededNames → List ℕ × List (List ℕ)
needed_by n = (string_bytes n.name, map string_bytes n.needed.items)

abbrev pub declared_by : Declared → told.Declared
declared_by w = record { names = map string_bytes w.names.list.items; patterns = map text_of w.patterns.items }

-- ---- patterns by their numbers

-- a pattern's number in the table is that of its text
abbrev pub IsNumbered : (ℕ → List ℕ) → Pattern → Type 0
IsNumbered table p = table p.number ≡ text_of p

abbrev pub AreNumbered : (ℕ → List ℕ) → List PatternNode → Type 0
AreNumbered table [] = Unit {0}
AreNumbered table (p ∷ ps) = IsNumbered table p.pattern × AreNumbered table ps

abbrev pub AllNumbered : (ℕ → List ℕ) → List Pattern → Type 0
AllNumbered table [] = Unit {0}
AllNumbered table (p ∷ ps) = IsNumbered table p × AllNumbered table ps
