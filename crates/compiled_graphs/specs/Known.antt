-- What keywords know of their patterns has one proof at most.
use mathlib.Core.HLevel.{Unit-prop, ×_prop}
use Rattle.std.specs.Prelude.{ℕ, List, [], ◌∷◌}
use Rattle.std.proofs.Props.{props}
use Rattle.compiled_keywords.specs.Owned.{IsNumbered, AreNumbered, AllNumbered}
use Rattle.compiled_keywords.specs.Shapes.{KnowsAsked, Knows}
use Rattle.compiled_keywords.specs.Applied.{asks_of}
use Rattle.compiled_keywords.specs.declared.asks.Asks.{Asks}
use Rattle.compiled_keywords.specs.declared.asks.Asks.TheVariants.{ItemsFrom, ItemByItem, DeclaredMembers, MatchingMembers, OtherMembers, Members, Names, Triggered, Dependencies, Branches, Value, Condition}
use Rattle.compiled_keywords.specs.declared.keyword.Keyword.{Keyword}
use Rattle.compiled_keywords.specs.declared.keyword.Keyword.TheVariants as keyword
use Rattle.compiled_keywords.specs.declared.subschemas.Pattern.{Pattern}
use Rattle.compiled_keywords.specs.declared.subschemas.PatternNode.{PatternNode}

numbered_prop : (table : ℕ → List ℕ) (p : Pattern) → IsProp (IsNumbered table p)
numbered_prop table p = Prim.hlevel props

are_numbered_prop : (table : ℕ → List ℕ) (ps : List PatternNode) → IsProp (AreNumbered table ps)
are_numbered_prop table [] = Unit-prop
are_numbered_prop table (p ∷ ps) = ×_prop (numbered_prop table p.pattern) (are_numbered_prop table ps)

all_numbered_prop : (table : ℕ → List ℕ) (ps : List Pattern) → IsProp (AllNumbered table ps)
all_numbered_prop table [] = Unit-prop
all_numbered_prop table (p ∷ ps) = ×_prop (numbered_prop table p) (all_numbered_prop table ps)

asked_prop : (asks : Asks) (table : ℕ → List ℕ) → IsProp (KnowsAsked asks table)
asked_prop (ItemsFrom start node) table = Unit-prop
asked_prop (ItemByItem nodes) table = Unit-prop
asked_prop (DeclaredMembers nodes) table = Unit-prop
asked_prop (MatchingMembers nodes) table = are_numbered_prop table nodes.items
asked_prop (OtherMembers declared node) table = all_numbered_prop table declared.patterns.items
asked_prop (Members node) table = Unit-prop
asked_prop (Names node) table = Unit-prop
asked_prop (Triggered nodes) table = Unit-prop
asked_prop (Dependencies entries) table = Unit-prop
asked_prop (Branches nodes) table = Unit-prop
asked_prop (Value node) table = Unit-prop
asked_prop (Condition condition then_node else_node) table = Unit-prop

pub knows_prop : (k : Keyword) (table : ℕ → List ℕ) → IsProp (Knows k table)
knows_prop keyword.Never table = Unit-prop
knows_prop (keyword.Assertion alloc a) table = Unit-prop
knows_prop (keyword.Pattern p) table = numbered_prop table p
knows_prop (keyword.Applicator a) table = asked_prop (asks_of a) table
knows_prop (keyword.Reference r node) table = Unit-prop
