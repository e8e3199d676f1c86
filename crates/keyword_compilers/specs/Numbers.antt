-- Nodes that are taken one by one, each beside the name of its schema.
use Rattle.std.specs.Prelude.{ℕ, List, [], ◌∷◌}
use Rattle.serde_json.specs.Data.{Data, Members, no_members, member}
use Rattle.schema_definitions.specs.Rows.{in_list}
use Rattle.schema_meaning.specs.Keywords.{Dependency, needs, applies}
use Rattle.assertions.specs.Texts.{texts_of}

-- the next of some nodes, 0 where there is none, and those behind it
abbrev pub first_in : List ℕ → ℕ
first_in [] = 0
first_in (n ∷ ns) = n

abbrev pub rest_in : List ℕ → List ℕ
rest_in [] = []
rest_in (n ∷ ns) = ns

abbrev pub beside : {A : Type 0} → List A → List ℕ → List (A × ℕ)
beside [] ns = []
beside (x ∷ xs) ns = (x, first_in ns) ∷ beside xs (rest_in ns)

-- an entry of `dependencies`: the texts of a list, or the node of a schema; and the nodes behind those of an entry
abbrev pub dependency_by : ℕ → Data → Dependency ℕ
dependency_by n d = in_list (λ ds. needs (texts_of ds)) (applies n) d

abbrev pub rest_behind : List ℕ → Data → List ℕ
rest_behind ns d = in_list (λ ds. ns) (rest_in ns) d

abbrev pub dependencies_by : List ℕ → Members → List (List ℕ × Dependency ℕ)
dependencies_by ns no_members = []
dependencies_by ns (member k d ms) = (k, dependency_by (first_in ns) d) ∷ dependencies_by (rest_behind ns d) ms
