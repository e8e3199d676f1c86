-- What compiled keywords ask, and the parts that their entries add to a road.
use Rattle.std.specs.Prelude.{ℕ, zero, suc, List, ◌∷◌, ◌++◌, map, Bool, true, false, Option, None, Some, codes, slice_get}
use Rattle.serde_json.specs.Data.{Data}
use Rattle.serde_json.specs.View.{view}
use Rattle.json_values.specs.Parts.{Part}
use Rattle.schema_meaning.specs.Questions.{Question, at, at_name, at_index, here}
use Rattle.schema_meaning.specs.Keywords.{consequent}
use Rattle.applicators.specs.Forms.{Form, each_from, by_index, by_name, by_pattern, of_others, of_members, of_names, of_triggered, of_dependencies, of_branches, of_value, of_condition, asked}
use Rattle.compiled_keywords.specs.declared.asks.Asks.TheVariants as code
use Rattle.compiled_keywords.specs.Owned as owned
use Rattle.compiled_keywords.specs.declared.asks.Asks.{Asks}

abbrev pub form_of : Asks → Form ℕ
form_of (code.ItemsFrom start node) = each_from start node
form_of (code.ItemByItem nodes) = by_index nodes.items
form_of (code.DeclaredMembers nodes) = by_name (map owned.named nodes.items)
form_of (code.MatchingMembers nodes) = by_pattern (map owned.by_pattern nodes.items)
form_of (code.OtherMembers declared node) = of_others (owned.declared_by declared) node
form_of (code.Members node) = of_members node
form_of (code.Names node) = of_names node
form_of (code.Triggered nodes) = of_triggered (map owned.named nodes.items)
form_of (code.Dependencies entries) = of_dependencies (map owned.depending entries.items)
form_of (code.Branches nodes) = of_branches nodes.items
form_of (code.Value shown) = of_value (view shown.schema) shown.node
form_of (code.Condition condition then_node else_node) = of_condition condition then_node else_node

-- ---- the parts of entries

abbrev pub whole_at : List ℕ → ℕ → List Part
whole_at k entry = at k

abbrev pub index_at : List ℕ → ℕ → List Part
index_at k entry = at_index k entry

abbrev pub named_part : {A : Type 0} → List ℕ → Option (List ℕ × A) → List Part
named_part k None = at k
named_part k (Some p) = at_name k p.0

abbrev pub name_at : {A : Type 0} → List ℕ → List (List ℕ × A) → ℕ → List Part
name_at k ps entry = named_part k (slice_get ps entry)

-- the condition is the first entry, and what stands beside it the others
abbrev pub condition_at : List ℕ → ℕ → List Part
condition_at k zero = at k
condition_at k (suc zero) = at (codes "then")
condition_at k (suc (suc n)) = at (codes "else")

abbrev pub added_in : List ℕ → Form ℕ → ℕ → List Part
added_in k (each_from start n) = whole_at k
added_in k (by_index ns) = index_at k
added_in k (by_name ps) = name_at k ps
added_in k (by_pattern ps) = name_at k ps
added_in k (of_others declared n) = whole_at k
added_in k (of_members n) = whole_at k
added_in k (of_names n) = whole_at k
added_in k (of_triggered ps) = name_at k ps
added_in k (of_dependencies ps) = name_at k ps
added_in k (of_branches ns) = index_at k
added_in k (of_value schema n) = whole_at k
added_in k (of_condition c t e) = condition_at k

-- ---- the questions, each beside the answer to a condition with which it counts

abbrev pub Asked : Type 0
Asked = Bool × Question ℕ

abbrev pub alone : Question ℕ → Asked
alone q = (true, q)

abbrev pub asked_beside : (List ℕ → List ℕ → Bool) → List ℕ → Data → Form ℕ → List Asked
asked_beside matches k d (of_condition c t e) = alone (here k c) ∷ (consequent true (codes "then") t ++ consequent false (codes "else") e)
asked_beside matches k d f = map alone (asked matches k d f)
