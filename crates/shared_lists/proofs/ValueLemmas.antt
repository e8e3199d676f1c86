-- A node holds a value.
use Rattle.std.proofs.Common.{◌≡◌, ◌==◌, ◌≢◌, [], Option, Some, Global, false, length, rules, ap, sym, ◌∙◌}
use Rattle.std.specs.declared.rc.Rc.{Rc}
use Rattle.shared_lists.specs.Values.{node_values, values_of}
use Rattle.shared_lists.specs.declared.list.Node.{Node, Node'}

pub some_value : {T : Type 0} (node : Node T) → (length (node_values node) == 0) ≡ false
some_value (Node' value next) = search rules

not_nothing : {T : Type 0} (node : Node T) → node_values node ≢ []
not_nothing (Node' value next) e = absurd (cc (e))

pub holds_value : {T : Type 0} (head : Option (Rc (Node T) Global)) (node : Rc (Node T) Global) → head ≡ Some node → values_of head ≢ []
holds_value head node is e = not_nothing node.value (ap values_of (sym is) ∙ e)
