-- The values of a list, the front first.
use Rattle.std.specs.Prelude.{List, [], ◌∷◌, Option, Some, None}
use Rattle.std.specs.Borrow.{Bor}
use Rattle.std.specs.declared.alloc.Global.{Global}
use Rattle.std.specs.declared.rc.Rc.{Rc}
use Rattle.shared_lists.specs.declared.list.Node.{Node, Node', Held-Node-next, None', Some'}

abbrev mutual
  pub node_values : {T : Type 0} → Node T → List T
  node_values (Node' value next) = value ∷ values_behind next

  pub values_behind : {T : Type 0} → Held-Node-next T → List T
  values_behind None' = []
  values_behind (Some' p node) = node_values node

-- from a list's first node on
abbrev pub values_of : {T : Type 0} → Option (Rc (Node T) Global) → List T
values_of None = []
values_of (Some node) = node_values node.value

-- from a lent node on
abbrev pub values_from : {T : Type 0} → Option (Bor (Node T)) → List T
values_from None = []
values_from (Some node) = node_values node.now
