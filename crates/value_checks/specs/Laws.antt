-- What follows from the definition of the order.
use Rattle.std.specs.Prelude.{◌≡◌, true, ◌&&◌}
use Rattle.std.specs.Cmp.{IsTotalOrder}
use Rattle.std.specs.Ordering.{is_eq}
use Rattle.serde_json.specs.Data.{Data}
use Rattle.json_values.specs.Equality.{equal, is_tree}
use Rattle.json_values.specs.Rising.{rises}
use Rattle.value_checks.specs.Order.{order}

abbrev pub OrderIsTotal : Type 0
OrderIsTotal = IsTotalOrder order

-- where the names of objects rise, as they do in values that are kept, those of whole numbers tie just where they are equal
abbrev pub TiesAreEqual : Type 0
TiesAreEqual = (d e : Data) → rises d ≡ true → rises e ≡ true → equal d e ≡ (is_eq (order d e) && is_tree d)
