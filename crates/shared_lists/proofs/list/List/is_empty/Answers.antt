use Rattle.std.proofs.Common.{◌==◌, length, sym, ap, ◌∙◌}
use Rattle.shared_lists.specs.Values.{values_of}
use Rattle.shared_lists.proofs.ValueLemmas.{some_value}
use Rattle.shared_lists.proofs.list.List.is_empty.Goals as goal

pub returns-in-Some : goal.returns-in-Some
returns-in-Some g c = sym (ap (λ l. length l == 0) (sym c.self.view_is ∙ ap values_of c.in-Some.is) ∙ some_value c.in-Some.field-0.value)
