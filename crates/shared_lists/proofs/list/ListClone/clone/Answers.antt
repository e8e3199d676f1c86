use Rattle.std.proofs.Common.{◌∙◌}
use Rattle.std.proofs.lemmas.Result.{err_from_is_err_and}
use Rattle.shared_lists.proofs.ValueLemmas.{holds_value}
use Rattle.shared_lists.proofs.list.ListClone.clone.Goals as goal

pub returns-in_err-clone-in-Some : goal.returns-in_err-clone-in-Some
returns-in_err-clone-in-Some g c =
    let p = err_from_is_err_and c.from_residual.result c.from_residual.ensures.1 in
    rw p.1 (record { cases = λ e. holds_value c.self.inside.head _ c.in-Some.is (c.self.view_is ∙ e) })
