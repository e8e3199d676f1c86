use Rattle.std.proofs.Common.{sym, ◌∙◌}
use Rattle.serde_json.proofs.Views.{items_len-items_view}
use Rattle.serde_json.specs.View.{items_view}
use Rattle.error_kinds.proofs.Walked.{other_lengths}
use Rattle.error_kinds.proofs.values.+values.Goals as goal

pub same_values-returns-then-ones-others : goal.same_values-returns-then-ones-others
same_values-returns-then-ones-others t c =
    let ds = c.args.ones.now in let es = c.args.others.now in
    sym (other_lengths (items_view ds) (items_view es) (λ s.
    c.if-ones-others.true (sym (items_len-items_view ds) ∙ s ∙ items_len-items_view es)))
