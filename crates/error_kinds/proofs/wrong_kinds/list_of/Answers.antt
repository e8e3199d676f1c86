use Rattle.std.proofs.Common.{ap, ◌∙◌}
use Rattle.serde_json.proofs.Views.{view-Array}
use Rattle.serde_json.specs.Data.{array}
use Rattle.error_kinds.proofs.CopyLemmas.{copied}
use Rattle.error_kinds.proofs.wrong_kinds.list_of.Goals as goal

pub returns : goal.returns
returns c =
    let found = c.in_ok-to_vec.field-0 in
    view-Array found ∙ ap array (copied c.args.values.now found.items c.in_ok-to_vec.ensures.ok)
