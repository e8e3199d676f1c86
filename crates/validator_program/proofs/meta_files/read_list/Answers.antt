use Rattle.std.proofs.Common.{◌∙◌, Some, ap}
use Rattle.std.proofs.lemmas.Result.{IfOk-weaker}
use Rattle.std.proofs.lemmas.Str.{is_utf8-from_IsUtf8}
use Rattle.validator_program.proofs.Small.{read_value}
use Rattle.validator_program.proofs.meta_files.read_list.Goals as goal

pub returns-in-Ok : goal.returns-in-Ok
returns-in-Ok c =
    let read = c.in-Ok.ensures.ok in
    IfOk-weaker c.items_of.result _ _
    (λ v h. read_value c.args.bytes.now (is_utf8-from_IsUtf8 c.args.bytes.now read.0) ∙ read.1 ∙ ap Some h)
    c.items_of.ensures
