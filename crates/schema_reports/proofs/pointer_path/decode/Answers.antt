use Rattle.std.proofs.Common.{sym, subst}
use Rattle.std.specs.Str.{IsUtf8}
use Rattle.std.proofs.lemmas.Str.{IsUtf8-from_is_utf8}
use Rattle.percent_encoding.specs.Percent.{percent_decode}
use Rattle.schema_reports.proofs.pointer_path.decode.Goals as goal

pub unreachable-requires : goal.unreachable-requires
unreachable-requires c =
    let valid = IsUtf8-from_is_utf8 (percent_decode c.args.fragment.now) c.requires in
    let only = c.in-Err-Utf8.ensures.utf8 (subst IsUtf8 (sym c.percent_decode_str.ensures.bytes) valid) in
    cc (only, c.in-Err-Utf8.field-0-is)
