use Rattle.std.proofs.Common.{refl}
use Rattle.std.specs.Str.{is_utf8, chars}
use Rattle.percent_encoding.specs.Percent.{percent_decode}
use Rattle.schema_tests.proofs.reports.references_begin_paths.Goals as goal

pub followed-requires : goal.followed-requires
unfolding is_utf8 chars lib.Utf8.encode percent_decode
followed-requires g c = refl
