use Rattle.std.proofs.Common.{rules, string_bytes}
use Rattle.schema_reports.proofs.PhraseLemmas.{cut_to}
use Rattle.reached_sites.proofs.refusing.cut.Goals as goal

pub returns-else-code_points-le-SHOWN : goal.returns-else-code_points-le-SHOWN
returns-else-code_points-le-SHOWN c = let cut = cut_to 60 (string_bytes c.args.text) in search (rules, cut)
