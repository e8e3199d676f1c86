use Rattle.std.proofs.Common.{◌∙◌}
use Rattle.schema_patterns.proofs.Tables.{position_mapped}
use Rattle.schema_patterns.proofs.table.PatternTable.number.Goals as goal

pub returns : goal.returns
returns g c = c.get_index_of.ensures.index ∙ position_mapped c.args.self.now.patterns.entries c.args.pattern.now
