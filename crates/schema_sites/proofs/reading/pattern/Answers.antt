use Rattle.std.proofs.Common.{sym, ap, codes}
use Rattle.serde_json.specs.View.{view}
use Rattle.schema_definitions.specs.Rows.{pattern_row}
use Rattle.schema_sites.specs.Arms.{one_pattern_row}
use Rattle.schema_sites.proofs.ArmLemmas.{value-refused}
use Rattle.schema_sites.proofs.MadeLemmas.{pattern-read}
use Rattle.schema_sites.proofs.reading.pattern.Goals as goal

pub returns-in-Some-clause-read : goal.returns-in-Some-clause-read
returns-in-Some-clause-read c = λ x. pattern-read x (view c.args.value.now) c.in-Some.text (sym c.in-Some.ensures)

pub returns-in-None-clause-refused : goal.returns-in-None-clause-refused
returns-in-None-clause-refused c = λ x.
    let d = view c.args.value.now in
    value-refused x (codes "pattern") (codes "text") (one_pattern_row x d) (ap (pattern_row x (codes "pattern")) (sym c.in-None.ensures))
