use Rattle.std.proofs.Common.{codes}
use Rattle.serde_json.specs.View.{view}
use Rattle.schema_definitions.specs.Rows.{if_row}
use Rattle.schema_sites.proofs.ChoosingLemmas.{if-read, if-found, nothing-read, value-read, no-condition}
use Rattle.schema_sites.proofs.choosing.condition.Goals as goal

pub returns-in-Applied-clause-read : goal.returns-in-Applied-clause-read
returns-in-Applied-clause-read c = λ x s.
    if-read c.condition.result c.args.value c.in-Applied.applicator c.found.result c.in-Applied.is c.condition.ensures.condition c.found.ensures x (codes "if") (if_row x (codes "if") (view c.args.value.now))
    (c.condition.ensures.read x s)

pub returns-in-Applied-clause-found : goal.returns-in-Applied-clause-found
returns-in-Applied-clause-found c = λ site.
    if-found c.condition.result c.args.value c.in-Applied.applicator c.found.result c.in-Applied.is c.condition.ensures.condition c.found.ensures site

pub returns-in-Value-clause-refused : goal.returns-in-Value-clause-refused
returns-in-Value-clause-refused c = λ x s counted.
    value-read c.condition.result x (codes "if") (view c.args.value.now) (if_row x (codes "if") (view c.args.value.now)) c.in-Value.expected c.in-Value.is
    (c.condition.ensures.read x s)

pub returns-in_default-clause-read : goal.returns-in_default-clause-read
returns-in_default-clause-read c = λ x s.
    nothing-read c.condition.result x (codes "if") (if_row x (codes "if") (view c.args.value.now))
    (no-condition c.args.value c.condition.result c.condition.ensures.condition c.in_default.not-Applied c.in_default.not-Value)
    (c.condition.ensures.read x s)
