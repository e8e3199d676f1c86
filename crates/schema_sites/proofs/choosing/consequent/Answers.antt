use Rattle.serde_json.specs.View.{view}
use Rattle.schema_definitions.specs.Rows.{consequent_row}
use Rattle.schema_sites.proofs.ChoosingLemmas.{consequent-read, nothing-read, value-read, consequent-schema, no-consequent}
use Rattle.schema_sites.proofs.choosing.consequent.Goals as goal

pub returns-in-Consequent-clause-read : goal.returns-in-Consequent-clause-read
returns-in-Consequent-clause-read c = λ x s.
    consequent-read c.consequent.result x c.args.name (consequent_row x c.args.name.now (view c.args.value.now)) c.in-Consequent.schema c.in-Consequent.is
    (c.consequent.ensures.read x c.args.name.now s)

pub returns-in-Consequent-clause-found : goal.returns-in-Consequent-clause-found
returns-in-Consequent-clause-found c = λ site. consequent-schema c.consequent.result c.args.value c.in-Consequent.schema c.in-Consequent.is c.consequent.ensures.consequent

pub returns-in-Value-clause-refused : goal.returns-in-Value-clause-refused
returns-in-Value-clause-refused c = λ x s counted.
    value-read c.consequent.result x c.args.name.now (view c.args.value.now) (consequent_row x c.args.name.now (view c.args.value.now)) c.in-Value.expected c.in-Value.is
    (c.consequent.ensures.read x c.args.name.now s)

pub returns-in_default-clause-read : goal.returns-in_default-clause-read
returns-in_default-clause-read c = λ x s.
    nothing-read c.consequent.result x c.args.name.now (consequent_row x c.args.name.now (view c.args.value.now))
    (no-consequent c.args.value c.consequent.result c.consequent.ensures.consequent c.in_default.not-Consequent c.in_default.not-Value)
    (c.consequent.ensures.read x c.args.name.now s)
