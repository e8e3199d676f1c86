use Rattle.serde_json.specs.View.{view}
use Rattle.schema_sites.proofs.AssertingLemmas.{some-of, asserted-read, asserted-refused}
use Rattle.schema_sites.proofs.ResultLemmas.{if-ok, if-err}
use Rattle.schema_sites.proofs.reading.counted.Goals as goal

pub returns-in-Some-clause-read : goal.returns-in-Some-clause-read
returns-in-Some-clause-read c =
    let n = c.args.neighbours in
    let reads = some-of _ c.in_ok-reading.field-0 c.in-Some.reading c.in-Some.is c.in_ok-reading.ensures.read in
    if-ok _ _ c.asserting.result
    (λ w h. asserted-read n c.args.name.now (view c.args.value.now) _ c.in-Some.reading c.strict_limit-strict.ensures.maximum c.strict_limit-strict.ensures.minimum reads w h)
    c.asserting.ensures.read

pub returns-in-Some-clause-refused : goal.returns-in-Some-clause-refused
returns-in-Some-clause-refused c =
    let n = c.args.neighbours in
    let reads = some-of _ c.in_ok-reading.field-0 c.in-Some.reading c.in-Some.is c.in_ok-reading.ensures.read in
    if-err _ _ c.asserting.result
    (λ e h. asserted-refused n c.args.name.now (view c.args.value.now) _ c.in-Some.reading c.strict_limit-strict.ensures.maximum c.strict_limit-strict.ensures.minimum reads e h)
    c.asserting.ensures.refused
