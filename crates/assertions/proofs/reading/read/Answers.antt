use Rattle.serde_json.specs.View.{view}
use Rattle.assertions.proofs.ReadLemmas.{at-known-name, listed-known}
use Rattle.assertions.proofs.reading.read.Goals as goal

pub returns-in_ok-reading-in-Some-clause-read : goal.returns-in_ok-reading-in-Some-clause-read
returns-in_ok-reading-in-Some-clause-read c =
    at-known-name c.in-Some.keyword c.args.name.now c.args.draft _ (view c.args.value.now) c.in_ok-reading-in-Some.reading c.in-Some.ensures.some c.in_ok-reading-in-Some.ensures

pub returns-in_ok-reading-in-Some-clause-named : goal.returns-in_ok-reading-in-Some-clause-named
returns-in_ok-reading-in-Some-clause-named c = listed-known c.args.name.now c.in-Some.keyword c.in-Some.ensures.some
