use Rattle.serde_json.specs.View.{view, members_view}
use Rattle.applicator_reading.specs.Reads.{site_in}
use Rattle.applicator_reading.proofs.MapLemmas.{map-right, map-wrong, map-other}
use Rattle.applicator_reading.proofs.reading.map.Goals as goal

pub returns-in_default-clause-read : goal.returns-in_default-clause-read
returns-in_default-clause-read c = λ x. map-other c.args.keyword x (view c.args.value.now) c.in_default.ensures

pub returns-in-Some-other_member-clause-read : goal.returns-in-Some-other_member-clause-read
returns-in-Some-other_member-clause-read c = λ x.
    map-wrong c.args.keyword x (view c.args.value.now) (members_view c.in-Some.schemas.now.entries) c.in-Some-other_member.name.now c.in-Some.ensures c.in-Some-other_member.ensures

pub returns-in-None-clause-read : goal.returns-in-None-clause-read
returns-in-None-clause-read c = λ x.
    map-right c.args.keyword x (view c.args.value.now) (members_view c.in-Some.schemas.now.entries) c.applied.result c.in-Some.ensures c.in-None.ensures (c.applied.ensures.shape (site_in x)) (c.applied.ensures.leads (site_in x)) c.applied.ensures.patterns
