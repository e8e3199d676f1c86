use Rattle.fault_checks.proofs.Going.{more_by, done_by}
use Rattle.fault_checks.proofs.WalkSteps.{last_passes}
use Rattle.fault_checks.proofs.stepping.by_keyword.Goals as goal

pub through-requires : goal.through-requires
through-requires c = record { lies = c.requires.lies; more = more_by c.args.walk.instance c.args.after c.is_more.result c.is_more.ensures c.if-is_more.true }

pub keyword_refuses-requires : goal.keyword_refuses-requires
keyword_refuses-requires c = record { lies = c.requires.lies }

pub returns-clause-passes : goal.returns-clause-passes
returns-clause-passes c =
    let left = done_by c.args.walk.instance c.args.after c.is_more.result c.is_more.ensures c.if-is_more.false in
    last_passes c.args.walk c.args.keyword c.args.name.now c.args.after c.in_ok-refused.refused left.no_instance left.no_after c.in_ok-refused.ensures.refuses
