use Rattle.schema_registries.specs.Roots.{Patterns}
use Rattle.schema_validators.proofs.Agreeing.{built_alike, one_root}
use Rattle.schema_validators.proofs.agreement.build_on_both.Goals as goal

pub returns-clause-one_root : goal.returns-clause-one_root
returns-clause-one_root g c =
    let p : Patterns = g.P.PatternMaker.patterns c.args.options.now.maker in
    one_root p c.args.left.now c.args.right.now c.args.root.now c.build_on-2.result c.build_on-2.ensures.made

pub returns-clause-alike : goal.returns-clause-alike
returns-clause-alike g c =
    let p : Patterns = g.P.PatternMaker.patterns c.args.options.now.maker in
    let limit = c.args.options.now.node_limit in
    let root = c.args.root.now in
    built_alike p limit c.args.left.now c.args.right.now root c.build_on.result c.build_on-2.result
    (record {
      made = c.build_on.ensures.made;
      within = c.build_on.ensures.within;
      met = c.build_on.ensures.met;
      refused = c.build_on.ensures.refused;
    })
    (record {
      made = c.build_on-2.ensures.made;
      within = c.build_on-2.ensures.within;
      met = c.build_on-2.ensures.met;
      refused = c.build_on-2.ensures.refused;
    })
