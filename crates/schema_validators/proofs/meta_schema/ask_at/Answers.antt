use Rattle.std.proofs.Common.{◌≡◌, ◌∙◌, ap}
use Rattle.reached_sites.specs.Passed.{target_in}
use Rattle.schema_registries.specs.Seen.{documents_shared}
use Rattle.schema_validators.specs.Asked.{meta_root}
use Rattle.schema_validators.specs.Made.{IsMadeBy}
use Rattle.schema_validators.specs.Seen.{root_of}
use Rattle.schema_validators.proofs.Asking.{meta_root_by, accepts_by, refuses_by}
use Rattle.schema_validators.proofs.meta_schema.ask_at.Goals as goal

pub returns-clause-accepted : goal.returns-clause-accepted
returns-clause-accepted g c =
    let by = g.P.PatternMaker.patterns c.args.maker.now in
    let p = c.args.parent.now in
    let is : root_of (documents_shared p) c.args.base.now c.as_str.result.now ≡ meta_root p c.args.uri.now =
    meta_root_by p c.args.base.now c.as_str.result.now c.requires.base ∙ ap (meta_root p) c.as_str.ensures.value in
    accepts_by by c.args.node_limit (λ q s. IsMadeBy q s c.in_ok-meta_schema.meta_schema) _ _ c.in_ok-meta_schema.ensures.made
    (target_in c.args.root.now).contents is c.ask.result
    c.in_ok-meta_schema.ensures.made.sound c.in_ok-meta_schema.ensures.within c.ask.ensures.accepted

pub returns-clause-refused : goal.returns-clause-refused
returns-clause-refused g c =
    let by = g.P.PatternMaker.patterns c.args.maker.now in
    let p = c.args.parent.now in
    let is : root_of (documents_shared p) c.args.base.now c.as_str.result.now ≡ meta_root p c.args.uri.now =
    meta_root_by p c.args.base.now c.as_str.result.now c.requires.base ∙ ap (meta_root p) c.as_str.ensures.value in
    refuses_by by c.args.node_limit (λ q s. IsMadeBy q s c.in_ok-meta_schema.meta_schema) _ _ c.in_ok-meta_schema.ensures.made
    (target_in c.args.root.now).contents is c.ask.result c.ask.ensures.refused
