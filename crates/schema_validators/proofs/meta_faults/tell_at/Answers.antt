use Rattle.std.proofs.Common.{codes}
use Rattle.serde_json.specs.View.{view}
use Rattle.schema_registries.specs.Seen.{documents_shared}
use Rattle.schema_validators.specs.Seen.{root_of}
use Rattle.schema_validators.proofs.Asking.{meta_root_by}
use Rattle.schema_validators.proofs.Telling.{memory_refuses, tells_by}
use Rattle.schema_validators.proofs.meta_faults.tell_at.Goals as goal

pub returns-clause-told : goal.returns-clause-told
returns-clause-told g c =
    let by = g.P.PatternMaker.patterns c.args.maker.now in
    let made = c.in_ok-meta_schema.ensures.made in
    let is = meta_root_by c.args.parent.now c.args.base.now c.args.uri.now c.requires.base in
    tells_by by c.args.node_limit _ _ is (view c.args.value.now) c.in_ok-told.told.items made.sound c.in_ok-meta_schema.ensures.within (c.in_ok-told.ensures.faults by _ made) (c.in_ok-told.ensures.verdict by _ made)
    c.in_ok-told.ensures.proper

pub returns-in_err-told-clause-refused : goal.returns-in_err-told-clause-refused
returns-in_err-told-clause-refused g c =
    memory_refuses (g.P.PatternMaker.patterns c.args.maker.now) c.args.node_limit (root_of (documents_shared c.args.parent.now) (codes "json-schema:///") c.args.uri.now) c.from_residual-in_err-told.result c.from_residual-in_err-told.ensures.1
