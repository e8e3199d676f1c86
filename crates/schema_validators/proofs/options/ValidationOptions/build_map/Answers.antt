use Rattle.schema_registries.specs.Seen.{documents_given}
use Rattle.schema_validators.proofs.BuiltLemmas.{mapped_by, mapping_refused}
use Rattle.schema_validators.proofs.options.ValidationOptions.build_map.Goals as goal

pub returns-clause-built : goal.returns-clause-built
returns-clause-built g c =
    mapped_by (g.P.PatternMaker.patterns c.args.self.now.maker) g.R.Retrieve.may_answer g.R.Retrieve.may_refuse c.args.self.now
    (documents_given c.args.documents.now) c.args.root.now c.in_ok-registry.registry c.in_ok-registry.ensures.prepared c.map_at.result c.map_at.ensures.built

pub returns-clause-refused : goal.returns-clause-refused
returns-clause-refused g c =
    mapping_refused (g.P.PatternMaker.patterns c.args.self.now.maker) g.R.Retrieve.may_answer g.R.Retrieve.may_refuse c.args.self.now
    (documents_given c.args.documents.now) c.args.root.now c.in_ok-registry.registry c.in_ok-registry.ensures.prepared c.map_at.result c.map_at.ensures.refused
