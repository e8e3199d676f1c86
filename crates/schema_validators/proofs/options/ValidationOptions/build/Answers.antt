use Rattle.schema_registries.specs.Seen.{documents_given}
use Rattle.schema_validators.proofs.BuiltLemmas.{built_by, building_refused}
use Rattle.schema_validators.proofs.options.ValidationOptions.build.Goals as goal

pub returns-clause-built : goal.returns-clause-built
returns-clause-built g c =
    built_by (g.P.PatternMaker.patterns c.args.self.now.maker) g.R.Retrieve.may_answer g.R.Retrieve.may_refuse c.args.self.now
    (documents_given c.args.documents.now) c.args.root.now c.in_ok-registry.registry c.in_ok-registry.ensures.prepared c.build_on.result c.build_on.ensures.made c.build_on.ensures.draft c.build_on.ensures.within
    c.build_on.ensures.met

pub returns-clause-refused : goal.returns-clause-refused
returns-clause-refused g c =
    building_refused (g.P.PatternMaker.patterns c.args.self.now.maker) g.R.Retrieve.may_answer g.R.Retrieve.may_refuse c.args.self.now
    (documents_given c.args.documents.now) c.args.root.now c.in_ok-registry.registry c.in_ok-registry.ensures.prepared c.build_on.result c.build_on.ensures.refused
