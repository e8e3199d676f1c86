use Rattle.std.proofs.Common.{◌≡◌, ◌∙◌, [], ap}
use Rattle.serde_json.specs.View.{view}
use Rattle.document_sources.specs.Given.{with_given}
use Rattle.schema_registries.specs.Seen.{documents_given, given_under}
use Rattle.schema_validators.specs.New.{AreDefault, alone}
use Rattle.schema_validators.proofs.BuiltLemmas.{new_by, new_refused}
use Rattle.schema_validators.proofs.validator.Validator.new.Goals as goal

pub returns-in-Ok-clause-built : goal.returns-in-Ok-clause-built
returns-in-Ok-clause-built g c =
    let o = c.with_pattern_maker-options.result in
    let of = c.with_pattern_maker-options.ensures in
    let by = c.in_ok-options.ensures in
    let d = view c.args.schema in
    let default : AreDefault o = record { draft = of.draft ∙ by.draft; siblings = of.siblings ∙ by.siblings; base = of.base ∙ by.base; limit = of.limit ∙ by.limit; node_limit = of.node_limit ∙ by.node_limit; meta_schemas = of.meta_schemas ∙ by.meta_schemas } in
    let is : documents_given c.add.new.self ≡ alone d = c.in-Ok.ensures.ok ∙ ap (λ gs. with_given gs (given_under [] d)) c.new-documents.ensures in
    new_by g.P.PatternMaker.patterns _ _ o c.args.maker d _ default of.maker is c.build.result c.build.ensures.built

pub returns-in-Ok-clause-refused : goal.returns-in-Ok-clause-refused
returns-in-Ok-clause-refused g c =
    let o = c.with_pattern_maker-options.result in
    let of = c.with_pattern_maker-options.ensures in
    let by = c.in_ok-options.ensures in
    let d = view c.args.schema in
    let default : AreDefault o = record { draft = of.draft ∙ by.draft; siblings = of.siblings ∙ by.siblings; base = of.base ∙ by.base; limit = of.limit ∙ by.limit; node_limit = of.node_limit ∙ by.node_limit; meta_schemas = of.meta_schemas ∙ by.meta_schemas } in
    let is : documents_given c.add.new.self ≡ alone d = c.in-Ok.ensures.ok ∙ ap (λ gs. with_given gs (given_under [] d)) c.new-documents.ensures in
    new_refused g.P.PatternMaker.patterns _ _ o c.args.maker d _ default of.maker is c.build.result c.build.ensures.refused
