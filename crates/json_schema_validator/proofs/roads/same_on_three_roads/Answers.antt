use Rattle.std.proofs.Common.{◌∙◌}
use Rattle.serde_json.specs.View.{view}
use Rattle.schema_validators.specs.New.{AreDefault}
use Rattle.json_schema_validator.specs.Roads.{IsBy}
use Rattle.json_schema_validator.proofs.Agreeing.{say_one}
use Rattle.json_schema_validator.proofs.Forming.{stay_default, is_added_by, is_retrieved_by, is_inside_by}
use Rattle.json_schema_validator.proofs.roads.same_on_three_roads.Goals as goal

pub returns-clause-added : goal.returns-clause-added
returns-clause-added g c =
    let f = c.in_ok-options.ensures in
    let e = c.with_pattern_maker-options.ensures in
    let o = c.with_pattern_maker-options.result in
    let first : AreDefault c.in_ok-options.field-0 =
    record { draft = f.draft; siblings = f.siblings; base = f.base; limit = f.limit; node_limit = f.node_limit; meta_schemas = f.meta_schemas } in
    let default : AreDefault o = stay_default c.in_ok-options.field-0 o first e.draft e.siblings e.base e.limit e.node_limit e.meta_schemas in
    let by : IsBy c.args.maker o = record { default = default; is_maker = e.maker } in
    is_added_by g.P.PatternMaker.patterns _ _ c.args.maker o by c.args.moving.now (view c.args.instance.now) c.in_ok-added.added c.in_ok-added.ensures

pub returns-clause-retrieved : goal.returns-clause-retrieved
returns-clause-retrieved g c =
    let f = c.in_ok-options.ensures in
    let e = c.with_pattern_maker-options.ensures in
    let o = c.with_pattern_maker-options.result in
    let first : AreDefault c.in_ok-options.field-0 =
    record { draft = f.draft; siblings = f.siblings; base = f.base; limit = f.limit; node_limit = f.node_limit; meta_schemas = f.meta_schemas } in
    let default : AreDefault o = stay_default c.in_ok-options.field-0 o first e.draft e.siblings e.base e.limit e.node_limit e.meta_schemas in
    let e' = c.with_retriever-options.ensures in
    let o' = c.with_retriever-options.result in
    let default' : AreDefault o' = stay_default o o' default e'.draft e'.siblings e'.base e'.limit e'.node_limit e'.meta_schemas in
    let by : IsBy c.args.maker o' = record { default = default'; is_maker = e'.maker ∙ e.maker } in
    is_retrieved_by g.P.PatternMaker.patterns _ _ c.args.maker o' by c.args.moving.now (view c.args.instance.now) c.in_ok-retrieved.retrieved c.in_ok-asked.asked e'.retriever
    c.in_ok-asked.ensures c.in_ok-retrieved.ensures

pub returns-clause-inside : goal.returns-clause-inside
returns-clause-inside g c =
    let f = c.in_ok-options.ensures in
    let e = c.with_pattern_maker-options.ensures in
    let o = c.with_pattern_maker-options.result in
    let first : AreDefault c.in_ok-options.field-0 =
    record { draft = f.draft; siblings = f.siblings; base = f.base; limit = f.limit; node_limit = f.node_limit; meta_schemas = f.meta_schemas } in
    let default : AreDefault o = stay_default c.in_ok-options.field-0 o first e.draft e.siblings e.base e.limit e.node_limit e.meta_schemas in
    let by : IsBy c.args.maker o = record { default = default; is_maker = e.maker } in
    is_inside_by g.P.PatternMaker.patterns _ _ c.args.maker o by c.args.moving.now (view c.args.instance.now) c.in_ok-inside.inside c.in_ok-inside.ensures

pub returns-clause-same : goal.returns-clause-same
returns-clause-same g c =
    say_one _ _ (λ r uri d a. a) _ _ (λ r q d a. a) c.args.maker _ c.args.moving.now (view c.args.instance.now) _ c.names_rise.ensures (returns-clause-added g c) (returns-clause-retrieved g c)
    (returns-clause-inside g c)
