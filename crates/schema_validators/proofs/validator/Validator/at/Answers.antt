use Rattle.std.proofs.Common.{◌<◌, ◌∙◌, length, sym, subst}
use Rattle.compiled_graphs.specs.declared.schemas.SchemaGraph.{SchemaGraph}
use Rattle.schema_registries.specs.Seen.{documents_shared}
use Rattle.schema_registries.specs.Roots.{Root}
use Rattle.schema_validators.specs.Meant.{AreOfSome}
use Rattle.schema_validators.specs.Seen.{root_of}
use Rattle.schema_validators.proofs.Making.{made_over}
use Rattle.schema_validators.proofs.validator.Validator.at.Goals as goal

pub over-requires : goal.over-requires
over-requires g c =
    let p = g.P.PatternMaker.patterns c.args.maker.now in
    let r : Root = root_of (documents_shared c.args.registry.now) c.args.base.now c.args.root.now in
    let compiled = c.in_ok-draft.compiled in
    let made = c.in_ok-draft.ensures.made in
    record {
      there = subst (λ (s : SchemaGraph _ _). compiled.start < length s.graph.nodes.items) (sym c.in_ok-schemas.ensures) compiled.there;
      of_some = subst (λ (s : SchemaGraph _ _). AreOfSome s.graph.nodes.items compiled.start) (sym c.in_ok-schemas.ensures) (λ by_none. by_none p r made.sound made.means);
    }

pub returns-clause-made : goal.returns-clause-made
returns-clause-made g c =
    let p = g.P.PatternMaker.patterns c.args.maker.now in
    let r : Root = root_of (documents_shared c.args.registry.now) c.args.base.now c.args.root.now in
    let compiled = c.in_ok-draft.compiled in
    made_over p r c.over.result compiled.schemas compiled.start (c.over.ensures.schemas ∙ c.in_ok-schemas.ensures) c.over.ensures.start c.in_ok-draft.ensures.made
