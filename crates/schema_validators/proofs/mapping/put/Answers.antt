use Rattle.std.proofs.Common.{◌≡◌, ◌∙◌, ◌<◌, List, ℕ, Option, length, sym, ap, subst}
use Rattle.compiled_graphs.specs.Marked.{IsNode}
use Rattle.compiled_graphs.specs.declared.schemas.SchemaGraph.{SchemaGraph}
use Rattle.schema_definitions.specs.Lookup.{Target}
use Rattle.schema_patterns.proofs.Tables.{entries_grown}
use Rattle.schema_registries.specs.Roots.{Finds}
use Rattle.schema_registries.specs.Seen.{documents_shared}
use Rattle.schema_validators.specs.Maps.{entries_in, PutsPlace}
use Rattle.schema_validators.specs.Meant.{AreOfSome, IsOfSome}
use Rattle.schema_validators.specs.Seen.{root_of}
use Rattle.schema_validators.proofs.mapping.put.Goals as goal

pub over-validator-requires : goal.over-validator-requires
over-validator-requires g c =
    let s = c.args.schemas.now.value in
    let same = c.in_ok-clone.ensures.cases in
    record {
      there = subst (λ (x : SchemaGraph _ _). c.in-Some.start < length x.graph.nodes.items) (sym same) (subst (IsNode (length s.graph.nodes.items)) c.in-Some.is c.requires.there);
      of_some = subst (λ (x : SchemaGraph _ _). AreOfSome x.graph.nodes.items c.in-Some.start) (sym same) (subst (IsOfSome s.graph.nodes.items) c.in-Some.is c.requires.of_some);
    }

pub returns-in-Ok : goal.returns-in-Ok
returns-in-Ok g c =
    let own = documents_shared c.args.registry.now in
    let document = c.args.document.now in
    let pointer = c.args.pointer.now in
    let v = c.over-validator.result in
    let old = c.args.map.now.validators in
    let grown = entries_grown old c.insert.new.self c.in_ok-key.key pointer v c.in_ok-key.ensures.ok c.requires.absent c.in-Ok.ensures.entries in
    let text = c.as_str.ensures.value ∙ c.in_ok-reference.ensures in
    subst (λ (o : Option ℕ). PutsPlace own document c.args.schemas.now.value pointer o (entries_in c.args.map.now) (entries_in (record { validators = c.insert.new.self }))) (sym c.in-Some.is) (
      v,
      record {
        schemas_are = c.over-validator.ensures.schemas ∙ c.in_ok-clone.ensures.cases;
        start_is = c.over-validator.ensures.start;
        draft = λ target found. c.over-validator.ensures.draft ∙ c.in_ok-draft.ensures target (subst (λ (t : List ℕ). Finds (root_of own document t) target) (sym text) found);
      },
      grown,
    )
