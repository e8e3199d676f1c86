use Rattle.std.specs.Borrow.{Bor}
use Rattle.std.proofs.Common.{◌≡◌, ◌∙◌, refl, ℕ, List, [], ◌∷◌, map, option_map, subst}
use Rattle.clap.specs.Walk.{texts}
use Rattle.document_sources.specs.Seen.{layer_of}
use Rattle.schema_registries.specs.Seen.{documents_given}
use Rattle.line_runs.specs.Passed.{layer_by}
use Rattle.schema_registries.specs.Roots.{root_on}
use Rattle.validator_program.specs.Given.{AreCut, AddsFiles, pair_of}
use Rattle.validator_program.specs.declared.documents.Further.{Further}
use Rattle.validator_program.proofs.Alone.{stays_alone, root_alone}
use Rattle.validator_program.proofs.preparing.prepare_documents.Goals as goal

pub returns-clause-prepared : goal.returns-clause-prepared
returns-clause-prepared g c =
    let o = c.in_ok-options.options in
    let given = documents_given c.in_ok-documents.documents in
    let metas = option_map documents_given c.in_ok-meta_schemas.meta_schemas in
    let first = layer_of c.in_ok-layer.layer in
    let of_layer = c.in_ok-layer.ensures in
    let pairs = map pair_of c.in_ok-further.further.items in
    let words = c.args.words.now in
    let held = g.F.SchemaFiles.held c.args.files.now in
    let registry = c.in-Ok.registry in
    let root = root_on registry [] in
    let options = c.in_ok-options.ensures in
    let prepared = c.in-Ok.ensures.prepared in
    let is_first : layer_by o ≡ first = rw (options.draft, options.siblings, of_layer.number) refl in
    let alone = stays_alone _ _ o given registry (λ r uri d a. a) prepared metas first options.meta_schemas is_first in
    record {
      pairs = pairs;
      given = given;
      first = first;
      meta_schemas = metas;
      cut = subst (λ (ws : List (Bor (List ℕ))). AreCut (texts ws) pairs) c.as_slice.ensures.value c.in_ok-further.ensures;
      is_first = of_layer.number;
      is_draft = of_layer.draft;
      is_option = of_layer.siblings;
      added = subst (λ (b : List ℕ). AddsFiles held ((b, words.schema.now) ∷ pairs) [] given) c.in_ok-base.ensures
          (subst (λ (fs : List Further). AddsFiles held ((c.in_ok-base.base, words.schema.now) ∷ map pair_of fs) [] given) c.as_slice-2.ensures.value
          (subst (λ (b : List ℕ). AddsFiles held ((b, words.schema.now) ∷ map pair_of c.as_slice-2.result.now) [] given) c.as_str.ensures.value c.in_ok-documents.ensures));
      are_meta_schemas = c.in_ok-meta_schemas.ensures;
      are_alone = alone.parent;
      is_root = root_alone first metas given registry alone root [] refl _ (prepared.base ∙ options.base ∙ c.in_ok-base.ensures);
      accepted = alone.accepted;
    }
