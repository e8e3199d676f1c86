use Rattle.std.proofs.Common.{List, map}
use Rattle.std.specs.Vec.Iter.{into_iter_items}
use Rattle.serde_json.specs.View.{view}
use Rattle.document_sources.specs.Given.{Given}
use Rattle.document_sources.specs.Seen.{layer_of}
use Rattle.schema_registries.specs.Seen.{documents_given}
use Rattle.validator_program.specs.Given.{AddsEach}
use Rattle.validator_program.proofs.meta_files.read_meta_schemas.Given as goal

-- whatever those that are left add to the documents so far, all come to
abbrev pub invariant-loop-value : goal.invariant-loop-value
invariant-loop-value g l =
    (new : List Given) → AddsEach (layer_of l.fn.layer) (map view (into_iter_items l.value-iterator)) (documents_given l.documents) new
    → AddsEach (layer_of l.fn.layer) (map view (into_iter_items l.initial.value-iterator)) (documents_given l.initial.documents) new
