use Rattle.std.proofs.Common.{◌≡◌, ◌≤◌, ◌-◌, suc, None, map, option_map}
use Rattle.std.specs.Prelude.{slice_get}
use Rattle.schema_definitions.specs.Bearers.{dialects}
use Rattle.schema_definitions.specs.DocumentCauses.{circular_metaschema}
use Rattle.document_index.specs.Seen.{document_of}
use Rattle.document_laws.specs.Stages.{anew_after}
use Rattle.document_index.specs.Told.{Tells}
use Rattle.document_index.specs.Standings.{AreUnder}
use Rattle.document_index.proofs.told.stage_after.Given as goal

abbrev pub invariant-loop-stage : goal.invariant-loop-stage
invariant-loop-stage l =
    let docs = map document_of l.documents in
    record {
      within : l.stage ≤ l.stages;
      told : Tells l.next.told.meta_schemas (dialects docs (suc l.stage));
      anew : option_map circular_metaschema l.next.told.anew ≡ slice_get (anew_after docs l.stage) 0;
      rests : l.next.told.anew ≡ None → AreUnder l.next.told.meta_schemas docs l.next.places.items;
    }

abbrev pub decreases-loop-stage : goal.decreases-loop-stage
decreases-loop-stage l = l.stages - l.stage
