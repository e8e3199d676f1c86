use Rattle.serde_json.specs.View.{view}
use Rattle.schema_meaning.specs.Rules.{each_of_object}
use Rattle.location_texts.specs.Locations.{location_of}
use Rattle.schema_reports.specs.Told.{spot_of}
use Rattle.schema_reports.proofs.FaultLemmas.{Absorbs}
use Rattle.schema_reports.proofs.all_faults.AllFaults.absorb_names.Given as goal

abbrev pub invariant-loop-error : goal.invariant-loop-error
invariant-loop-error l = Absorbs (each_of_object (spot_of (view l.fn.object) (location_of l.fn.at))) l.fn.self.errors.items l.yielded l.self.errors.items
