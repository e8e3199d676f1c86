use Rattle.std.proofs.Common.{drop, map}
use Rattle.schema_reports.specs.declared.observer.Observer.{Observer}
use Rattle.serde_json.specs.View.{view}
use Rattle.compiled_keywords.specs.Told.{TellsEach}
use Rattle.schema_meaning.specs.Keywords.{missing_beside}
use Rattle.compiled_keywords.specs.Owned.{needed_by}
use Rattle.compiled_keywords.proofs.notes.tell_missing_beside.Given as goal

abbrev pub invariant-loop-entry : goal.invariant-loop-entry
invariant-loop-entry l = (new : Observer) → TellsEach l.situation l.keyword (missing_beside (map needed_by (drop l.entry-index l.entries)) (view l.situation.value.now)) l.observer new → TellsEach l.situation l.keyword (missing_beside (map needed_by l.entries) (view l.situation.value.now)) l.fn.observer new
