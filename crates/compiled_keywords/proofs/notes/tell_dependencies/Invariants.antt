use Rattle.std.proofs.Common.{drop, map}
use Rattle.schema_reports.specs.declared.observer.Observer.{Observer}
use Rattle.serde_json.specs.View.{view}
use Rattle.compiled_keywords.specs.Told.{TellsEach}
use Rattle.compiled_keywords.specs.Owned.{depending}
use Rattle.compiled_keywords.proofs.AcceptLemmas.{needed_in}
use Rattle.compiled_keywords.proofs.notes.tell_dependencies.Given as goal

abbrev pub invariant-loop-entry : goal.invariant-loop-entry
invariant-loop-entry l = (new : Observer) → TellsEach l.situation l.keyword (needed_in (view l.situation.value.now) (map depending (drop l.entry-index l.entries))) l.observer new → TellsEach l.situation l.keyword (needed_in (view l.situation.value.now) (map depending l.entries)) l.fn.observer new
