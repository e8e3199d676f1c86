use Rattle.std.proofs.Common.{drop}
use Rattle.schema_reports.specs.declared.observer.Observer.{Observer}
use Rattle.serde_json.specs.View.{view}
use Rattle.compiled_keywords.specs.Told.{TellsEach}
use Rattle.assertions.specs.Wrong.{notes_of}
use Rattle.compiled_keywords.proofs.notes.tell_each.Given as goal

abbrev pub invariant-loop-wrong : goal.invariant-loop-wrong
invariant-loop-wrong l = (new : Observer) → TellsEach l.situation l.keyword (notes_of (view l.situation.value.now) (drop l.wrong-index l.found)) l.observer new → TellsEach l.situation l.keyword (notes_of (view l.situation.value.now) l.found) l.fn.observer new
