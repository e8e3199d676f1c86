use Rattle.std.proofs.Common.{drop, map, string_bytes}
use Rattle.schema_reports.specs.declared.observer.Observer.{Observer}
use Rattle.serde_json.specs.View.{view}
use Rattle.compiled_keywords.specs.Told.{TellsEach}
use Rattle.std.specs.List.{flat_map}
use Rattle.compiled_keywords.specs.Told.{lacking}
use Rattle.compiled_keywords.proofs.notes.tell_each_lacking.Given as goal

abbrev pub invariant-loop-name : goal.invariant-loop-name
invariant-loop-name l = (new : Observer) → TellsEach l.situation l.keyword (flat_map (lacking (view l.situation.value.now)) (map string_bytes (drop l.name-index l.names))) l.observer new → TellsEach l.situation l.keyword (flat_map (lacking (view l.situation.value.now)) (map string_bytes l.names)) l.fn.observer new
