use Rattle.std.proofs.Common.{◌≡◌, ◌++◌, drop, map, string_bytes}
use Rattle.serde_json.specs.View.{items_view}
use Rattle.assertions.specs.Texts.{texts_of}
use Rattle.keyword_compilers.proofs.names.texts.Given as goal

abbrev pub invariant-loop-value : goal.invariant-loop-value
invariant-loop-value l = texts_of (items_view l.values) ≡ map string_bytes l.found.items ++ texts_of (items_view (drop l.value-index l.values))
