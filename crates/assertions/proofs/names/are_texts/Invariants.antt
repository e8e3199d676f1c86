use Rattle.std.proofs.Common.{◌≡◌, drop}
use Rattle.serde_json.specs.View.{items_view}
use Rattle.assertions.specs.Texts.{are_texts}
use Rattle.assertions.proofs.names.are_texts.Given as goal

abbrev pub invariant-loop-name : goal.invariant-loop-name
invariant-loop-name l = are_texts (items_view l.names) ≡ are_texts (items_view (drop l.name-index l.names))
