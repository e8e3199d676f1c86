use Rattle.std.proofs.Common.{sym, ◌∙◌}
use Rattle.json_pointers.proofs.PointerLemmas.{index_from_parse}
use Rattle.json_pointers.proofs.pointers.parse_index.Goals as goal

pub returns-then-is_index : goal.returns-then-is_index
returns-then-is_index c =
    c.ok.ensures.value ∙ index_from_parse c.args.text.now c.parse.result (sym c.is_index.ensures ∙ c.if-is_index.true) c.parse.ensures.value.0
