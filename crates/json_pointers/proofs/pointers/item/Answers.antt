use Rattle.std.proofs.Common.{sym, ◌∙◌, arith}
use Rattle.json_pointers.proofs.PointerLemmas.{item_within, item_past, item_beyond}
use Rattle.json_pointers.proofs.pointers.item.Goals as goal
use Rattle.json_pointers.proofs.pointers.item.Goals.{in_default-via-in-Some+else-index-len, in_default-via-in_default}

pub returns-in-Some : goal.returns-in-Some
returns-in-Some c =
    item_within c.args.token.now c.args.items.now.items c.in-Some.index c.index.result.now (sym c.parse_index.ensures ∙ c.in-Some.is) (omega arith) c.index.ensures

pub returns-in_default : goal.returns-in_default
returns-in_default c = elim c.in_default.branch [ in_default-via-in-Some+else-index-len w ↦ item_beyond c.args.token.now c.args.items.now.items w.in-Some.index (sym c.parse_index.ensures ∙ w.in-Some.is) (omega arith) | in_default-via-in_default w ↦ item_past c.args.token.now c.args.items.now.items (sym c.is_index.ensures ∙ c.if-not-is_index.false) (sym c.parse_index.ensures ∙ w.in_default.is) (omega (arith, c.args.items.now.ok, c.args.items.now.small)) ]
