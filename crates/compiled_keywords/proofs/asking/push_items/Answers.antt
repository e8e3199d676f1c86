use Rattle.std.proofs.Common.{map, subst}
use Rattle.std.proofs.lemmas.Result.{on_ok_weaker}
use Rattle.schema_meaning.specs.Questions.{each_item, items_from}
use Rattle.compiled_keywords.specs.Forms.{alone, whole_at}
use Rattle.compiled_keywords.specs.Seen.{Puts}
use Rattle.compiled_keywords.proofs.asking.push_items.Goals as goal

pub returns : goal.returns
returns c =
    on_ok_weaker c.push_items_from.result
    (λ puts k. subst (λ ds. Puts (whole_at k) c.args.into.now.items c.push_items_from.new.into.items (map alone (each_item k c.args.node c.args.start (items_from c.args.start ds)))) c.items_at.ensures (puts k))
    c.push_items_from.ensures
