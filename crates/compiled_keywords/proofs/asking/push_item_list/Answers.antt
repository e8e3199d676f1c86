use Rattle.std.proofs.Common.{map, subst}
use Rattle.std.proofs.lemmas.Result.{on_ok_weaker}
use Rattle.schema_meaning.specs.Questions.{item_by_item}
use Rattle.compiled_keywords.specs.Forms.{alone, index_at}
use Rattle.compiled_keywords.specs.Seen.{Puts}
use Rattle.compiled_keywords.proofs.asking.push_item_list.Goals as goal

pub returns : goal.returns
returns c =
    on_ok_weaker c.push_indexed.result
    (λ puts k. subst (λ ds. Puts (index_at k) c.args.into.now.items c.push_indexed.new.into.items (map alone (item_by_item k c.args.nodes.now 0 ds))) c.items_at.ensures (puts k))
    c.push_indexed.ensures
