use Rattle.std.proofs.Common.{◌∙◌, ap, string_bytes, ◌||◌, bytes_eq}
use Rattle.std.specs.BTreeSet.{contains_text}
use Rattle.std.proofs.lemmas.Map.Text.{btree_set_updates_text}
use Rattle.document_index.proofs.NameLemmas.{noted}
use Rattle.document_index.proofs.names.note.Goals as goal

pub returns : goal.returns
returns c = λ q.
    let key = string_bytes c.in_ok-from_str.field-0 in
    btree_set_updates_text key c.args.seen.now c.insert.new.self _ c.in_ok-insert.ensures.updates q
    ∙ noted key q (contains_text c.args.seen.now q)
    ∙ ap (λ t. bytes_eq q t || contains_text c.args.seen.now q) c.in_ok-from_str.ensures.ok
