use Rattle.std.proofs.Common.{◌+◌, drop, map, string_bytes, sym, subst, arith}
use Rattle.std.proofs.lemmas.List.{at_drop_all}
use Rattle.serde_json.specs.View.{view}
use Rattle.serde_json.specs.Find.{get}
use Rattle.schema_meaning.specs.Keywords.{missing, missing_beside}
use Rattle.schema_meaning.specs.Questions.{if_member}
use Rattle.compiled_keywords.specs.Owned.{needed_by}
use Rattle.compiled_keywords.specs.Told.{TellsEach}
use Rattle.compiled_keywords.proofs.AcceptLemmas.{next_of}
use Rattle.compiled_keywords.proofs.TellLemmas.{tells_none, tells_both}
use Rattle.compiled_keywords.proofs.notes.tell_missing_beside.Goals as goal

pub loop-entry-preserved : goal.loop-entry-preserved
loop-entry-preserved c = λ new told.
    let s = c.args.situation.now in
    let d = view s.value.now in
    let k = c.args.keyword.now in
    let xs = c.args.entries.now in
    let i = c.loop-entry.entry-index in
    let next = next_of i xs c.entry-item.result c.loop-entry-test.true c.entry-item.is in
    let o = c.loop-entry.observer in
    let mid = c.tell_missing_where.new.observer in
    let named_so = subst (λ n. TellsEach s k (if_member (get n d) (λ e. missing (map string_bytes c.deref.result.now) d)) o mid) c.as_str-name.ensures.value c.in_ok-tell_missing_where.ensures in
    let one = subst (λ ns. TellsEach s k (if_member (get (needed_by c.entry-item.result).0 d) (λ e. missing (map string_bytes ns) d)) o mid) c.deref.ensures.value named_so in
    let both = tells_both s k (if_member (get (needed_by c.entry-item.result).0 d) (λ e. missing (needed_by c.entry-item.result).1 d)) (missing_beside (map needed_by (drop (i + 1) xs)) d) c.loop-entry.observer c.tell_missing_where.new.observer new one told in
    c.loop-entry.invariant new (subst (λ zs. TellsEach s k (missing_beside (map needed_by zs) d) c.loop-entry.observer new) (sym next) both)

pub returns : goal.returns
returns c =
    let s = c.args.situation.now in
    let d = view s.value.now in
    let k = c.args.keyword.now in
    let o = c.loop-entry.observer in
    let done = at_drop_all (λ zs. (missing_beside (map needed_by zs) d)) c.args.entries.now c.loop-entry.entry-index (omega (arith, c.loop-entry-test.false)) in
    c.loop-entry.invariant o (subst (λ notes. TellsEach s k notes o o) (sym done) (tells_none s k o))
