use Rattle.std.proofs.Common.{◌∷◌, [], ◌+◌, drop, sym, subst, arith}
use Rattle.std.proofs.lemmas.List.{at_drop_all}
use Rattle.serde_json.specs.View.{view}
use Rattle.assertions.specs.Wrong.{note_of, notes_of}
use Rattle.compiled_keywords.specs.Told.{TellsEach}
use Rattle.compiled_keywords.proofs.AcceptLemmas.{next_of}
use Rattle.compiled_keywords.proofs.TellLemmas.{tells_none, tells_both}
use Rattle.compiled_keywords.proofs.notes.tell_each.Goals as goal

pub loop-wrong-preserved : goal.loop-wrong-preserved
loop-wrong-preserved c = λ new told.
    let s = c.args.situation.now in
    let d = view s.value.now in
    let k = c.args.keyword.now in
    let xs = c.args.found.now in
    let i = c.loop-wrong.wrong-index in
    let next = next_of i xs c.wrong-item.result c.loop-wrong-test.true c.wrong-item.is in
    let both = tells_both s k (note_of d c.wrong-item.result ∷ []) (notes_of d (drop (i + 1) xs)) c.loop-wrong.observer c.tell_wrong.new.observer new c.in_ok-tell_wrong.ensures told in
    c.loop-wrong.invariant new (subst (λ zs. TellsEach s k (notes_of d zs) c.loop-wrong.observer new) (sym next) both)

pub returns : goal.returns
returns c =
    let s = c.args.situation.now in
    let d = view s.value.now in
    let k = c.args.keyword.now in
    let o = c.loop-wrong.observer in
    let done = at_drop_all (λ zs. (notes_of d zs)) c.args.found.now c.loop-wrong.wrong-index (omega (arith, c.loop-wrong-test.false)) in
    c.loop-wrong.invariant o (subst (λ notes. TellsEach s k notes o o) (sym done) (tells_none s k o))
