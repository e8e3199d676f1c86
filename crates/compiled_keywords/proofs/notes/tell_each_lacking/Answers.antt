use Rattle.std.proofs.Common.{◌+◌, drop, map, string_bytes, sym, subst, arith}
use Rattle.std.proofs.lemmas.List.{at_drop_all}
use Rattle.serde_json.specs.View.{view}
use Rattle.std.specs.List.{flat_map}
use Rattle.compiled_keywords.specs.Told.{lacking}
use Rattle.compiled_keywords.specs.Told.{TellsEach}
use Rattle.compiled_keywords.proofs.AcceptLemmas.{next_of}
use Rattle.compiled_keywords.proofs.TellLemmas.{tells_none, tells_both}
use Rattle.compiled_keywords.proofs.notes.tell_each_lacking.Goals as goal

pub loop-name-preserved : goal.loop-name-preserved
loop-name-preserved c = λ new told.
    let s = c.args.situation.now in
    let d = view s.value.now in
    let k = c.args.keyword.now in
    let xs = c.args.names.now in
    let i = c.loop-name.name-index in
    let next = next_of i xs c.name-item.result c.loop-name-test.true c.name-item.is in
    let both = tells_both s k (lacking d (string_bytes c.name-item.result)) (flat_map (lacking d) (map string_bytes (drop (i + 1) xs))) c.loop-name.observer c.tell_lacking.new.observer new (subst (λ n. TellsEach s k (lacking d n) c.loop-name.observer c.tell_lacking.new.observer) c.as_str.ensures.value c.in_ok-tell_lacking.ensures) told in
    c.loop-name.invariant new (subst (λ zs. TellsEach s k (flat_map (lacking d) (map string_bytes zs)) c.loop-name.observer new) (sym next) both)

pub returns : goal.returns
returns c =
    let s = c.args.situation.now in
    let d = view s.value.now in
    let k = c.args.keyword.now in
    let o = c.loop-name.observer in
    let done = at_drop_all (λ zs. (flat_map (lacking d) (map string_bytes zs))) c.args.names.now c.loop-name.name-index (omega (arith, c.loop-name-test.false)) in
    c.loop-name.invariant o (subst (λ notes. TellsEach s k notes o o) (sym done) (tells_none s k o))
