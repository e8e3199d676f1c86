use Rattle.std.proofs.Common.{◌+◌, drop, map, sym, subst, arith}
use Rattle.std.proofs.lemmas.List.{at_drop_all}
use Rattle.serde_json.specs.View.{view}
use Rattle.serde_json.specs.Find.{get}
use Rattle.schema_meaning.specs.Keywords.{needed}
use Rattle.schema_meaning.specs.Questions.{if_member}
use Rattle.compiled_keywords.specs.Owned.{depending}
use Rattle.compiled_keywords.specs.Told.{TellsEach}
use Rattle.compiled_keywords.proofs.AcceptLemmas.{next_of, needed_in}
use Rattle.compiled_keywords.proofs.TellLemmas.{tells_none, tells_both}
use Rattle.compiled_keywords.proofs.notes.tell_dependencies.Goals as goal

pub loop-entry-preserved : goal.loop-entry-preserved
loop-entry-preserved c = λ new told.
    let s = c.args.situation.now in
    let d = view s.value.now in
    let k = c.args.keyword.now in
    let xs = c.args.entries.now in
    let i = c.loop-entry.entry-index in
    let next = next_of i xs c.entry-item.result c.loop-entry-test.true c.entry-item.is in
    let both = tells_both s k (if_member (get (depending c.entry-item.result).0 d) (λ e. needed d (depending c.entry-item.result).1)) (needed_in d (map depending (drop (i + 1) xs))) c.loop-entry.observer c.tell_dependency.new.observer new c.in_ok-tell_dependency.ensures told in
    c.loop-entry.invariant new (subst (λ zs. TellsEach s k (needed_in d (map depending zs)) c.loop-entry.observer new) (sym next) both)

pub returns : goal.returns
returns c =
    let s = c.args.situation.now in
    let d = view s.value.now in
    let k = c.args.keyword.now in
    let o = c.loop-entry.observer in
    let done = at_drop_all (λ zs. (needed_in d (map depending zs))) c.args.entries.now c.loop-entry.entry-index (omega (arith, c.loop-entry-test.false)) in
    c.loop-entry.invariant o (subst (λ notes. TellsEach s k notes o o) (sym done) (tells_none s k o))
