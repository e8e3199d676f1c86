use Rattle.std.proofs.Common.{◌≡◌, ◌∙◌, ◌∷◌, ◌+◌, List, None, Vec, Global, true, false, map, drop, sym, ap, arith}
use Rattle.std.proofs.lemmas.List.{at_drop_all}
use Rattle.json_values.specs.Parts.{Part}
use Rattle.serde_json.specs.Find.{get}
use Rattle.schema_meaning.specs.Keywords.{each_dependency}
use Rattle.schema_meaning.specs.Places.{stay}
use Rattle.schema_engine.specs.Places.{value_at}
use Rattle.schema_engine.specs.declared.place.Question.{Question}
use Rattle.schema_engine.specs.declared.place.Asked.TheVariants as asked
use Rattle.compiled_keywords.specs.Forms.{alone, name_at}
use Rattle.compiled_keywords.specs.Members.{applied_node}
use Rattle.compiled_keywords.specs.Owned.{depending}
use Rattle.compiled_keywords.proofs.MemberLemmas.{name_there, applied_next, unapplied_next}
use Rattle.compiled_keywords.proofs.PushLemmas.{put_same, put_next, put_done}
use Rattle.compiled_keywords.proofs.members.push_dependencies.Goals.{in-Some+in_ok-push, in_default}
use Rattle.compiled_keywords.proofs.members.push_dependencies.Goals as goal

pub loop-index-preserved : goal.loop-index-preserved
loop-index-preserved c = λ k.
    let l = c.loop-index in
    let d = value_at c.args.place in
    let entries = c.args.entries.now in
    let i = l.index in
    let p = c.index-entries-index.result in
    let is = c.index-entries-index.is in
    let short = c.loop-index-test.true in
    let more = map alone (each_dependency k d (map depending (drop (i + 1) entries))) in
    let part = name_there k depending entries i p short is in
    elim c.match-applied_at.branch [
      | in-Some+in_ok-push w ↦
          (let next = applied_next k d entries i p short is w.in-Some.node (sym w.in-Some.ensures)
          ∙ ap (λ (r : List Part). (true, record { site = w.in-Some.node; step = stay; added = r; follows = false }) ∷ more) (sym part) in
          put_next (name_at k (map depending entries)) _ _ _ (record { node = w.in-Some.node; asked = asked.Here; follows = false; beside = true; entry = i }) _ more _ next (l.invariant k)
          (ap (λ (v : Vec Question Global). v.items) w.into-is ∙ w.in_ok-push.ensures.items))
      | in_default w ↦
          (let none : applied_node (get (depending p).0 d) (depending p).1 ≡ None = sym w.in_default.ensures in
          rw w.into-is (put_same (name_at k (map depending entries)) _ _ _ more _ (unapplied_next k d entries i p short is none) (l.invariant k)))
    ]

pub returns : goal.returns
returns c = λ k.
    let entries = c.args.entries.now in
    let i = c.loop-index.index in
    put_done (name_at k (map depending entries)) _ _ _ _ (at_drop_all (λ es. map alone (each_dependency k (value_at c.args.place) (map depending es))) entries i (omega (arith, c.loop-index-test.false))) (c.loop-index.invariant k)
