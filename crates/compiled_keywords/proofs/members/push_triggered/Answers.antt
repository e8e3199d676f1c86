use Rattle.std.proofs.Common.{◌≡◌, ◌∙◌, ◌∷◌, ◌+◌, List, Vec, Global, true, false, map, drop, is_some, sym, ap, arith, string_bytes}
use Rattle.std.proofs.lemmas.List.{at_drop_all}
use Rattle.json_values.specs.Parts.{Part}
use Rattle.serde_json.specs.Find.{get}
use Rattle.serde_json.specs.View.{view}
use Rattle.schema_meaning.specs.Places.{stay}
use Rattle.schema_meaning.specs.Questions.{each_triggered}
use Rattle.schema_engine.specs.Places.{value_at}
use Rattle.schema_engine.specs.declared.place.Question.{Question}
use Rattle.schema_engine.specs.declared.place.Asked.TheVariants as asked
use Rattle.applicators.proofs.DeclaredLemmas.{same_there}
use Rattle.compiled_keywords.specs.Forms.{alone, name_at}
use Rattle.compiled_keywords.specs.Owned.{named}
use Rattle.compiled_keywords.proofs.MemberLemmas.{found_so, found_not, name_there, triggered_absent, triggered_there}
use Rattle.compiled_keywords.proofs.PushLemmas.{put_same, put_next, put_done}
use Rattle.compiled_keywords.proofs.members.push_triggered.Goals.{then-is_some+in_ok-push, else-is_some}
use Rattle.compiled_keywords.proofs.members.push_triggered.Goals as goal

pub loop-index-preserved : goal.loop-index-preserved
loop-index-preserved c = λ k.
    let l = c.loop-index in
    let d = value_at c.args.place in
    let nodes = c.args.nodes.now in
    let i = l.index in
    let p = c.index-nodes-index.result in
    let is = c.index-nodes-index.is in
    let short = c.loop-index-test.true in
    let name : c.as_str.result.now ≡ string_bytes p.name = c.as_str.ensures.value in
    let more = map alone (each_triggered k d (map named (drop (i + 1) nodes))) in
    let part = name_there k named nodes i p short is in
    let there : is_some (get (named p).0 d) ≡ c.is_some.result =
    ap (λ n. is_some (get n d)) (sym name) ∙ ap is_some (sym c.member_at.ensures) ∙ sym (same_there (λ v. view v.now) c.member_at.result) ∙ sym c.is_some.ensures in
    elim c.if-is_some.branch [
      | then-is_some+in_ok-push w ↦
          (let found = found_so (get (named p).0 d) (there ∙ w.if-is_some.true) in
          let next = triggered_there k d nodes i p short is found.0 found.1
          ∙ ap (λ (r : List Part). (true, record { site = p.node; step = stay; added = r; follows = false }) ∷ more) (sym part) in
          put_next (name_at k (map named nodes)) _ _ _ (record { node = p.node; asked = asked.Here; follows = false; beside = true; entry = i }) _ more _ next
          (l.invariant k) (ap (λ (v : Vec Question Global). v.items) w.into-is ∙ w.in_ok-push.ensures.items))
      | else-is_some w ↦
          (let none = found_not (get (named p).0 d) (there ∙ w.if-is_some.false) in
          rw w.into-is (put_same (name_at k (map named nodes)) _ _ _ more _ (triggered_absent k d nodes i p short is none) (l.invariant k)))
    ]

pub returns : goal.returns
returns c = λ k.
    let nodes = c.args.nodes.now in
    let i = c.loop-index.index in
    put_done (name_at k (map named nodes)) _ _ _ _ (at_drop_all (λ ns. map alone (each_triggered k (value_at c.args.place) (map named ns))) nodes i (omega (arith, c.loop-index-test.false))) (c.loop-index.invariant k)
