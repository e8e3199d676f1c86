use Rattle.std.proofs.Common.{◌≡◌, ◌∙◌, ◌∷◌, ◌+◌, List, ℕ, Some, None, Vec, Global, true, false, map, drop, sym, ap, ap₂, arith, string_bytes}
use Rattle.std.proofs.lemmas.List.{at_drop_all}
use Rattle.json_values.specs.Parts.{Part}
use Rattle.serde_json.specs.Find.{get}
use Rattle.serde_json.specs.View.{view}
use Rattle.schema_meaning.specs.Places.{to_member}
use Rattle.schema_meaning.specs.Questions.{each_declared}
use Rattle.schema_engine.specs.Places.{value_at}
use Rattle.schema_engine.specs.declared.place.Question.{Question}
use Rattle.schema_engine.specs.declared.place.Asked.TheVariants as asked
use Rattle.compiled_keywords.specs.Forms.{alone, name_at}
use Rattle.compiled_keywords.specs.Owned.{named}
use Rattle.compiled_keywords.proofs.MemberLemmas.{name_there, declared_absent, declared_there}
use Rattle.compiled_keywords.proofs.PushLemmas.{put_same, put_next, put_done}
use Rattle.compiled_keywords.proofs.members.push_declared.Goals.{in-Some+in_ok-push, in_default}
use Rattle.compiled_keywords.proofs.members.push_declared.Goals as goal

pub loop-index-preserved : goal.loop-index-preserved
loop-index-preserved c =
    let l = c.loop-index in
    let d = value_at c.args.place in
    let nodes = c.args.nodes.now in
    let i = l.index in
    let p = c.index-nodes-index.result in
    let is = c.index-nodes-index.is in
    let short = c.loop-index-test.true in
    let name : c.as_str-name.result.now ≡ string_bytes p.name = c.as_str-name.ensures.value in
    record {
      step = c.member_in.ensures.step;
      left = λ k.
          let more = map alone (each_declared k d (map named (drop (i + 1) nodes))) in
          let part = name_there k named nodes i p short is in
          elim c.match-member_in.branch [
            | in-Some+in_ok-push w ↦
                (let e = view w.in-Some.member.now in
                let there : get (named p).0 d ≡ Some e = ap (λ n. get n d) (sym name) ∙ sym w.in-Some.ensures.there in
                let next = declared_there k d nodes i p short is e there
                ∙ ap₂ (λ (n : List ℕ) (r : List Part). (true, record { site = p.node; step = to_member n e; added = r; follows = false }) ∷ more) (sym name) (sym part) in
                put_next (name_at k (map named nodes)) _ _ _ (record { node = p.node; asked = asked.Member c.as_str-name.result w.in-Some.member; follows = false; beside = true; entry = i }) _ more _ next
                (l.invariant.left k) (ap (λ (v : Vec Question Global). v.items) w.into-is ∙ w.in_ok-push.ensures.items))
            | in_default w ↦
                (let none : get (named p).0 d ≡ None = ap (λ n. get n d) (sym name) ∙ sym w.in_default.ensures.there in
                rw w.into-is (put_same (name_at k (map named nodes)) _ _ _ more _ (declared_absent k d nodes i p short is none) (l.invariant.left k)))
          ];
    }

pub returns : goal.returns
returns c = λ k.
    let nodes = c.args.nodes.now in
    let i = c.loop-index.index in
    put_done (name_at k (map named nodes)) _ _ _ _ (at_drop_all (λ ns. map alone (each_declared k (value_at c.args.place) (map named ns))) nodes i (omega (arith, c.loop-index-test.false))) (c.loop-index.invariant.left k)
