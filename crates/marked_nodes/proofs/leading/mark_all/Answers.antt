use Rattle.std.proofs.Common.{◌∙◌, ◌<◌, ℕ, Bool, Global, Some, refl, ap, length, get_or, arith}
use Rattle.std.proofs.lemmas.List.{take_more}
use Rattle.std.proofs.lemmas.Option.{slice_get_read}
use Rattle.std.specs.declared.vec.Vec.{Vec}
use Rattle.marked_nodes.proofs.MarkLemmas.{marks_again, marks_new}
use Rattle.marked_nodes.proofs.leading.mark_all.Goals as goal
use Rattle.marked_nodes.proofs.leading.mark_all.Goals.{then-not-index+in_ok-push, else-not-index}

pub loop-node-preserved : goal.loop-node-preserved
loop-node-preserved c =
    let nodes = c.args.nodes.now in
    let i = c.loop-node.node-index in
    let node = get_or nodes i 0 in
    let marks = c.loop-node.leading.items in
    let m = c.loop-node.invariant in
    let within : node < length marks = omega (arith, m.as_many, c.requires i 0 c.loop-node-test.true) in
    let at = slice_get_read marks (length marks) node c.index.result.now refl within c.index.ensures in
    let more = take_more nodes i 0 c.loop-node-test.true in
    elim c.if-not-index.branch [
      | then-not-index+in_ok-push w ↦
          rw (more, ap (λ (v : Vec Bool Global). v.items) w.leading-is, ap (λ (v : Vec ℕ Global). v.items) w.waiting-is ∙ w.in_ok-push.ensures.items)
          (marks_new node m (at ∙ ap Some w.if-not-index.true))
      | else-not-index w ↦
          rw (more, ap (λ (v : Vec Bool Global). v.items) w.leading-is, ap (λ (v : Vec ℕ Global). v.items) w.waiting-is)
          (marks_again node m (at ∙ ap Some w.if-not-index.false))
    ]
