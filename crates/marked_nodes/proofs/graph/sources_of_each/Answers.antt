use Rattle.std.proofs.Common.{◌∙◌, refl, length, get_or, take, length-set}
use Rattle.std.proofs.lemmas.List.{take_more}
use Rattle.std.proofs.lemmas.Option.{slice_get_read}
use Rattle.marked_nodes.specs.declared.graph.Edge.{Edge}
use Rattle.marked_nodes.proofs.SourceLemmas.{holds_more}
use Rattle.marked_nodes.proofs.graph.sources_of_each.Goals as goal

pub loop-edge-preserved : goal.loop-edge-preserved
loop-edge-preserved c =
    let edges = c.args.edges.now in
    let i = c.loop-edge.edge-index in
    let none : Edge = record { from = 0; to = 0 } in
    let e = get_or edges i none in
    let lists = c.loop-edge.sources.items in
    let at = slice_get_read lists (length lists) e.to c.index_mut.result.now refl (rw c.loop-edge.invariant.len (c.requires i none c.loop-edge-test.true).1) c.index_mut.ensures.value in
    record {
      len = length-set lists e.to c.push.new.self ∙ c.loop-edge.invariant.len;
      each = rw (take_more edges i none c.loop-edge-test.true)
          (holds_more (take i edges) e lists c.index_mut.result.now c.push.new.self c.loop-edge.invariant.each at c.in_ok-push.ensures.items);
    }
