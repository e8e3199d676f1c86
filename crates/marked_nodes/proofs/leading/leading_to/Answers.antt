use Rattle.std.proofs.Common.{◌≡◌, ◌∙◌, ◌<◌, ℕ, List, Global, length, get_or, arith}
use Rattle.std.specs.declared.vec.Vec.{Vec}
use Rattle.marked_nodes.specs.Sources.{HoldsSources, sources_of}
use Rattle.marked_nodes.specs.declared.graph.Edge.{Edge}
use Rattle.marked_nodes.proofs.SourceLemmas.{holds_read, sources_within}
use Rattle.marked_nodes.proofs.Spreading.{popped_within, spread_begins, spread_ends, spread_on}
use Rattle.marked_nodes.proofs.leading.leading_to.Goals as goal

pub loop-node-init : goal.loop-node-init
loop-node-init c = spread_begins c.args.edges.now c.args.count (c.in_ok-leading.ensures.items_if_clones_equal (λ y e. e)) c.new-waiting.ensures.items c.in_ok-mark_all.ensures

pub index-requires : goal.index-requires
index-requires c =
    omega (arith, popped_within c.pop.new.self.items c.in-Some.node c.loop-node.invariant c.in-Some.ensures.items, c.in_ok-sources.ensures.len, c.in_ok-sources.sources.ok.0)

-- what is lent at a node's place are the nodes with an edge to it
lent : (edges : List Edge) (lists : List (Vec ℕ Global)) (count node : ℕ) (list : Vec ℕ Global) (nodes : List ℕ) → HoldsSources edges lists → length lists ≡ count → node < count → list ≡ get_or lists node list → nodes ≡ list.items
    → nodes ≡ sources_of edges node
lent edges lists count node list nodes held len within is same = same ∙ holds_read edges lists node list held (omega arith) is

pub mark_all-requires-in-Some : goal.mark_all-requires-in-Some
mark_all-requires-in-Some c =
    let within = popped_within c.pop.new.self.items c.in-Some.node c.loop-node.invariant c.in-Some.ensures.items in
    let same = lent c.args.edges.now c.in_ok-sources.sources.items c.args.count c.in-Some.node c.index.result.now c.deref.result.now c.in_ok-sources.ensures.each c.in_ok-sources.ensures.len within c.index.ensures c.deref.ensures.value in
    rw (same, c.loop-node.invariant.as_many) (sources_within c.args.count c.args.edges.now c.in-Some.node c.requires.below)

pub loop-node-preserved : goal.loop-node-preserved
loop-node-preserved c =
    let within = popped_within c.pop.new.self.items c.in-Some.node c.loop-node.invariant c.in-Some.ensures.items in
    let same = lent c.args.edges.now c.in_ok-sources.sources.items c.args.count c.in-Some.node c.index.result.now c.deref.result.now c.in_ok-sources.ensures.each c.in_ok-sources.ensures.len within c.index.ensures c.deref.ensures.value in
    let marks = rw same at c.in_ok-mark_all-2.ensures in
    spread_on c.pop.new.self.items c.in-Some.node c.loop-node.invariant c.in-Some.ensures.items marks

pub returns-clause-each : goal.returns-clause-each
returns-clause-each c = spread_ends c.loop-node.invariant (omega (arith, c.in_default.ensures.cases.0, c.loop-node.waiting.ok.0))
