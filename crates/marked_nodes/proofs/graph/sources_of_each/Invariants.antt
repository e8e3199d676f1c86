use Rattle.std.proofs.Common.{◌≡◌, length, take}
use Rattle.marked_nodes.specs.Sources.{HoldsSources}
use Rattle.marked_nodes.proofs.graph.sources_of_each.Given as goal

abbrev pub invariant-loop-edge : goal.invariant-loop-edge
invariant-loop-edge l = record { len : length l.sources.items ≡ l.count; each : HoldsSources (take l.edge-index l.edges) l.sources.items }
