use Rattle.std.proofs.Common.{◌≡◌, length}
use Rattle.std.specs.List.{fold}
use Rattle.shared_lists.specs.Hashes.{marked}
use Rattle.shared_lists.proofs.compared.ListHash.hash.Given as goal

abbrev pub invariant-loop-value : goal.invariant-loop-value
invariant-loop-value g l = fold g.H.Hasher.write l.state (marked g.T.Hash.hash_input l.rest) ≡ fold g.H.Hasher.write l.initial.state (marked g.T.Hash.hash_input l.initial.rest)

abbrev pub decreases-loop-value : goal.decreases-loop-value
decreases-loop-value g l = length l.rest
