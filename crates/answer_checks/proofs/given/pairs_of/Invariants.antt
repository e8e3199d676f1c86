use Rattle.answer_checks.proofs.Pairing.{PairedSoFar}
use Rattle.answer_checks.proofs.given.pairs_of.Given as goal

abbrev pub invariant-loop-text : goal.invariant-loop-text
invariant-loop-text l = PairedSoFar l.texts l.lines l.text-index l.pairs.items
