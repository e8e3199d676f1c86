use Rattle.validator_program.proofs.Cut.{CutSoFar}
use Rattle.validator_program.proofs.documents.cut_words.Given as goal

abbrev pub invariant-loop-word : goal.invariant-loop-word
invariant-loop-word l = CutSoFar l.words l.word-index l.cuts.items
