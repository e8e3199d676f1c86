use Rattle.std.proofs.Common.{arith, ◌≤◌, length}
use Rattle.validator_program.proofs.Cut.{all_cut}
use Rattle.validator_program.proofs.documents.cut_words.Goals as goal

pub returns : goal.returns
returns c =
    let past : length c.args.words.now ≤ c.loop-word.word-index = omega (arith, c.loop-word-test.false) in
    all_cut c.args.words.now c.loop-word.word-index c.loop-word.cuts.items past c.loop-word.invariant
