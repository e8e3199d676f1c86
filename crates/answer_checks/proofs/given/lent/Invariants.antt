use Rattle.std.proofs.Common.{◌≡◌, map, take}
use Rattle.answer_checks.specs.Checks.{views}
use Rattle.answer_checks.proofs.given.lent.Given as goal

abbrev pub invariant-loop-text : goal.invariant-loop-text
invariant-loop-text l = views l.bytes.items ≡ map (λ v. v.items) (take l.text-index l.texts)
