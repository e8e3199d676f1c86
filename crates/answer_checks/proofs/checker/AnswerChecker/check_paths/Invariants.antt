use Rattle.std.proofs.Common.{map, take}
use Rattle.serde_json.specs.View.{view}
use Rattle.answer_checks.specs.Checks.{AreCheckedBy}
use Rattle.answer_checks.specs.Paths.{path_bytes}
use Rattle.answer_checks.proofs.checker.AnswerChecker.check_paths.Given as goal

abbrev pub invariant-loop-path : goal.invariant-loop-path
invariant-loop-path g l = AreCheckedBy g.M.PatternMatcher.finds l.self (view l.value) (map path_bytes (take l.path-index l.paths)) l.answers.items
