use Rattle.std.proofs.Common.{◌≤◌, ◌+◌, length, map, take, take_all, sym, subst, refl, arith}
use Rattle.std.specs.List.{AllZip}
use Rattle.serde_json.specs.View.{view}
use Rattle.schema_registries.specs.Roots.{root_on}
use Rattle.fault_checks.specs.Checked.{AreReached, AreReadIn}
use Rattle.answer_checks.specs.Checks.{IsPathChecked}
use Rattle.answer_checks.specs.Paths.{path_bytes}
use Rattle.answer_checks.proofs.Lists.{zip_more}
use Rattle.answer_checks.proofs.checker.AnswerChecker.check_paths.Goals as goal

pub loop-path-preserved : goal.loop-path-preserved
loop-path-preserved g c = λ p r of.
    let finds = g.M.PatternMatcher.finds in
    let self = c.args.self.now in
    let d = view c.args.value.now in
    let paths = c.args.paths.now in
    let i = c.loop-path.path-index in
    let answers = c.loop-path.answers.items in
    let answer = c.in_ok-answer.answer in
    let root = root_on self.registry.now self.root.now in
    let reached = subst (λ q. AreReached finds p q self.patterns) (sym of.root) of.reached in
    let read = c.in_ok-read.ensures p root (subst (λ o. AreReached finds p root o) (sym c.as_ref.ensures.value) reached) in
    let lent = subst (λ o. AreReadIn p root d o) (sym c.as_ref-matches.ensures.value) read in
    let before = c.loop-path.invariant p root (record { root = refl; reached = reached }) in
    let more = zip_more paths i _ c.loop-path-test.true path_bytes (IsPathChecked p root d) answers answer before (c.in_ok-answer.ensures p lent) in
    subst (λ q. AllZip (IsPathChecked p q d) (map path_bytes (take (i + 1) paths)) c.push.new.self.items) of.root
    (subst (λ all. AllZip (IsPathChecked p root d) (map path_bytes (take (i + 1) paths)) all) (sym c.in_ok-push.ensures.items) more)

pub returns : goal.returns
returns g c = λ p r of.
    let paths = c.args.paths.now in
    let i = c.loop-path.path-index in
    let past : length paths ≤ i = omega (arith, c.loop-path-test.false) in
    subst (λ ps. AllZip (IsPathChecked p r (view c.args.value.now)) (map path_bytes ps) c.loop-path.answers.items) (take_all i paths past) (c.loop-path.invariant p r of)
