use Rattle.std.proofs.Common.{◌≡◌, ◌∙◌, length, map, ap, sym, subst, arith}
use Rattle.std.specs.List.{zip}
use Rattle.std.proofs.lemmas.List.{length-map}
use Rattle.std.proofs.lemmas.Result.{err_from_is_err_and}
use Rattle.line_cuts.specs.Cuts.{lines_of}
use Rattle.answer_checks.specs.Checks.{IsPairChecked, IsPairCheckedBy, pair_bytes, views}
use Rattle.answer_checks.specs.Written.{BreaksChecks, WritesChecks}
use Rattle.answer_checks.proofs.Pairing.{breaks_at, breaks_none, writes_at}
use Rattle.answer_checks.proofs.given.check_texts.Goals as goal

pub returns-in_err-lines-clause-stops : goal.returns-in_err-lines-clause-stops
returns-in_err-lines-clause-stops g c =
    let e = err_from_is_err_and c.from_residual.result c.from_residual.ensures.1 in
    rw (e.1, e.2) (λ p r of. breaks_none (IsPairChecked p r) _ _)

pub returns-in_err-pairs-clause-stops : goal.returns-in_err-pairs-clause-stops
returns-in_err-pairs-clause-stops g c =
    let e = err_from_is_err_and c.from_residual-in_err-pairs.result c.from_residual-in_err-pairs.ensures.1 in
    rw (e.1, e.2) (λ p r of. breaks_none (IsPairChecked p r) _ _)

pub returns-in_err-check_lines-clause-stops : goal.returns-in_err-check_lines-clause-stops
returns-in_err-check_lines-clause-stops g c =
    let e = err_from_is_err_and c.from_residual-in_err-check_lines.result c.from_residual-in_err-check_lines.ensures.1 in
    let finds = g.M.PatternMatcher.finds in
    let checker = c.args.checker.now in
    let texts = c.args.texts.now in
    let contents = g.K.ByteSink.contents in
    let lines : views c.as_slice.result.now ≡ lines_of c.args.listed.now = ap views c.as_slice.ensures.value ∙ c.in_ok-lines.ensures in
    let pairs : map pair_bytes c.as_slice-2.result.now ≡ zip (views texts) (lines_of c.args.listed.now) =
    ap (map pair_bytes) c.as_slice-2.ensures.value ∙ c.in_ok-pairs.ensures ∙ ap (zip (views texts)) lines in
    rw (e.1, e.2) (λ p r of.
    breaks_at finds checker p r of _ _ _
    (subst (λ ls. BreaksChecks (IsPairCheckedBy finds checker) ls (contents c.args.writer.now) (contents c.check_lines.new.writer)) pairs c.in_err-check_lines.ensures.breaks))

pub returns-clause-ok : goal.returns-clause-ok
returns-clause-ok g c = λ p r of.
    let finds = g.M.PatternMatcher.finds in
    let checker = c.args.checker.now in
    let texts = c.args.texts.now in
    let contents = g.K.ByteSink.contents in
    let report = c.in_ok-check_lines.field-0 in
    let lines : views c.as_slice.result.now ≡ lines_of c.args.listed.now = ap views c.as_slice.ensures.value ∙ c.in_ok-lines.ensures in
    let pairs : map pair_bytes c.as_slice-2.result.now ≡ zip (views texts) (lines_of c.args.listed.now) =
    ap (map pair_bytes) c.as_slice-2.ensures.value ∙ c.in_ok-pairs.ensures ∙ ap (zip (views texts)) lines in
    let same : length texts ≡ length c.in_ok-lines.lines.items = omega (arith, c.if-texts-len.false, c.len.ensures) in
    record {
      as_many = length-map texts (λ s. s.now) ∙ same ∙ sym (length-map c.in_ok-lines.lines.items (λ s. s.now)) ∙ ap length c.in_ok-lines.ensures;
      written = writes_at finds checker p r of _ _ _ report
          (subst (λ ls. WritesChecks (IsPairCheckedBy finds checker) ls (contents c.args.writer.now) (contents c.check_lines.new.writer) report) pairs c.in_ok-check_lines.ensures.ok);
    }
