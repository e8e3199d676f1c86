use Rattle.std.proofs.Common.{◌∙◌, ap, subst}
use Rattle.std.proofs.lemmas.Result.{IfOk-weaker}
use Rattle.line_cuts.specs.Cuts.{lines_of}
use Rattle.answer_checks.specs.Checks.{views}
use Rattle.answer_checks.specs.Listing.{ChecksTexts}
use Rattle.answer_checks.proofs.given.check_source.Goals as goal

pub returns-clause-ok : goal.returns-clause-ok
returns-clause-ok g c =
    let contents = g.K.ByteSink.contents in
    let same = ap views c.as_slice-2.ensures.value ∙ c.in_ok-texts.ensures ∙ ap lines_of c.as_slice.ensures.value in
    IfOk-weaker c.check_texts.result _ _ (λ report h p r of. record {
      input = c.in_ok-input.input.items;
      read = c.in_ok-input.ensures.read;
      ended = c.in_ok-input.ensures.end;
      checked = subst (λ ts. ChecksTexts p r ts c.args.listed.now (contents c.args.writer.now) (contents c.check_texts.new.writer) report) same (h p r of);
    })
    c.check_texts.ensures.ok
