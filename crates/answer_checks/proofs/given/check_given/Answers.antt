use Rattle.std.proofs.Common.{◌≡◌, ◌==◌, ◌∙◌, [], ap, sym, length}
use Rattle.std.proofs.lemmas.Bool.{false≢true}
use Rattle.std.proofs.lemmas.List.{length-map}
use Rattle.std.proofs.lemmas.Result.{IfOk-weaker}
use Rattle.line_cuts.specs.Cuts.{bytes_of}
use Rattle.answer_checks.proofs.Pairing.{given_checks}
use Rattle.answer_checks.proofs.given.check_given.Goals as goal

pub returns-else-is_empty-clause-ok : goal.returns-else-is_empty-clause-ok
returns-else-is_empty-clause-ok g c =
    let texts = c.args.texts.now in
    let some : bytes_of texts ≡ [] → ⊥ = λ h. false≢true (sym c.if-is_empty.false ∙ c.is_empty.ensures ∙ ap (λ n. n == 0) (sym (length-map texts (λ v. v.items)) ∙ ap length h)) in
    let from = g.S.ByteSource.remaining c.args.reader.now in
    let contents = g.K.ByteSink.contents in
    IfOk-weaker c.check_each.result _ _ (λ report h p r of. given_checks p r c.args.listed.now from (contents c.args.writer.now) (contents c.check_each.new.writer) (bytes_of texts) report some (h p r of)) c.check_each.ensures.ok
