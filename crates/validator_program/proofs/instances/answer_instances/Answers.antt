use Rattle.std.proofs.Common.{◌≡◌, ◌==◌, ◌∙◌, [], ap, sym, subst, refl, length, inr}
use Rattle.std.proofs.lemmas.Bool.{false≢true, eqb-true}
use Rattle.clap.specs.Walk.{texts}
use Rattle.line_cuts.specs.Cuts.{bytes_of}
use Rattle.validator_program.specs.Instances.{AreInstances}
use Rattle.validator_program.proofs.NamedFiles.{of_lines, of_files, stops_at_files, none_named}
use Rattle.validator_program.proofs.instances.answer_instances.Goals as goal

pub returns-in-Ok-clause-ok : goal.returns-in-Ok-clause-ok
returns-in-Ok-clause-ok g c = λ p r made.
    let names = c.args.names.now in
    let none : names ≡ [] = none_named names (eqb-true _ _ (sym c.is_empty.ensures ∙ c.if-is_empty.true)) in
    of_lines c.args.form p r (g.F.SchemaFiles.held c.args.files.now) _ _ _ _ names c.in-Ok.done.report none (c.in-Ok.ensures.ok p r made)

pub returns-in-Ok-answer_in-clause-ok : goal.returns-in-Ok-answer_in-clause-ok
returns-in-Ok-answer_in-clause-ok g c = λ p r made.
    let names = c.args.names.now in
    let held = g.F.SchemaFiles.held c.args.files.now in
    let some : names ≡ [] → ⊥ = λ h. false≢true (sym c.if-is_empty.false ∙ c.is_empty.ensures ∙ ap (λ n. n == 0) (ap length h)) in
    of_files c.args.form p r held _ _ _ _ names c.in-Ok-answer_in.done.report some record {
      instances = bytes_of c.as_slice.result.now;
      hold = subst (λ is. AreInstances held (texts names) (bytes_of is)) (sym c.as_slice.ensures.value) c.in_ok-instances.ensures;
      unread = refl;
      answered = c.in-Ok-answer_in.ensures.ok p r made;
    }

pub returns-clause-err : goal.returns-clause-err
returns-clause-err g c =
    let names = c.args.names.now in
    let held = g.F.SchemaFiles.held c.args.files.now in
    let some : names ≡ [] → ⊥ = λ h. false≢true (sym c.if-is_empty.false ∙ c.is_empty.ensures ∙ ap (λ n. n == 0) (ap length h)) in
    inr (
      refl,
      (
        c.in-Err-answer_in.error,
        λ p r made.
            stops_at_files c.args.form p r held _ _ _ _ names c.in-Err-answer_in.error some record {
              instances = bytes_of c.as_slice.result.now;
              hold = subst (λ is. AreInstances held (texts names) (bytes_of is)) (sym c.as_slice.ensures.value) c.in_ok-instances.ensures;
              unread = refl;
              stopped = c.in-Err-answer_in.ensures.breaks p r made;
            },
      ),
    )
