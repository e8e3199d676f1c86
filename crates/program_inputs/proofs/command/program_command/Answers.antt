use Rattle.std.proofs.Common.{◌∙◌, ap, ap₂, refl}
use Rattle.std.proofs.lemmas.Result.{IfOk-weaker}
use Rattle.clap.specs.Words.{Rule, with_rule}
use Rattle.program_inputs.proofs.Chain.{has_schema}
use Rattle.program_inputs.proofs.command.program_command.Goals as goal

pub returns-clause-app : goal.returns-clause-app
returns-clause-app c =
    IfOk-weaker c.arg-9.result _ _ (λ m h. h.shape c.check.ensures.fits.1
    ∙ ap₂ with_rule (c.in_ok-arg-8.ensures.shape c.instance.ensures.fits.1
    ∙ ap₂ with_rule (c.in_ok-arg-7.ensures.shape c.output.ensures.fits.1
    ∙ ap₂ with_rule (c.in_ok-arg-6.ensures.shape c.ref_siblings.ensures.fits.1
    ∙ ap₂ with_rule (c.in_ok-arg-5.ensures.shape c.meta.ensures.fits.1
    ∙ ap₂ with_rule (c.in_ok-arg-4.ensures.shape c.draft.ensures.fits.1
    ∙ ap₂ with_rule (c.in_ok-arg-3.ensures.shape c.base.ensures.fits.1
    ∙ ap₂ with_rule (c.in_ok-arg-2.ensures.shape c.files.ensures.fits.1
    ∙ ap₂ with_rule (c.in_ok-arg.ensures.shape c.schema.ensures.fits.1 ∙ ap₂ with_rule c.bare.ensures.app c.schema.ensures.rule) c.files.ensures.rule) c.base.ensures.rule) c.draft.ensures.rule) c.meta.ensures.rule)
    c.ref_siblings.ensures.rule) c.output.ensures.rule) c.instance.ensures.rule) c.check.ensures.rule)
    c.arg-9.ensures

pub returns-clause-schema : goal.returns-clause-schema
returns-clause-schema c =
    let id = λ (r : Rule). r.id in
    IfOk-weaker c.arg-9.result _ _ (λ m h. has_schema c.schema.result c.files.result c.base.result c.draft.result c.meta.result c.ref_siblings.result c.output.result c.instance.result c.check.result
    c.bare.result m (
      c.in_ok-arg.field-0,
      c.in_ok-arg.ensures,
      (
        c.in_ok-arg-2.field-0,
        c.in_ok-arg-2.ensures,
        (
          c.in_ok-arg-3.field-0,
          c.in_ok-arg-3.ensures,
          (
            c.in_ok-arg-4.field-0,
            c.in_ok-arg-4.ensures,
            (
              c.in_ok-arg-5.field-0,
              c.in_ok-arg-5.ensures,
              (
                c.in_ok-arg-6.field-0,
                c.in_ok-arg-6.ensures,
                (c.in_ok-arg-7.field-0, c.in_ok-arg-7.ensures, (c.in_ok-arg-8.field-0, c.in_ok-arg-8.ensures, (m, h, refl))),
              ),
            ),
          ),
        ),
      ),
    )
    c.bare.ensures.empty
    (record {
      first = c.schema.ensures.fits;
      second = c.files.ensures.fits;
      third = c.base.ensures.fits;
      fourth = c.draft.ensures.fits;
      fifth = c.meta.ensures.fits;
      sixth = c.ref_siblings.ensures.fits;
      seventh = c.output.ensures.fits;
      eighth = c.instance.ensures.fits;
      ninth = c.check.ensures.fits;
    })
    c.schema.ensures.value
    (record {
      first = ap id c.schema.ensures.rule;
      second = ap id c.files.ensures.rule;
      third = ap id c.base.ensures.rule;
      fourth = ap id c.draft.ensures.rule;
      fifth = ap id c.meta.ensures.rule;
      sixth = ap id c.ref_siblings.ensures.rule;
      seventh = ap id c.output.ensures.rule;
      eighth = ap id c.instance.ensures.rule;
      ninth = ap id c.check.ensures.rule;
    }))
    c.arg-9.ensures
