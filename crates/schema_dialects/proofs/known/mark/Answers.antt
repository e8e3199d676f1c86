use Rattle.std.proofs.Common.{◌∙◌, ◌||◌, true, ap, arith, refl, sym}
use Rattle.std.specs.List.{list_any}
use Rattle.schema_dialects.specs.Named.{known_of}
use Rattle.schema_dialects.specs.Sets.{required}
use Rattle.schema_dialects.proofs.Listed.{one_marked}
use Rattle.schema_dialects.proofs.known.mark.Goals as goal

pub returns-in-FormatAnnotation : goal.returns-in-FormatAnnotation
returns-in-FormatAnnotation c = λ test.
    one_marked test 6 c.args.known.now (record c.args.known.now { format_annotation = true }) (omega arith) refl ∙ ap (λ v. test (known_of v) || list_any test (required c.args.known.now)) (sym c.in-FormatAnnotation.is)

pub returns-in-FormatAssertion : goal.returns-in-FormatAssertion
returns-in-FormatAssertion c = λ test.
    one_marked test 7 c.args.known.now (record c.args.known.now { format_assertion = true }) (omega arith) refl ∙ ap (λ v. test (known_of v) || list_any test (required c.args.known.now)) (sym c.in-FormatAssertion.is)

pub returns-in-Content : goal.returns-in-Content
returns-in-Content c = λ test.
    one_marked test 8 c.args.known.now (record c.args.known.now { content = true }) (omega arith) refl ∙ ap (λ v. test (known_of v) || list_any test (required c.args.known.now)) (sym c.in-Content.is)
