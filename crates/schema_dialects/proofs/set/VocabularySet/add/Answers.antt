use Rattle.std.proofs.Common.{◌∙◌, ◌||◌, true, ap, arith, refl, sym}
use Rattle.std.specs.List.{list_any}
use Rattle.schema_dialects.specs.Named.{vocabulary_of}
use Rattle.schema_dialects.specs.Sets.{listed}
use Rattle.schema_dialects.proofs.Listed.{flag_added, custom_added}
use Rattle.schema_dialects.proofs.set.VocabularySet.add.Goals as goal

pub returns-in-FormatAnnotation-clause-ok : goal.returns-in-FormatAnnotation-clause-ok
returns-in-FormatAnnotation-clause-ok c = λ test.
    flag_added test 6 c.args.self.now (record c.args.self.now { known = record c.args.self.now.known { format_annotation = true } }) (omega arith) refl refl ∙ ap (λ v. test (vocabulary_of v) || list_any test (listed c.args.self.now)) (sym c.in-FormatAnnotation.is)

pub returns-in-FormatAssertion-clause-ok : goal.returns-in-FormatAssertion-clause-ok
returns-in-FormatAssertion-clause-ok c = λ test.
    flag_added test 7 c.args.self.now (record c.args.self.now { known = record c.args.self.now.known { format_assertion = true } }) (omega arith) refl refl ∙ ap (λ v. test (vocabulary_of v) || list_any test (listed c.args.self.now)) (sym c.in-FormatAssertion.is)

pub returns-in-Content-clause-ok : goal.returns-in-Content-clause-ok
returns-in-Content-clause-ok c = λ test.
    flag_added test 8 c.args.self.now (record c.args.self.now { known = record c.args.self.now.known { content = true } }) (omega arith) refl refl ∙ ap (λ v. test (vocabulary_of v) || list_any test (listed c.args.self.now)) (sym c.in-Content.is)

pub returns-in_ok-insert-in-Custom-clause-ok : goal.returns-in_ok-insert-in-Custom-clause-ok
returns-in_ok-insert-in-Custom-clause-ok c = λ test.
    custom_added test c.in-Custom.uri c.args.self.now (record c.args.self.now { custom = c.insert.new.self }) refl c.in_ok-insert-in-Custom.ensures.keys
    ∙ ap (λ v. test (vocabulary_of v) || list_any test (listed c.args.self.now)) (sym c.in-Custom.is)
