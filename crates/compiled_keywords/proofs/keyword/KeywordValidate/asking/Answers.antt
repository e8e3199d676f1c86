use Rattle.std.proofs.Common.{sym, subst}
use Rattle.schema_meaning.specs.Keywords.{rule}
use Rattle.schema_engine.specs.Asking.{AsksSo}
use Rattle.schema_engine.specs.Places.{value_at}
use Rattle.schema_engine.specs.declared.asking.Asking.TheVariants as asking
use Rattle.compiled_keywords.specs.Shapes.{shape_of}
use Rattle.compiled_keywords.specs.declared.keyword.Keyword.{Keyword}
use Rattle.compiled_keywords.proofs.AskLemmas.{target_so, nothing_so}
use Rattle.compiled_keywords.proofs.keyword.KeywordValidate.asking.Goals as goal

pub returns-in-Applicator : goal.returns-in-Applicator
returns-in-Applicator c = λ matches.
    subst (λ (k : Keyword). AsksSo c.asking_of.result (rule matches (value_at c.args.place) (shape_of k))) (sym c.in-Applicator.is) (c.asking_of.ensures matches)

pub returns-in-Reference : goal.returns-in-Reference
returns-in-Reference c = λ matches.
    subst (λ (k : Keyword). AsksSo (asking.Target c.in-Reference.node) (rule matches (value_at c.args.place) (shape_of k))) (sym c.in-Reference.is)
    (target_so matches (value_at c.args.place) _ c.in-Reference.node)

pub returns-in_default : goal.returns-in_default
returns-in_default c = λ matches. nothing_so matches (value_at c.args.place) c.args.self.now c.in_default.not-Applicator c.in_default.not-Reference
