use Rattle.std.proofs.Common.{◌∙◌, sym, ap, subst}
use Rattle.regex.specs.Patterns.{default_config}
use Rattle.regex.specs.Failures.{IsRightKind}
use Rattle.regex_patterns.specs.Searches.{is_regex}
use Rattle.regex_patterns.proofs.Searched.{is_read, is_searched, is_not_read}
use Rattle.regex_patterns.proofs.RegexMakerPatternMaker.make.Goals as goal

pub invariant_of-result : goal.invariant_of-result
invariant_of-result c = record { means = is_searched c.in-Ok.regex c.in-Ok.ensures.config c.in-Ok.ensures.read }

pub returns-in-Ok-clause-made : goal.returns-in-Ok-clause-made
returns-in-Ok-clause-made c = ap is_regex (sym c.in-Ok.ensures.source) ∙ is_read c.in-Ok.regex c.in-Ok.ensures.config c.in-Ok.ensures.read

pub returns-in-Err-Syntax-clause-refused : goal.returns-in-Err-Syntax-clause-refused
returns-in-Err-Syntax-clause-refused c = λ _.
    let e = c.in-Err-Syntax.field-0-0 in
    let is = c.in-Err-Syntax.field-0-is in
    is_not_read c.args.pattern.now e.kind (c.in-Err-Syntax.ensures.by_grammar e is) (subst (IsRightKind default_config c.args.pattern.now) is c.in-Err-Syntax.ensures.kind)
