use Rattle.std.proofs.Common.{rules, ap, ◌∙◌}
use Rattle.uri_grammar.specs.Parts.{split}
use Rattle.uri_grammar.specs.Lent.{parts_of}
use Rattle.uri_grammar.proofs.Back.{back}
use Rattle.uri_grammar.proofs.components.write_components.Goals as goal

pub returns-clause-text : goal.returns-clause-text
returns-clause-text c = search rules

pub returns-clause-back : goal.returns-clause-back
returns-clause-back c = λ h. ap split (returns-clause-text c) ∙ back (parts_of c.args.parts.now) h
