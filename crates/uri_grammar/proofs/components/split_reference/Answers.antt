use Rattle.std.proofs.Common.{ap, ◌∙◌}
use Rattle.uri_grammar.specs.Parts.{split, recompose}
use Rattle.uri_grammar.specs.Grammar.{stands_behind}
use Rattle.uri_grammar.proofs.Whole.{whole, split_placed}
use Rattle.uri_grammar.proofs.components.split_reference.Goals as goal

pub returns-clause-parts : goal.returns-clause-parts
unfolding split
returns-clause-parts c = cc

pub returns-clause-whole : goal.returns-clause-whole
returns-clause-whole c = ap recompose (returns-clause-parts c) ∙ whole c.args.text.now

pub returns-clause-placed : goal.returns-clause-placed
returns-clause-placed c = ap (λ p. stands_behind p.authority p.path) (returns-clause-parts c) ∙ split_placed c.args.text.now
