use Rattle.std.proofs.Common.{ap, ◌∙◌}
use Rattle.uri_grammar.specs.Grammar.{written_authority}
use Rattle.uri_grammar.proofs.Authorities.{authority_whole}
use Rattle.uri_grammar.proofs.grammar.split_authority_parts.Goals as goal

pub returns-clause-parts : goal.returns-clause-parts
returns-clause-parts c = cc

pub returns-clause-whole : goal.returns-clause-whole
returns-clause-whole c = ap written_authority (returns-clause-parts c) ∙ authority_whole c.args.text.now
