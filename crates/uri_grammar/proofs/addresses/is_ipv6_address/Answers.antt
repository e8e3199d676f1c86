use Rattle.std.proofs.Common.{sym, ◌∙◌}
use Rattle.uri_grammar.specs.Addresses.{cut_at_colons, is_ipv6_address}
use Rattle.uri_grammar.proofs.Forms.{forms}
use Rattle.uri_grammar.proofs.addresses.is_ipv6_address.Goals as goal

pub returns : goal.returns
unfolding is_ipv6_address
returns c = c.counts.ensures ∙ sym (forms (cut_at_colons c.args.text.now))
