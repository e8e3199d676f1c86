use Rattle.std.proofs.Common.{rules, lit<}
use borrow.Author.Tests.{tests}
use Rattle.std.proofs.lemmas.Iterator.Search.{all_from_yields_List}
use Rattle.std.proofs.lemmas.Iterator.Splits.{YieldsList-from_str_split}
use Rattle.uri_grammar.specs.Addresses.{is_dec_octet}
use Rattle.uri_grammar.proofs.addresses.are_dec_octets.Goals as goal

pub returns : goal.returns
returns c = all_from_yields_List is_dec_octet _ _ _ c.all.ensures.ran (YieldsList-from_str_split 46 c.args.text.now (lit< tt) c.split.ensures.text c.split.ensures.has_more c.split.ensures.pattern) (λ x b q k. search (rules, tests))
