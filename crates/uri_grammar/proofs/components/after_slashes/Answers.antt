use Rattle.std.proofs.Common.{ap, sym, ◌∙◌, Some, None, lit<}
use Rattle.std.proofs.lemmas.Str.Pattern.{strip_prefix_char}
use Rattle.uri_grammar.specs.Parts.{after_slashes}
use Rattle.uri_grammar.proofs.Cuts.{slashes_none, slashes_two}
use Rattle.uri_grammar.proofs.components.after_slashes.Goals as goal

pub returns-in-Some : goal.returns-in-Some
returns-in-Some c =
    let one = strip_prefix_char 47 c.args.text.now (Some c.in-Some.rest) c.in-Some.ensures.cases (lit< tt) in
    let two = strip_prefix_char 47 c.in-Some.rest.now c.strip_prefix-in-Some.result c.strip_prefix-in-Some.ensures.cases (lit< tt) in
    slashes_two c.in-Some.rest.now c.strip_prefix-in-Some.result two ∙ ap after_slashes (sym one)

pub returns-in-None : goal.returns-in-None
returns-in-None c = sym (slashes_none c.args.text.now (strip_prefix_char 47 c.args.text.now None c.in-None.ensures.cases (lit< tt)))
