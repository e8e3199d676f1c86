use Rattle.std.proofs.Common.{rules, tests, not, ap}
use Rattle.std.proofs.lemmas.Iterator.{YieldsList-from_chars}
use Rattle.std.proofs.lemmas.Iterator.Search.{any_from_yields_List}
use Rattle.json_values.specs.Texts.{is_ecma_space}
use Rattle.value_checks.proofs.texts.has_no_space.Goals as goal

pub returns : goal.returns
returns c =
    ap not (any_from_yields_List is_ecma_space _ _ c.any.result c.any.ensures.ran
    (YieldsList-from_chars c.args.text.now c.utf8.text c.chars.ensures.rest)
    (λ x b q k. search (rules, tests)))
