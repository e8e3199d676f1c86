use Rattle.std.proofs.Common.{◌∷◌, Some, None, ap, ◌∙◌, lit<}
use Rattle.std.proofs.lemmas.Str.Pattern.{strip_prefix_char}
use Rattle.serde_json.specs.Find.{unescape}
use Rattle.json_pointers.proofs.EscapeLemmas.{unescape_slash, unescape_zero, unescape_tilde}
use Rattle.json_pointers.proofs.escapes.escaped_character.Goals as goal

pub returns-in-Some-clause-value : goal.returns-in-Some-clause-value
returns-in-Some-clause-value c =
    let text = strip_prefix_char 49 c.args.after.now (Some c.in-Some.rest) c.in-Some.ensures.cases (lit< tt) in
    ap (λ t. unescape (126 ∷ t)) text ∙ unescape_slash c.in-Some.rest.now

pub returns-in-Some-strip_prefix-clause-value : goal.returns-in-Some-strip_prefix-clause-value
returns-in-Some-strip_prefix-clause-value c =
    let text = strip_prefix_char 48 c.args.after.now (Some c.in-Some-strip_prefix.rest) c.in-Some-strip_prefix.ensures.cases (lit< tt) in
    ap (λ t. unescape (126 ∷ t)) text ∙ unescape_zero c.in-Some-strip_prefix.rest.now

pub returns-clause-value : goal.returns-clause-value
returns-clause-value c =
    unescape_tilde c.args.after.now
    (strip_prefix_char 49 c.args.after.now None c.in_default.ensures.cases (lit< tt))
    (strip_prefix_char 48 c.args.after.now None c.in_default-strip_prefix.ensures.cases (lit< tt))
