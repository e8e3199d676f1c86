use Rattle.std.proofs.Common.{◌≡◌, ap, sym, ◌∙◌, lit<, false}
use Rattle.std.proofs.lemmas.Str.Pattern.{contains_char}
use Rattle.uri_grammar.specs.Texts.{has, is_empty}
use Rattle.uri_grammar.specs.Parts.{scheme_of}
use Rattle.uri_grammar.proofs.Cuts.{cut_split, has_none, filled, scheme_named}
use Rattle.uri_grammar.proofs.components.split_scheme.Goals as goal

pub returns-else-contains-clause-scheme : goal.returns-else-contains-clause-scheme
returns-else-contains-clause-scheme c =
    let text = c.args.text.now in
    let e = cut_split 58 text c.in-Some.before c.in-Some.after (lit< tt) c.in-Some.ensures.cases in
    let none : has 47 c.in-Some.before.now ≡ false = has_none 47 c.in-Some.before.now (λ k h here. let t = (contains_char 47 c.in-Some.before.now c.contains.result c.contains.ensures.cases (lit< tt)).1 k h here in cc) in
    let some : is_empty c.in-Some.before.now ≡ false = filled c.in-Some.before.now c.if-is_empty.ensures in
    sym (ap (λ x. (scheme_of x text).0) e ∙ ap (λ x. x.0) (scheme_named c.in-Some.before.now c.in-Some.after.now text some none))

pub returns-else-contains-clause-rest : goal.returns-else-contains-clause-rest
returns-else-contains-clause-rest c =
    let text = c.args.text.now in
    let e = cut_split 58 text c.in-Some.before c.in-Some.after (lit< tt) c.in-Some.ensures.cases in
    let none : has 47 c.in-Some.before.now ≡ false = has_none 47 c.in-Some.before.now (λ k h here. let t = (contains_char 47 c.in-Some.before.now c.contains.result c.contains.ensures.cases (lit< tt)).1 k h here in cc) in
    let some : is_empty c.in-Some.before.now ≡ false = filled c.in-Some.before.now c.if-is_empty.ensures in
    sym (ap (λ x. (scheme_of x text).1) e ∙ ap (λ x. x.1) (scheme_named c.in-Some.before.now c.in-Some.after.now text some none))
