use Rattle.std.proofs.Common.{◌++◌, ap, sym, ◌∙◌, arith, true≢false}
use Rattle.std.proofs.lemmas.Str.Pattern.{contains_char}
use Rattle.serde_json.specs.Find.{unescape}
use Rattle.serde_json.proofs.Paths.{unescape_plain}
use Rattle.json_pointers.proofs.EscapeLemmas.{unescape-in_turn, unescape-escape}
use Rattle.json_pointers.proofs.escapes.unescape_segment.Goals as goal

pub returns-then-not-contains-clause-value : goal.returns-then-not-contains-clause-value
returns-then-not-contains-clause-value c =
    let found = contains_char 126 c.args.segment.now c.contains.result c.contains.ensures.cases (omega arith) in
    sym (unescape_plain c.args.segment.now (λ i less e. true≢false (sym (found.1 i less e) ∙ c.if-not-contains.true)))

pub returns-then-not-contains-clause-in_turn : goal.returns-then-not-contains-clause-in_turn
returns-then-not-contains-clause-in_turn c =
    let found = contains_char 126 c.args.segment.now c.contains.result c.contains.ensures.cases (omega arith) in
    sym (unescape_plain c.args.segment.now (λ i less e. true≢false (sym (found.1 i less e) ∙ c.if-not-contains.true)))
    ∙ unescape-in_turn c.args.segment.now

pub returns-then-not-contains-clause-undoes : goal.returns-then-not-contains-clause-undoes
returns-then-not-contains-clause-undoes c = λ t e.
    let found = contains_char 126 c.args.segment.now c.contains.result c.contains.ensures.cases (omega arith) in
    sym (unescape_plain c.args.segment.now (λ i less f. true≢false (sym (found.1 i less f) ∙ c.if-not-contains.true)))
    ∙ ap unescape e ∙ unescape-escape t

pub returns-clause-in_turn : goal.returns-clause-in_turn
returns-clause-in_turn c = c.in_ok-push_unescaped.ensures ∙ ap (λ b. b ++ unescape c.args.segment.now) c.in_ok-text.ensures.bytes ∙ unescape-in_turn c.args.segment.now

pub returns-clause-undoes : goal.returns-clause-undoes
returns-clause-undoes c = λ t e.
    c.in_ok-push_unescaped.ensures ∙ ap (λ b. b ++ unescape c.args.segment.now) c.in_ok-text.ensures.bytes ∙ ap unescape e ∙ unescape-escape t
