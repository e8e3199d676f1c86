use Rattle.std.proofs.Common.{◌∙◌, arith, rules, None, Some, lit<}
use Rattle.std.proofs.lemmas.Str.Pattern.{strip_prefix_char}
use Rattle.std.proofs.lemmas.Bool.Decides.{nat_tests}
use Rattle.serde_json.specs.View.{view}
use Rattle.json_pointers.proofs.PointerLemmas.{locate_other, locate_slash, follow_on, follow_last, kept_error}
use Rattle.json_pointers.proofs.pointers.locate.Goals as goal

pub returns-in_default : goal.returns-in_default
returns-in_default c =
    locate_other c.args.text.now (view c.args.document.now) (grind (arith, nat_tests, c.is_empty.ensures)) (strip_prefix_char 47 c.args.text.now None c.in_default.ensures.cases (lit< tt))

pub loop-token-preserved : goal.loop-token-preserved
loop-token-preserved c = record {
  text = search rules;
  left = follow_on (view c.loop-token.value.now) c.loop-token.rest.now c.in-Some-split_once.token c.in-Some-split_once.after c.in-Some-split_once.ensures.cases _ c.in_ok-value.ensures ∙ c.loop-token.invariant.left;
}

pub returns-in_err-value : goal.returns-in_err-value
returns-in_err-value c =
    let text = strip_prefix_char 47 c.args.text.now (Some c.in-Some.tokens) c.in-Some.ensures.cases (lit< tt) in
    kept_error c.from_residual.result c.in_err-value.field-0.0 c.from_residual.ensures.1
    ∙ follow_on (view c.loop-token.value.now) c.loop-token.rest.now c.in-Some-split_once.token c.in-Some-split_once.after c.in-Some-split_once.ensures.cases _ c.in_err-value.ensures
    ∙ c.loop-token.invariant.left ∙ locate_slash c.args.text.now c.in-Some.tokens.now (view c.args.document.now) text

pub returns : goal.returns
returns c =
    let text = strip_prefix_char 47 c.args.text.now (Some c.in-Some.tokens) c.in-Some.ensures.cases (lit< tt) in
    c.step-2.ensures ∙ follow_last (view c.loop-token.value.now) c.loop-token.rest.now c.in_default-split_once.ensures.cases ∙ c.loop-token.invariant.left ∙ locate_slash c.args.text.now c.in-Some.tokens.now (view c.args.document.now) text
