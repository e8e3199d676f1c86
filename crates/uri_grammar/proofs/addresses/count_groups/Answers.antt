use Rattle.std.proofs.Common.{rules, ◌≡◌, ◌+◌, ap, sym, ◌∙◌, lit<, arith, option_map, None}
use Rattle.uri_grammar.specs.Texts.{pieces}
use Rattle.uri_grammar.specs.Groups.{groups}
use Rattle.uri_grammar.proofs.Groups.{pieces_some, pieces_none, pieces_filled, groups_more, groups_stop, counted, split_length, h16_filled}
use Rattle.uri_grammar.proofs.addresses.count_groups.Goals as goal

pub returns-then-not-is_h16 : goal.returns-then-not-is_h16
returns-then-not-is_h16 c =
    let after = pieces 58 c.in-Some.after.now in
    let p = pieces_some 58 c.loop-group.rest.now c.in-Some.group c.in-Some.after (lit< tt) c.in-Some.ensures.cases in
    let e : groups c.args.ends (pieces 58 c.loop-group.rest.now) ≡ None =
    ap (groups c.args.ends) p ∙ groups_stop c.args.ends c.in-Some.group.now after (pieces_filled 58 c.in-Some.after.now) (sym c.is_h16.ensures ∙ c.if-not-is_h16.true) in
    sym (ap (option_map (λ n. c.loop-group.count + n)) e) ∙ c.loop-group.invariant.left

pub loop-group-preserved : goal.loop-group-preserved
loop-group-preserved c =
    let after = pieces 58 c.in-Some.after.now in
    let p = pieces_some 58 c.loop-group.rest.now c.in-Some.group c.in-Some.after (lit< tt) c.in-Some.ensures.cases in
    let n = split_length 58 c.loop-group.rest.now c.in-Some.group c.in-Some.after (lit< tt) c.in-Some.ensures.cases in
    let holds = sym c.is_h16.ensures ∙ c.if-not-is_h16.false in
    record {
      text = search rules;
      small = omega (arith, n, h16_filled c.in-Some.group.now holds, c.loop-group.invariant.small);
      left = sym (counted c.loop-group.count (groups c.args.ends after))
          ∙ sym (ap (λ o. option_map (λ n. c.loop-group.count + n) o) (ap (groups c.args.ends) p ∙ groups_more c.args.ends c.in-Some.group.now after (pieces_filled 58 c.in-Some.after.now) holds))
          ∙ c.loop-group.invariant.left;
    }

pub returns-in-Some-count_last : goal.returns-in-Some-count_last
returns-in-Some-count_last c =
    let p = pieces_none 58 c.loop-group.rest.now (lit< tt) c.in_default.ensures.cases in
    ap (option_map (λ n. c.loop-group.count + n)) (c.in-Some-count_last.ensures.value ∙ sym (ap (groups c.args.ends) p)) ∙ c.loop-group.invariant.left

pub returns-in-None : goal.returns-in-None
returns-in-None c =
    let p = pieces_none 58 c.loop-group.rest.now (lit< tt) c.in_default.ensures.cases in
    ap (option_map (λ n. c.loop-group.count + n)) (c.in-None.ensures.value ∙ sym (ap (groups c.args.ends) p)) ∙ c.loop-group.invariant.left
