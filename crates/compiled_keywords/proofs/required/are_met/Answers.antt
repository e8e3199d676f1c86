use Rattle.std.proofs.Common.{◌≡◌, ◌∙◌, length, map, string_bytes, bytes_eq, arith, sym, ap, ap₂}
use Rattle.serde_json.specs.View.{members_view}
use Rattle.json_values.specs.Rising.{are_rising}
use Rattle.json_values.proofs.Walked.{entries_rise}
use Rattle.compiled_keywords.proofs.RequiredLemmas.{are_there, too_few, entries_left_rise, names_left_rise, name_met, name_unmet}
use Rattle.compiled_keywords.proofs.required.are_met.Goals as goal

pub returns-then-len-names : goal.returns-then-len-names
returns-then-len-names c =
    let all = c.args.members.now.entries in
    sym (too_few all c.args.names.now (entries_rise all c.len.ensures.ordered) c.requires (omega (arith, c.len.ensures.len)))

pub loop-name-init : goal.loop-name-init
loop-name-init c =
    let all = c.args.members.now.entries in
    let given : c.into_iter-name-iterator.result ≡ all = c.into_iter-name-iterator.ensures.into_iter_gives ∙ c.iter-name-items.ensures.rest in
    let long : length c.into_iter-name-iterator.result ≡ length all = ap length given in
    record {
      rising = ap (λ es. are_rising (members_view es)) given ∙ entries_rise all c.iter-name-items.ensures.ordered;
      rise = c.requires;
      count = omega arith;
      same = ap (λ es. are_there (members_view es) (map string_bytes c.args.names.now)) (sym given);
    }

pub loop-name-preserved-then-eq : goal.loop-name-preserved-then-eq
loop-name-preserved-then-eq c =
    let l = c.loop-name in
    let here = c.in-Some.ensures.steps in
    let next = c.in-Some-split_first.ensures.cases.0 in
    let is = ap₂ bytes_eq (sym c.as_str.ensures.value) (sym c.as_str-in-loop-name.ensures.value) ∙ sym c.eq.ensures ∙ c.if-eq.true in
    let fewer = ap length here in
    let names_fewer = ap length next in
    record {
      rising = entries_left_rise _ _ _ _ _ _ here next l.invariant.rising l.invariant.rise;
      rise = names_left_rise _ _ _ _ _ _ here next l.invariant.rising l.invariant.rise;
      count = omega arith;
      same = l.invariant.same ∙ name_met _ _ _ _ _ _ here next l.invariant.rising l.invariant.rise is;
    }

pub returns-then-others-eq0 : goal.returns-then-others-eq0
returns-then-others-eq0 c =
    let l = c.loop-name in
    let here = c.in-Some.ensures.steps in
    let next = c.in-Some-split_first.ensures.cases.0 in
    let other = ap₂ bytes_eq (sym c.as_str.ensures.value) (sym c.as_str-in-loop-name.ensures.value) ∙ sym c.eq.ensures ∙ c.if-eq.false in
    let fewer = ap length here in
    let rising = entries_left_rise _ _ _ _ _ _ here next l.invariant.rising l.invariant.rise in
    sym (l.invariant.same ∙ name_unmet _ _ _ _ _ _ here next l.invariant.rising l.invariant.rise other
    ∙ too_few c.next.new.self l.left.now rising l.invariant.rise (omega arith))

pub loop-name-preserved : goal.loop-name-preserved
loop-name-preserved c =
    let l = c.loop-name in
    let here = c.in-Some.ensures.steps in
    let next = c.in-Some-split_first.ensures.cases.0 in
    let other = ap₂ bytes_eq (sym c.as_str.ensures.value) (sym c.as_str-in-loop-name.ensures.value) ∙ sym c.eq.ensures ∙ c.if-eq.false in
    let fewer = ap length here in
    record {
      rising = entries_left_rise _ _ _ _ _ _ here next l.invariant.rising l.invariant.rise;
      rise = l.invariant.rise;
      count = omega arith;
      same = l.invariant.same ∙ name_unmet _ _ _ _ _ _ here next l.invariant.rising l.invariant.rise other;
    }
