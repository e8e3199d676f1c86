use Rattle.std.proofs.Common.{rules, ◌≡◌, ◌++◌, [], string_bytes, ap, sym, ◌∙◌}
use Rattle.uri_grammar.specs.Texts.{pieces}
use Rattle.uri_references.specs.Dots.{remove_dots, without_dots, after_segments}
use Rattle.uri_references.proofs.Segments.{segments_some, segments_none, without_kept, without_gone}
use Rattle.uri_references.proofs.dots.remove_dot_segments.Goals as goal

pub loop-segment-preserved : goal.loop-segment-preserved
loop-segment-preserved c = record {
  text = search rules;
  fresh = c.loop-segment.invariant.fresh;
  left = sym (without_gone c.in-Some.segment.now (pieces 47 c.in-Some.after.now) (sym c.is_dot_segment.ensures ∙ c.if-not-is_dot_segment.false))
      ∙ sym (ap without_dots (segments_some c.loop-segment.rest.now c.in-Some.segment c.in-Some.after c.in-Some.ensures.cases))
      ∙ c.loop-segment.invariant.left;
}

pub returns-then-not-is_dot_segment : goal.returns-then-not-is_dot_segment
unfolding remove_dots
returns-then-not-is_dot_segment c =
    let made : string_bytes c.push_str.new.self ≡ c.in-Some.segment.now = c.in_ok-push_str.ensures.bytes ∙ ap (λ o. o ++ c.in-Some.segment.now) c.loop-segment.invariant.fresh in
    c.in_ok-push_segments.ensures ∙ ap (λ o. after_segments o (pieces 47 c.in-Some.after.now)) made
    ∙ sym (without_kept c.in-Some.segment.now (pieces 47 c.in-Some.after.now) (sym c.is_dot_segment.ensures ∙ c.if-not-is_dot_segment.true))
    ∙ sym (ap without_dots (segments_some c.loop-segment.rest.now c.in-Some.segment c.in-Some.after c.in-Some.ensures.cases))
    ∙ c.loop-segment.invariant.left

pub returns-then-is_dot_segment : goal.returns-then-is_dot_segment
unfolding remove_dots
returns-then-is_dot_segment c =
    c.loop-segment.invariant.fresh
    ∙ sym (without_gone c.loop-segment.rest.now [] (sym c.is_dot_segment-2.ensures ∙ c.if-is_dot_segment.true))
    ∙ sym (ap without_dots (segments_none c.loop-segment.rest.now c.in_default.ensures.cases))
    ∙ c.loop-segment.invariant.left

pub returns : goal.returns
unfolding remove_dots
returns c =
    c.in_ok-push_str-2.ensures.bytes ∙ ap (λ o. o ++ c.loop-segment.rest.now) c.loop-segment.invariant.fresh
    ∙ sym (without_kept c.loop-segment.rest.now [] (sym c.is_dot_segment-2.ensures ∙ c.if-is_dot_segment.false))
    ∙ sym (ap without_dots (segments_none c.loop-segment.rest.now c.in_default.ensures.cases))
    ∙ c.loop-segment.invariant.left
