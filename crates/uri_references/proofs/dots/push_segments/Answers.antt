use Rattle.std.proofs.Common.{rules, ◌≡◌, string_bytes, ap, ◌∙◌, subst, OnOk}
use Rattle.uri_grammar.specs.Texts.{pieces}
use Rattle.uri_references.specs.Dots.{after_segments}
use Rattle.uri_references.proofs.Segments.{after_some, after_none}
use Rattle.uri_references.proofs.dots.push_segments.Goals as goal

pub loop-segment-preserved : goal.loop-segment-preserved
loop-segment-preserved c = record {
  text = search rules;
  left = ap (λ o. after_segments o (pieces 47 c.in-Some.after.now)) c.in_ok-push_segment.ensures
      ∙ after_some (string_bytes c.loop-segment.output) c.loop-segment.rest.now c.in-Some.segment c.in-Some.after c.in-Some.ensures.cases
      ∙ c.loop-segment.invariant.left;
}

pub returns : goal.returns
returns c =
    let e = after_none (string_bytes c.loop-segment.output) c.loop-segment.rest.now c.in_default.ensures.cases ∙ c.loop-segment.invariant.left in
    subst (λ x. OnOk c.push_segment-2.result (string_bytes c.push_segment-2.new.output ≡ x)) e c.push_segment-2.ensures
