use Rattle.std.proofs.Common.{ap, sym, ◌∙◌}
use Rattle.serde_json.specs.View.{items_view}
use Rattle.schema_drafts.specs.Children.{among_items}
use Rattle.schema_drafts.proofs.Among.{first_kept, first_passed}
use Rattle.schema_drafts.proofs.children.next_named.Goals as goal

pub returns-then-is_schema : goal.returns-then-is_schema
returns-then-is_schema c =
    c.loop-value.invariant ∙ ap (λ vs. among_items (items_view vs)) c.in-Some.ensures.steps
    ∙ first_kept c.in-Some.value.now c.next.new.self (sym c.is_schema.ensures ∙ c.if-is_schema.true)

pub loop-value-preserved : goal.loop-value-preserved
loop-value-preserved c =
    c.loop-value.invariant ∙ ap (λ vs. among_items (items_view vs)) c.in-Some.ensures.steps
    ∙ first_passed c.in-Some.value.now c.next.new.self (sym c.is_schema.ensures ∙ c.if-is_schema.false)
