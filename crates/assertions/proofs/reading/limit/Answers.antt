use Rattle.std.proofs.Common.{sym, ap, ◌∙◌, option_map}
use Rattle.serde_json.specs.View.{view}
use Rattle.schema_definitions.specs.Values.{whole_number}
use Rattle.assertions.specs.Shapes.{bound_assertion, old_assertion}
use Rattle.assertions.proofs.ReadLemmas.{old-row, later-row}
use Rattle.assertions.proofs.reading.limit.Goals as goal

pub returns : goal.returns
returns c =
    let d = view c.args.value.now in
    λ x around. later-row c.args.side c.args.draft _ x d c.bounded.result c.asserted-2.result (sym c.is_draft_4.ensures ∙ c.if-is_draft_4.false) around
    (c.bounded.ensures ∙ ap (λ b. option_map (bound_assertion b) (whole_number d)) c.bound_of.ensures) c.asserted-2.ensures

pub returns-then-is_draft_4 : goal.returns-then-is_draft_4
returns-then-is_draft_4 c =
    let d = view c.args.value.now in
    λ x around. old-row c.args.side c.args.draft _ x d c.bounded_in_draft_4.result c.asserted.result (sym c.is_draft_4.ensures ∙ c.if-is_draft_4.true) around
    (c.bounded_in_draft_4.ensures ∙ ap (λ b. option_map (λ z. old_assertion c.args.side z b) (whole_number d)) c.is_true.ensures) c.asserted.ensures
