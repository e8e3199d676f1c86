use Rattle.std.proofs.Common.{sym, ap, ◌∙◌, option_map}
use Rattle.serde_json.specs.View.{view}
use Rattle.schema_definitions.specs.Values.{whole_number}
use Rattle.assertions.specs.Shapes.{bound_assertion}
use Rattle.assertions.proofs.ReadLemmas.{strict-row}
use Rattle.assertions.proofs.reading.exclusive_limit.Goals as goal

pub returns : goal.returns
returns c =
    let d = view c.args.value.now in
    λ x is. strict-row c.args.side c.args.draft x d c.bounded.result c.asserted.result (sym c.is_draft_4.ensures ∙ c.if-is_draft_4.false) is
    (c.bounded.ensures ∙ ap (λ b. option_map (bound_assertion b) (whole_number d)) c.exclusive_bound_of.ensures) c.asserted.ensures
