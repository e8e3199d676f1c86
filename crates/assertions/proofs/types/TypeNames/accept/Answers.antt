use Rattle.std.proofs.Common.{sym, ap, ◌∙◌}
use Rattle.std.specs.List.{list_any}
use Rattle.json_values.specs.Kinds.{has_type}
use Rattle.value_checks.specs.Code.{primitive_of}
use Rattle.serde_json.specs.View.{view}
use Rattle.assertions.proofs.TypeLemmas.{list_any-map}
use Rattle.assertions.proofs.types.TypeNames.accept.Goals as goal

pub returns : goal.returns
returns c =
    let d = view c.args.value.now in
    c.is_of_some.ensures ∙ sym (list_any-map (λ t. has_type t d) primitive_of c.as_slice.result.now) ∙ ap (list_any (λ t. has_type t d)) c.as_slice.ensures
