use Rattle.std.proofs.Common.{◌∙◌, ap, ap₂, string_bytes}
use Rattle.serde_json.specs.Data.{object}
use Rattle.serde_json.proofs.Views.{view-Object}
use Rattle.error_texts.specs.Fields.{with_fields}
use Rattle.error_texts.proofs.objects.error_value.Goals as goal

pub returns : goal.returns
returns c =
    let members = c.in_ok-insert_all.ensures ∙ ap₂ with_fields c.in_ok-fields.ensures c.in_ok-members.ensures in
    record {
      kind = c.kind.result.now;
      stands_for = c.kind.ensures.kind;
      proper = c.kind.ensures.proper;
      description = string_bytes c.in_ok-description.description;
      says = c.in_ok-description.ensures;
      object = view-Object c.in_ok-insert_all.field-0 ∙ ap object members;
    }
