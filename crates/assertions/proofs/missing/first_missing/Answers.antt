use Rattle.std.proofs.Common.{ap, ◌∙◌}
use Rattle.serde_json.proofs.Views.{view-Object}
use Rattle.serde_json.specs.View.{view, items_view, members_view}
use Rattle.assertions.proofs.MissingLemmas.{first_of_object}
use Rattle.assertions.proofs.missing.first_missing.Goals as goal

pub returns-in-Object : goal.returns-in-Object
returns-in-Object c =
    first_of_object (view c.args.value.now) (members_view c.in-Object.members.entries) (items_view c.args.names.now) c.first_missing_member.result
    (ap view c.in-Object.is ∙ view-Object c.in-Object.members) c.first_missing_member.ensures
