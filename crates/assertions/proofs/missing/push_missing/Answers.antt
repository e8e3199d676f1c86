use Rattle.std.proofs.Common.{ap, ◌∙◌}
use Rattle.serde_json.proofs.Views.{view-Object}
use Rattle.serde_json.specs.View.{view, items_view, members_view}
use Rattle.assertions.proofs.MissingLemmas.{if_all_of_object}
use Rattle.assertions.proofs.missing.push_missing.Goals as goal

pub returns-in-Object : goal.returns-in-Object
returns-in-Object c =
    if_all_of_object c.push_missing_members.result (view c.args.value.now) (members_view c.in-Object.members.entries) (items_view c.args.names.now) c.args.found.now.items
    c.push_missing_members.new.found.items
    (ap view c.in-Object.is ∙ view-Object c.in-Object.members) c.push_missing_members.ensures
