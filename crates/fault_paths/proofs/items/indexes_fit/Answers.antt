use Rattle.std.proofs.Common.{◌≡◌, ◌∙◌, ap, rules, arith}
use Rattle.serde_json.specs.Data.{no_items}
use Rattle.serde_json.specs.View.{view}
use Rattle.serde_json.proofs.Views.{view-Array}
use Rattle.serde_json.specs.declared.value.Value.{the_lemmas}
use Rattle.schema_meaning.specs.Questions.{items_of}
use Rattle.fault_paths.proofs.ItemFacts.{list_indexed, other_indexed}
use Rattle.fault_paths.proofs.items.indexes_fit.Goals as goal

pub returns-in-Array : goal.returns-in-Array
returns-in-Array c = list_indexed (view c.args.value.now) c.in-Array.items.items (ap view c.in-Array.is ∙ view-Array c.in-Array.items) (omega (arith, c.in-Array.items.ok, c.in-Array.items.small))

pub returns-in_default : goal.returns-in_default
returns-in_default c =
    let nothing : items_of (view c.args.value.now) ≡ no_items = search (rules, the_lemmas) in
    other_indexed (view c.args.value.now) nothing
