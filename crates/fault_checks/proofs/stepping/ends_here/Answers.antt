use Rattle.std.proofs.Common.{◌≡◌, rules, false}
use Rattle.serde_json.specs.Data.{boolean}
use Rattle.serde_json.specs.View.{view}
use Rattle.serde_json.specs.declared.value.Value.{the_lemmas}
use Rattle.fault_checks.proofs.Going.{none_here, not_false_here}
use Rattle.fault_checks.proofs.stepping.ends_here.Goals as goal

pub returns-in-Bool-false : goal.returns-in-Bool-false
returns-in-Bool-false c =
    let is : view c.args.contents.now ≡ boolean false = rw c.in-Bool-false.is (search (rules, the_lemmas)) in
    none_here (view c.args.contents.now) c.args.instance c.is_none.result is c.is_none.ensures

pub returns-in_default : goal.returns-in_default
returns-in_default c = not_false_here (view c.args.contents.now) c.args.instance (search (rules, the_lemmas))
