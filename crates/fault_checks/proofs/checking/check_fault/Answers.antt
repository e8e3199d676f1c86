use Rattle.std.proofs.Common.{Option, sym, subst}
use Rattle.std.proofs.lemmas.Result.{IfOk-weaker}
use Rattle.serde_json.specs.View.{view}
use Rattle.schema_registries.specs.Roots.{root_on}
use Rattle.fault_checks.specs.Checked.{AreReadIn}
use Rattle.fault_checks.specs.declared.reading.ReadMatches.{ReadMatches}
use Rattle.fault_checks.proofs.checking.check_fault.Goals as goal

pub returns : goal.returns
returns g c =
    let p = g.P.PatternMaker.patterns c.args.maker.now in
    let read = subst (λ (o : Option ReadMatches). AreReadIn p (root_on c.args.registry.now c.args.root.now) (view c.args.value.now) o) (sym c.as_ref.ensures.value) c.in_ok-matches.ensures in
    IfOk-weaker c.check_by.result _ _ (λ a h. h p read) c.check_by.ensures
