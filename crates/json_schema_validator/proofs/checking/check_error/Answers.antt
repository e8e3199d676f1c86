use Rattle.std.proofs.Common.{Option, sym, subst}
use Rattle.std.proofs.lemmas.Result.{IfOk-weaker}
use Rattle.serde_json.specs.View.{view}
use Rattle.fault_checks.specs.declared.reading.ReadMatches.{ReadMatches}
use Rattle.schema_reports.specs.Told.{fault_of}
use Rattle.schema_registries.specs.Roots.{root_on}
use Rattle.fault_checks.specs.Checked.{AreReadIn}
use Rattle.json_schema_validator.proofs.Joining.{fault_accepted}
use Rattle.json_schema_validator.proofs.checking.check_error.Goals as goal

pub returns-clause-accepted : goal.returns-clause-accepted
returns-clause-accepted g c =
    let p = g.P.PatternMaker.patterns c.args.maker.now in
    let r = root_on c.args.registry.now c.args.root.now in
    let d = view c.args.value.now in
    let read = subst (λ (o : Option ReadMatches). AreReadIn p r d o) (sym c.as_ref.ensures.value) c.in_ok-matches.ensures in
    IfOk-weaker c.check_error_by.result _ _ (λ a h sound has. fault_accepted p r d (fault_of c.args.error.now) a (h p read sound) has) c.check_error_by.ensures
