use Rattle.std.proofs.Common.{◌∙◌, Option, ap, sym, subst}
use Rattle.std.proofs.lemmas.Result.{IfOk-weaker}
use Rattle.serde_json.specs.View.{view}
use Rattle.fault_checks.specs.declared.reading.ReadMatches.{ReadMatches}
use Rattle.schema_reports.specs.Left.{errors_left}
use Rattle.schema_reports.specs.Told.{faults_of}
use Rattle.schema_registries.specs.Roots.{root_on}
use Rattle.fault_checks.specs.Checked.{AreReadIn}
use Rattle.json_schema_validator.specs.Joined.{AreAccepted, fault_count}
use Rattle.schema_validators.specs.Made.{IsMadeBy}
use Rattle.json_schema_validator.proofs.checking.check_errors.Goals as goal

pub returns-clause-cut : goal.returns-clause-cut
returns-clause-cut g c = IfOk-weaker c.check_each.result _ _ (λ answers h. h ∙ ap fault_count c.in_ok-errors.ensures.cut) c.check_each.ensures.count

pub returns-clause-accepted : goal.returns-clause-accepted
returns-clause-accepted g c =
    let p = g.P.PatternMaker.patterns c.args.maker.now in
    let r = root_on c.args.registry.now c.args.root.now in
    let v = c.args.validator.now in
    let d = view c.args.value.now in
    let faults = faults_of (errors_left c.in_ok-errors.errors) in
    let read = subst (λ (o : Option ReadMatches). AreReadIn p r d o) (sym c.as_ref.ensures.value) c.in_ok-matches.ensures in
    IfOk-weaker c.check_each.result _ (λ answers. IsMadeBy p r v → AreAccepted p r d answers.items)
    (λ answers h made.
    record {
      faults = faults;
      told = c.in_ok-errors.ensures.faults p r made;
      accepted = h p read made.sound (c.in_ok-errors.ensures.certified p r made);
    })
    c.check_each.ensures.accepted
