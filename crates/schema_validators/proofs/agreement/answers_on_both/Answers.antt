use Rattle.std.proofs.Common.{◌∙◌, ap, sym, subst}
use Rattle.serde_json.specs.View.{view}
use Rattle.schema_meaning.specs.Faults.{is_none}
use Rattle.schema_reports.specs.Left.{errors_left}
use Rattle.schema_reports.specs.Told.{faults_of}
use Rattle.schema_registries.specs.Roots.{Root, Patterns, root_on}
use Rattle.schema_validators.specs.Made.{IsMadeBy}
use Rattle.schema_validators.proofs.Agreeing.{root_alike, both_answered}
use Rattle.schema_validators.proofs.agreement.answers_on_both.Goals as goal

pub returns-clause-left : goal.returns-clause-left
returns-clause-left g c =
    let p : Patterns = g.P.PatternMaker.patterns c.args.options.now.maker in
    let r = root_on c.args.left.now c.args.root.now in
    let made = c.in_ok-first.ensures.made in
    record { verdict_is = c.in_ok-accepts.ensures.verdict p r made; faults_are = c.in_ok-errors.ensures.faults p r made }

pub returns-clause-right : goal.returns-clause-right
returns-clause-right g c =
    let p : Patterns = g.P.PatternMaker.patterns c.args.options.now.maker in
    let r = root_on c.args.right.now c.args.root.now in
    let made = c.in_ok-second.ensures.made in
    record { verdict_is = c.in_ok-also_accepts.ensures.verdict p r made; faults_are = c.in_ok-others.ensures.faults p r made }

pub returns-clause-equal : goal.returns-clause-equal
returns-clause-equal g c = λ alike.
    let p : Patterns = g.P.PatternMaker.patterns c.args.options.now.maker in
    let r = root_on c.args.left.now c.args.root.now in
    let made = c.in_ok-first.ensures.made in
    let same = root_alike c.args.left.now c.args.right.now c.args.root.now alike in
    let other = subst (λ (x : Root). IsMadeBy p x c.in_ok-second.second) (sym same) c.in_ok-second.ensures.made in
    both_answered p r (view c.args.value.now) c.in_ok-accepts.accepts c.in_ok-also_accepts.also_accepts (faults_of (errors_left c.in_ok-errors.errors)) (faults_of (errors_left c.in_ok-others.others))
    (record { verdict_is = c.in_ok-accepts.ensures.verdict p r made; faults_are = c.in_ok-errors.ensures.faults p r made })
    (record { verdict_is = c.in_ok-also_accepts.ensures.verdict p r other; faults_are = c.in_ok-others.ensures.faults p r other })

pub returns-clause-left_sound : goal.returns-clause-left_sound
returns-clause-left_sound g c = c.in_ok-first.ensures.made.sound

pub returns-clause-right_sound : goal.returns-clause-right_sound
returns-clause-right_sound g c = c.in_ok-second.ensures.made.sound

pub returns-clause-agree : goal.returns-clause-agree
returns-clause-agree g c = (
  ap is_none c.in_ok-errors.ensures.cut ∙ c.in_ok-errors.ensures.agree ∙ sym c.in_ok-accepts.ensures.cut,
  ap is_none c.in_ok-others.ensures.cut ∙ c.in_ok-others.ensures.agree ∙ sym c.in_ok-also_accepts.ensures.cut,
)
