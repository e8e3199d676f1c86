use Rattle.std.proofs.Common.{◌∙◌, sym, ap, subst}
use Rattle.serde_json.specs.View.{view}
use Rattle.applicators.specs.Asks.{are_names}
use Rattle.applicators.proofs.Asking.{values_or_names}
use Rattle.fault_checks.proofs.NamedSteps.{AreOfNames, are_of_names, asks_none, lies_inside, at_names}
use Rattle.fault_checks.proofs.applied_steps.through_applicator.Goals as goal

pub through_questions-requires : goal.through_questions-requires
through_questions-requires c = record {
  applies = c.requires.applies;
  values = values_or_names c.args.applicator.now c.requires.applies.by_answers (ap are_names (sym c.asks.ensures) ∙ asks_none c.asks.result (λ s. c.in_default.not-Names s));
  more = c.requires.more;
}

pub invariant_of-result : goal.invariant_of-result
invariant_of-result c = record { inside = lies_inside c.args.walk.site c.args.applicator.now c.in-Names.schema (sym c.asks.ensures ∙ c.in-Names.is) c.requires.applies.inside }

pub returns-in-Names-clause-passes : goal.returns-in-Names-clause-passes
returns-in-Names-clause-passes c =
    let a = c.args.applicator.now in
    let schema = c.in-Names.schema in
    at_names _ a (subst (λ k. AreOfNames k a (view schema.now)) (sym c.name.ensures) (are_of_names a schema (sym c.asks.ensures ∙ c.in-Names.is))) c.requires.more
