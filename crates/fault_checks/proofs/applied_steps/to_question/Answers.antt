use Rattle.std.proofs.Common.{Bor, ap, refl}
use Rattle.serde_json.specs.View.{view}
use Rattle.serde_json.specs.declared.value.Value.{Value}
use Rattle.fault_checks.proofs.Passed.{Child, child_shallow}
use Rattle.fault_checks.proofs.applied_steps.to_question.Goals as goal

pub invariant_of-result : goal.invariant_of-result
invariant_of-result c =
    let child : Child c.args.walk.site c.in_ok-site.site (view c.args.ahead.question.subschema.schema.now) = record {
      contents = ap (λ (b : Bor Value). view b.now) c.in_ok-site.ensures.contents;
      documents = c.in_ok-site.ensures.documents;
      scope = c.in_ok-site.ensures.scope;
      stands = λ s added. c.in_ok-site.ensures.stands s added;
      matches = c.in_ok-site.ensures.matches;
    } in
    record { shallow = child_shallow c.args.walk.site c.in_ok-site.site _ child c.requires.inside c.args.walk.shallow }

pub returns : goal.returns
returns c =
    record {
      contents = ap (λ (b : Bor Value). view b.now) c.in_ok-site.ensures.contents;
      documents = c.in_ok-site.ensures.documents;
      scope = c.in_ok-site.ensures.scope;
      stands = λ s added. c.in_ok-site.ensures.stands s added;
      matches = c.in_ok-site.ensures.matches;
      value = c.value_of.ensures;
      instance = refl;
      evaluation = refl;
    }
