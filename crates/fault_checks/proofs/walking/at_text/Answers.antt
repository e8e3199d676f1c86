use Rattle.std.proofs.Common.{Bor, ap, refl}
use Rattle.serde_json.specs.View.{view}
use Rattle.serde_json.specs.declared.value.Value.{Value}
use Rattle.fault_checks.proofs.Passed.{Child, child_shallow}
use Rattle.fault_checks.proofs.walking.at_text.Goals as goal

pub invariant_of-result : goal.invariant_of-result
invariant_of-result c =
    let n = c.args.names.now in
    let child : Child n.walk.site c.in_ok-site.site (view n.schema.now) = record {
      contents = ap (λ (b : Bor Value). view b.now) c.in_ok-site.ensures.contents;
      documents = c.in_ok-site.ensures.documents;
      scope = c.in_ok-site.ensures.scope;
      stands = λ s added. c.in_ok-site.ensures.stands s added;
      matches = c.in_ok-site.ensures.matches;
    } in
    record { shallow = child_shallow n.walk.site c.in_ok-site.site _ child n.inside n.walk.shallow }

pub returns : goal.returns
returns c =
    let n = c.args.names.now in
    record {
      contents = ap (λ (b : Bor Value). view b.now) c.in_ok-site.ensures.contents;
      documents = c.in_ok-site.ensures.documents;
      scope = c.in_ok-site.ensures.scope;
      stands = λ s added. c.in_ok-site.ensures.stands s added;
      matches = c.in_ok-site.ensures.matches;
      value = refl;
      instance = refl;
      evaluation = refl;
    }
