use Rattle.std.proofs.Common.{refl}
use Rattle.fault_checks.proofs.Children.{AtTarget, target_shallow}
use Rattle.fault_checks.proofs.ReferenceSteps.{reference_on}
use Rattle.fault_checks.proofs.stepping.through_reference.Goals as goal

pub invariant_of-result : goal.invariant_of-result
invariant_of-result c =
    let at : AtTarget c.args.walk.site c.in_ok-site.site c.args.keyword c.args.text.now c.args.target = record {
      found = c.requires.found;
      contents = c.in_ok-site.ensures.contents;
      base = c.in_ok-site.ensures.base;
      scope = c.in_ok-site.ensures.scope;
      documents = c.in_ok-site.ensures.documents;
      stands = λ s r. c.in_ok-site.ensures.stands s r;
      matches = c.in_ok-site.ensures.matches;
    } in
    record { shallow = target_shallow c.args.walk.site c.in_ok-site.site c.args.keyword c.args.text.now c.args.target at }

pub returns-clause-passes : goal.returns-clause-passes
returns-clause-passes c =
    let at : AtTarget c.args.walk.site c.in_ok-site.site c.args.keyword c.args.text.now c.args.target = record {
      found = c.requires.found;
      contents = c.in_ok-site.ensures.contents;
      base = c.in_ok-site.ensures.base;
      scope = c.in_ok-site.ensures.scope;
      documents = c.in_ok-site.ensures.documents;
      stands = λ s r. c.in_ok-site.ensures.stands s r;
      matches = c.in_ok-site.ensures.matches;
    } in
    reference_on c.args.walk _ c.args.keyword c.args.text.now c.args.target c.args.after c.requires.more at refl refl refl
