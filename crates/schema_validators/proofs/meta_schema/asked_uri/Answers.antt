use Rattle.std.proofs.Common.{◌∙◌, sym, subst}
use Rattle.schema_validators.specs.Asked.{IsHandedIn}
use Rattle.schema_validators.proofs.meta_schema.asked_uri.Goals as goal

pub returns-clause-asked : goal.returns-clause-asked
returns-clause-asked c = record {
  named = sym c.in_ok-uri.ensures ∙ c.in-Some.is;
  handed_in = subst (IsHandedIn c.args.parent.now) c.as_str.ensures.value (c.in_ok-is_handed_in.ensures.there c.if-not-branch.false);
}
