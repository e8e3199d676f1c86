use Rattle.std.proofs.Common.{◌≡◌, subst, sym, true}
use Rattle.uri_references.specs.Passed.{split}
use Rattle.uri_references.specs.Passed.{is_reference}
use Rattle.uri_references.proofs.FragmentLemmas.{without-valid}
use Rattle.uri_references.proofs.borrowed.UriRef.strip_fragment.Goals as goal

pub invariant_of-result : goal.invariant_of-result
invariant_of-result c = record {
  valid = subst (λ t. is_reference (split t) ≡ true) (sym c.split_fragment.ensures.before) (without-valid c.args.self.now.text.now c.args.self.now.valid);
}
