use Rattle.std.proofs.Common.{◌≡◌, ◌∙◌, ap, rules, subst, sym, true, Result, Ok, Err, IfErr}
use Rattle.std.specs.Result.{IsErrAnd}
use Rattle.document_sources.specs.Given.{with_given}
use Rattle.document_sources.specs.Uris.{is_document_uri, RefusesUri}
use Rattle.referencing.specs.Built.{given_in, given_by, AsksAlike, BeginsAlike}
use Rattle.referencing.proofs.Extending.{givens_by-more, are_document_uris-more}
use Rattle.referencing.proofs.builder.RegistryBuilder.extend.Goals as goal

from_err : {B E : Type 0} (P : E → Type 0) (r : Result B E) (e : E) → IsErrAnd r (λ d. d ≡ e) → P e → IfErr r P
from_err P (Ok b) e h p = tt
from_err P (Err d) e h p = subst P (sym h) p

pub returns-in_err-builder-clause-refused : goal.returns-in_err-builder-clause-refused
returns-in_err-builder-clause-refused g c =
    let refused = c.in_err-builder.field-0.0 in
    let same : IsErrAnd c.from_residual.result (λ d. d ≡ refused) = search rules in
    let unchanged : given_in refused.builder ≡ given_in c.loop-uri.builder = search rules in
    let named : RefusesUri c.as_str.result.now refused.error = search rules in
    from_err _ c.from_residual.result refused same (
      c.into_iter-uri-iterator.result,
      c.loop-uri.yielded,
      (c.in-Some.uri, c.in-Some.resource),
      c.next.new.self,
      c.into_iter-uri-iterator.ensures.into_iter_gives,
      (c.loop-uri.uri-iterator, c.loop-uri.yielded_by, c.in-Some.ensures.steps),
      (c.loop-uri.invariant.adds.0, unchanged ∙ c.loop-uri.invariant.adds.1),
      subst (λ t. RefusesUri t refused.error) c.as_str.ensures named,
    )

pub loop-uri-preserved : goal.loop-uri-preserved
loop-uri-preserved g c =
    let text = g.U.AsStr.text in
    let contents = g.R.IntoRegistryResource.contents in
    let draft = g.R.IntoRegistryResource.draft in
    let before = c.loop-uri.yielded in
    let u = c.in-Some.uri in
    let r = c.in-Some.resource in
    let t = c.as_str.result.now in
    let built = given_in c.loop-uri.builder in
    let new = c.in_ok-builder.builder in
    let accepted : is_document_uri t ≡ true = search rules in
    let added : given_in new ≡ with_given built (given_by contents draft t r) = search rules in
    let same : new.draft ≡ c.loop-uri.builder.draft = search rules in
    let alike : AsksAlike c.loop-uri.builder new = search rules in
    let begun : BeginsAlike c.loop-uri.builder new = search rules in
    record {
      adds = (
        are_document_uris-more text before u r c.loop-uri.invariant.adds.0 (ap is_document_uri (sym c.as_str.ensures) ∙ accepted),
        givens_by-more text contents draft (given_in c.args.self) built (given_in new) before u r t c.loop-uri.invariant.adds.1 c.as_str.ensures added,
      );
      draft = same ∙ c.loop-uri.invariant.draft;
      retrieval = (alike.0 ∙ c.loop-uri.invariant.retrieval.0, alike.1 ∙ c.loop-uri.invariant.retrieval.1);
      beginning = (begun.0 ∙ c.loop-uri.invariant.beginning.0, begun.1 ∙ c.loop-uri.invariant.beginning.1);
    }
