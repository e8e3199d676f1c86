use Rattle.std.proofs.Common.{◌≡◌, ◌∙◌, List, map, ap, sym, take, subst, arith}
use Rattle.std.proofs.lemmas.List.{take_all}
use Rattle.std.specs.List.{All, AllZip, flat_map}
use Rattle.schema_definitions.specs.Bearers.{standings, meta}
use Rattle.document_index.specs.Checked.{unknown_by}
use Rattle.document_index.specs.Seen.{document_of, standing_of}
use Rattle.document_index.proofs.LocatedLemmas.{stand-located}
use Rattle.schema_validators.specs.Misnamed.{NamesMisnamed, IsAskedIn, misnamed_at}
use Rattle.schema_validators.specs.declared.misnamed.Asked.{Asked}
use Rattle.schema_validators.proofs.MisnamedLemmas.{told-more}
use Rattle.schema_validators.proofs.misnamed.misnamed_from.Goals as goal

pub loop-standing-preserved : goal.loop-standing-preserved
loop-standing-preserved c =
    let docs = map document_of c.args.documents.now in
    let places = c.in_ok-places.places.items in
    let told = misnamed_at (unknown_by docs) in
    let stand : map standing_of places ≡ standings (meta docs) docs = stand-located (meta docs) docs places c.in_ok-places.ensures in
    let i = c.loop-standing.standing-index in
    let seen = c.deref-standing-items.result.now in
    let found = flat_map told (map standing_of (take i seen)) in
    let there : map standing_of c.as_slice.result.now ≡ standings (meta docs) docs = ap (map standing_of) c.as_slice.ensures.value ∙ stand in
    let again : map standing_of c.as_slice-in-loop-standing.result.now ≡ standings (meta docs) docs = ap (map standing_of) c.as_slice-in-loop-standing.ensures.value ∙ stand in
    let known = subst (λ (l : List Asked). All (IsAskedIn docs) l) (sym c.as_slice-in-loop-standing-2.ensures.value) (c.in_ok-asked.ensures docs there) in
    subst (λ l. AllZip NamesMisnamed l c.push_misnamed.new.causes.items)
    (sym (told-more told standing_of seen i c.standing-item.result c.loop-standing-test.true c.standing-item.is))
    (c.in_ok-push_misnamed.ensures docs again known found c.loop-standing.invariant)

pub returns : goal.returns
returns c =
    let docs = map document_of c.args.documents.now in
    let told = misnamed_at (unknown_by docs) in
    let places = c.in_ok-places.places.items in
    let stand : map standing_of places ≡ standings (meta docs) docs = stand-located (meta docs) docs places c.in_ok-places.ensures in
    let i = c.loop-standing.standing-index in
    let seen = c.deref-standing-items.result.now in
    let whole : take i seen ≡ seen = take_all i seen (omega arith) in
    subst (λ l. AllZip NamesMisnamed l c.loop-standing.causes.items)
    (ap (λ ps. flat_map told (map standing_of ps)) (whole ∙ c.deref-standing-items.ensures.value) ∙ ap (flat_map told) stand)
    c.loop-standing.invariant
