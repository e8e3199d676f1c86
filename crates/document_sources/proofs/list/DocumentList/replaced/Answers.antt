use Rattle.std.proofs.Common.{◌≡◌, ◌∙◌, map, ap, arith, slice_set, sym}
use Rattle.std.proofs.Math.Logic.{∥∥₁_map}
use Rattle.std.proofs.lemmas.List.{length-map, map-set}
use Rattle.document_sources.specs.Given.{with_given, position_in, are_given_apart}
use Rattle.document_sources.specs.Seen.{given_of}
use Rattle.document_sources.specs.Listed.{givens_of}
use Rattle.document_sources.proofs.Positions.{position-within, with_given-placed, position_in-placed}
use Rattle.document_sources.proofs.Apart.{with_given-apart}
use Rattle.document_sources.proofs.list.DocumentList.replaced.Goals as goal

pub index_mut-requires : goal.index_mut-requires
index_mut-requires c =
    let within = position-within (givens_of c.args.self) c.args.document.uri.value c.args.position c.requires in
    let same = length-map c.args.self.documents.items given_of in
    omega (arith, same, within, c.args.self.documents.ok.0)

pub invariant_of-result : goal.invariant_of-result
invariant_of-result c =
    let gs = givens_of c.args.self in
    let g = given_of c.args.document in
    let i = c.args.position in
    let written : map given_of (slice_set c.args.self.documents.items i c.args.document) ≡ with_given gs g =
    map-set given_of c.args.self.documents.items i c.args.document ∙ with_given-placed gs g i c.requires in
    record {
      placed = ∥∥₁_map c.args.self.placed (λ known. λ q. known q ∙ sym (position_in-placed gs g i q c.requires) ∙ ap (λ hs. position_in hs q) (sym written));
      apart = ap are_given_apart written ∙ with_given-apart gs g c.args.self.apart;
    }

pub returns : goal.returns
returns c =
    let gs = givens_of c.args.self in
    map-set given_of c.args.self.documents.items c.args.position c.args.document ∙ with_given-placed gs (given_of c.args.document) c.args.position c.requires
