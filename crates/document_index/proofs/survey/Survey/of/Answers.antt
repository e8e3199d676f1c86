use Rattle.std.proofs.Common.{◌∙◌, ap, subst, map}
use Rattle.document_index.specs.Seen.{located_of}
use Rattle.document_index.specs.Indexes.{Indexes}
use Rattle.document_index.proofs.survey.Survey.of.Goals as goal

pub returns : goal.returns
returns c =
    let s = c.in_ok-told in
    record {
      tells = s.ensures.told;
      anew = s.ensures.anew;
      stand = s.ensures.places;
      indexes = subst (Indexes c.in_ok-index.index) (ap (map located_of) c.deref.ensures.value ∙ s.ensures.places) c.in_ok-index.ensures;
    }
