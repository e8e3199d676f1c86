use Rattle.std.proofs.Common.{◌∙◌, map, ap}
use Rattle.document_index.specs.Seen.{document_of}
use Rattle.referencing.specs.Seen.{documents_of}
use Rattle.document_laws.specs.TargetLaws.{are_apart}
use Rattle.document_retrieval.proofs.Apart.{gathered-apart}
use Rattle.schema_registries.proofs.registry.gathered.Goals as goal

pub invariant_of-result : goal.invariant_of-result
invariant_of-result g c = record {
  apart = ap (λ r. are_apart (documents_of r)) c.in-Ok.ensures.ok
      ∙ gathered-apart _ _ (map document_of c.args.documents.items) _ _ c.requires.apart c.in_ok-registry.ensures.documents;
}

pub returns-in-Ok-clause-prepared : goal.returns-in-Ok-clause-prepared
returns-in-Ok-clause-prepared g c =
    let r = c.in_ok-registry.ensures in
    rw c.in-Ok.ensures.ok (record { gathered = r.documents; once = r.once; complete = r.complete; accepted = r.accepted; alone = r.alone })
