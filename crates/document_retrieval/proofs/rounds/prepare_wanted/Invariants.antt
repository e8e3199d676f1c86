use Rattle.std.proofs.Common.{map, length, ◌-◌}
use Rattle.document_index.specs.Seen.{document_of}
use Rattle.document_sources.specs.Seen.{layer_of}
use Rattle.document_retrieval.specs.Stages.{asking, documents_in, uris_in, IsGathered}
use Rattle.document_retrieval.proofs.rounds.prepare_wanted.Given as goal

abbrev pub invariant-loop-gathered : goal.invariant-loop-gathered
invariant-loop-gathered g l =
    IsGathered (asking g.R.Retrieve.may_answer g.R.Retrieve.may_refuse l.retriever (layer_of l.layer)) l.limit (map document_of l.fn.documents.items) (documents_in l.gathered) (uris_in l.gathered)

abbrev pub decreases-loop-gathered : goal.decreases-loop-gathered
decreases-loop-gathered g l = l.limit - length (uris_in l.gathered)
