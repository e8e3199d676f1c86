use Rattle.std.proofs.Common.{map, take}
use Rattle.document_sources.specs.Seen.{layer_of}
use Rattle.document_retrieval.specs.Known.{want_of}
use Rattle.document_retrieval.specs.Stages.{asking, HasAnswers}
use Rattle.document_retrieval.proofs.round.push_round.Given as goal

abbrev pub invariant-loop-want : goal.invariant-loop-want
invariant-loop-want g l =
    HasAnswers (asking g.R.Retrieve.may_answer g.R.Retrieve.may_refuse l.retriever (layer_of l.layer)) (map want_of (take l.want-index l.wants)) l.fn.gathered l.gathered
