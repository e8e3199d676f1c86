use Rattle.std.proofs.Common.{◌≡◌, ◌++◌, map, drop}
use Rattle.std.specs.List.{flat_map}
use Rattle.document_index.specs.Seen.{standing_of}
use Rattle.schema_definitions.specs.Rounds.{further, wanted_at}
use Rattle.document_retrieval.specs.Known.{want_of, is_known_by}
use Rattle.document_retrieval.proofs.wants.wants_of.Given as goal

abbrev pub invariant-loop-standing : goal.invariant-loop-standing
invariant-loop-standing l =
    map want_of l.wants.items ++ further (is_known_by l.survey.index l.names) (flat_map wanted_at (map standing_of (drop l.standing-index l.standing-items)))
    ≡ further (is_known_by l.survey.index l.initial.names) (flat_map wanted_at (map standing_of l.standing-items))
