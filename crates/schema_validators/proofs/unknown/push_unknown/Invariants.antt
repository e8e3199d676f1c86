use Rattle.std.proofs.Common.{◌≡◌, ◌++◌, map}
use Rattle.serde_json.specs.View.{members_view}
use Rattle.document_index.specs.Seen.{name_of}
use Rattle.schema_places.specs.Seen.{place_of}
use Rattle.schema_validators.specs.Unknown.{unknown_at, unknown_among, unknown_from}
use Rattle.schema_validators.proofs.unknown.push_unknown.Given as goal

abbrev pub invariant-loop-name : goal.invariant-loop-name
invariant-loop-name l =
    map unknown_from l.fn.found.items ++ unknown_at (name_of l.document) (place_of l.place)
    ≡ map unknown_from l.found.items ++ unknown_among (name_of l.document) (place_of l.place) (members_view l.name-iterator)
