use Rattle.std.proofs.Common.{◌≡◌, ◌++◌, map}
use Rattle.std.specs.Vec.Iter.{into_iter_items}
use Rattle.schema_places.specs.Seen.{place_of}
use Rattle.document_index.specs.Seen.{name_of, located_of}
use Rattle.document_index.proofs.LocatedLemmas.{located_at}
use Rattle.document_index.proofs.standing.push_standings.Given as goal

abbrev pub invariant-loop-place : goal.invariant-loop-place
invariant-loop-place l =
    map located_of l.found.items ++ map (λ p. located_at l.position (name_of l.document.name) (place_of p)) (into_iter_items l.place-iterator)
    ≡ map located_of l.initial.found.items ++ map (λ p. located_at l.position (name_of l.document.name) (place_of p)) (into_iter_items l.initial.place-iterator)
