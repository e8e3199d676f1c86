use Rattle.std.proofs.Common.{◌≡◌, ◌∙◌, ◌++◌, [], map, ap, ap₂, sym, append-nil}
use Rattle.schema_definitions.specs.Places.{places}
use Rattle.schema_definitions.specs.Bearers.{document_name}
use Rattle.schema_dialects.specs.Dialects.{dialects_in}
use Rattle.schema_places.specs.declared.place.Place.{Place}
use Rattle.schema_places.specs.Seen.{place_of}
use Rattle.document_index.specs.Located.{standings_at}
use Rattle.document_index.specs.Seen.{document_of, located_of}
use Rattle.document_index.proofs.LocatedLemmas.{located_at, map-through, no_items, located-places}
use Rattle.document_index.proofs.standing.push_standings.Goals as goal

pub returns : goal.returns
returns c =
    let meta = dialects_in c.args.known.now in
    let it = c.loop-place.place-iterator in
    let d = document_of c.args.document.now in
    let found = map located_of c.loop-place.found.items in
    let items = c.in_ok-own.own.items in
    let f = λ (p : Place). located_at c.args.position (document_name d) (place_of p) in
    let empty : it.rest.items ≡ [] = no_items it.rest.items (sym it.rest.ok.0 ∙ c.in-None.ensures.steps.0) in
    let begun : c.into_iter-place-iterator.result.rest.items ≡ items = c.into_iter-place-iterator.ensures.into_iter_gives.0 in
    let all : map place_of items ≡ places meta d.uri d.default d.contents = c.in_ok-own.ensures ∙ ap (places meta d.uri d.default) c.value.ensures in
    let through : map f items ≡ standings_at meta (c.args.position, d) = sym (map-through (located_at c.args.position (document_name d)) place_of items) ∙ located-places meta c.args.position d (map place_of items) all in
    sym (append-nil found) ∙ ap (λ xs. found ++ map f xs) (sym empty) ∙ c.loop-place.invariant
    ∙ ap₂ (λ xs ys. map located_of xs ++ ys) c.reserve.ensures.items (ap (map f) begun ∙ through)
