use Rattle.std.proofs.Common.{◌∷◌, ◌<◌, [], ap, ◌∙◌, arith, map, length, length-append, suc}
use Rattle.std.proofs.lemmas.List.{length-map}
use Rattle.serde_json.specs.Data.{depth}
use Rattle.serde_json.specs.View.{view}
use Rattle.schema_definitions.specs.Places.{SchemaPlace, children, places, root_place}
use Rattle.schema_definitions.specs.Words.{levels}
use Rattle.schema_dialects.specs.Dialects.{dialect_of, dialects_in}
use Rattle.schema_places.specs.Seen.{place_of}
use Rattle.schema_places.proofs.Depths.{height, falls}
use Rattle.schema_places.proofs.Entered.{root-contents}
use Rattle.schema_places.proofs.Queues.{taken, smaller, all_taken}
use Rattle.schema_places.proofs.Weights.{size, shrinks}
use Rattle.schema_places.proofs.document.places.Goals as goal

pub loop-next-smaller : goal.loop-next-smaller
loop-next-smaller c =
    let xs = map place_of c.loop-next.found.items in
    let root = root_place (dialects_in c.args.known.now) c.args.uri.now.value (dialect_of c.args.default) (view c.args.contents.now) in
    let within : c.loop-next.next < length xs = omega (arith, length-map c.loop-next.found.items place_of, c.loop-next-test.true, c.len.ensures) in
    smaller SchemaPlace (children (dialects_in c.args.known.now)) size (shrinks (dialects_in c.args.known.now)) xs (map place_of c.push_below.new.found.items) c.loop-next.next root within (c.in_ok-push_below.ensures root)

pub loop-next-preserved : goal.loop-next-preserved
loop-next-preserved c =
    let xs = map place_of c.loop-next.found.items in
    let ys = map place_of c.push_below.new.found.items in
    let root = root_place (dialects_in c.args.known.now) c.args.uri.now.value (dialect_of c.args.default) (view c.args.contents.now) in
    let within : c.loop-next.next < length xs = omega (arith, length-map c.loop-next.found.items place_of, c.loop-next-test.true, c.len.ensures) in
    record {
      within = omega (arith, within, length-map c.push_below.new.found.items place_of, simp length-append at (ap length (c.in_ok-push_below.ensures root)));
      queue = taken SchemaPlace (children (dialects_in c.args.known.now)) (root ∷ []) xs ys c.loop-next.next root within (c.in_ok-push_below.ensures root) c.loop-next.invariant.queue;
    }

pub returns : goal.returns
unfolding places
returns c =
    let xs = map place_of c.loop-next.found.items in
    let root = root_place (dialects_in c.args.known.now) c.args.uri.now.value (dialect_of c.args.default) (view c.args.contents.now) in
    let done = all_taken SchemaPlace (children (dialects_in c.args.known.now)) height (falls (dialects_in c.args.known.now)) root xs c.loop-next.next
    (omega (arith, length-map c.loop-next.found.items place_of, c.loop-next-test.false, c.len.ensures)) c.loop-next.invariant.queue in
    done ∙ ap (λ d. levels (children (dialects_in c.args.known.now)) (suc (depth d)) (root ∷ [])) (root-contents (dialects_in c.args.known.now) c.args.uri.now.value (dialect_of c.args.default) (view c.args.contents.now))
