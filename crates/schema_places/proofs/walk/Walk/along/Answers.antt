use Rattle.std.proofs.Common.{◌≡◌, ◌<◌, length, get_or, drop, ap, sym, ◌∙◌, lit<, arith}
use Rattle.std.proofs.lemmas.Iterator.Splits.{YieldsList-from_str_split}
use Rattle.std.proofs.lemmas.Iterator.Consumers.{YieldsList-at, YieldsList-turn, YieldsList-end}
use Rattle.std.proofs.lemmas.List.{length_push, at_drop_all}
use Rattle.uri_grammar.specs.Texts.{pieces}
use Rattle.schema_definitions.specs.Lookup as spec
use Rattle.schema_dialects.specs.Dialects.{dialects_in}
use Rattle.schema_places.specs.Causes.{Refuses}
use Rattle.schema_places.specs.Walks.{walk_of}
use Rattle.schema_places.proofs.WalkLemmas.{walk_on, walk_stops, refuses_same, kept}
use Rattle.schema_places.proofs.walk.Walk.along.Goals as goal
use Rattle.schema_places.proofs.walk.Walk.along.Goals.{In-Some}

-- the token of a turn is the next piece
turn : (c : In-Some) → (length c.loop-token.yielded < length (pieces 47 c.args.tokens.now))
    × (c.in-Some.token.now ≡ get_or (pieces 47 c.args.tokens.now) (length c.loop-token.yielded) c.in-Some.token.now)
turn c =
    let split = c.split-token-items.ensures in
    let road = YieldsList-at c.into_iter-token-iterator.ensures.into_iter_gives (YieldsList-from_str_split 47 c.args.tokens.now (lit< tt) split.text split.has_more split.pattern) in
    YieldsList-turn road c.loop-token.yielded _ c.loop-token.yielded_by _ _ c.in-Some.token c.in-Some.is c.next.ensures.steps

pub loop-token-preserved : goal.loop-token-preserved
loop-token-preserved c =
    let written = c.args.written.now in
    let parts = pieces 47 c.args.tokens.now in
    let next = turn (goal.at.loop-token-preserved c).In-Some in
    let on = walk_on (dialects_in c.args.known.now) written parts (length c.loop-token.yielded) c.in-Some.token.now (walk_of c.loop-token.walk) (walk_of c.in_ok-walk.walk) next.0 next.1 c.in_ok-walk.ensures.reached in
    ap (λ n. spec.walk (dialects_in c.args.known.now) written (drop n parts) (walk_of c.in_ok-walk.walk)) (length_push c.loop-token.yielded c.in-Some.token) ∙ sym on ∙ c.loop-token.invariant

pub returns-in_err-walk-clause-refused : goal.returns-in_err-walk-clause-refused
returns-in_err-walk-clause-refused c =
    let written = c.args.written.now in
    let parts = pieces 47 c.args.tokens.now in
    let next = turn (goal.at.returns-in_err-walk-clause-refused c).In-Some in
    let stops = walk_stops (dialects_in c.args.known.now) written parts (length c.loop-token.yielded) c.in-Some.token.now (walk_of c.loop-token.walk) c.in_err-walk.field-0.0 next.0 next.1 c.in_err-walk.ensures.refused in
    kept c.from_residual.result c.in_err-walk.field-0.0 (Refuses (spec.walk (dialects_in c.args.known.now) written parts (walk_of c.args.self))) c.from_residual.ensures.1 (refuses_same _ _ c.in_err-walk.field-0.0 c.loop-token.invariant stops)

pub returns-clause-reached : goal.returns-clause-reached
returns-clause-reached c =
    let written = c.args.written.now in
    let parts = pieces 47 c.args.tokens.now in
    let split = c.split-token-items.ensures in
    let road = YieldsList-at c.into_iter-token-iterator.ensures.into_iter_gives (YieldsList-from_str_split 47 c.args.tokens.now (lit< tt) split.text split.has_more split.pattern) in
    let end = YieldsList-end road c.loop-token.yielded _ c.loop-token.yielded_by _ _ c.in-None.is c.next.ensures.steps in
    sym c.loop-token.invariant ∙ at_drop_all (λ ps. spec.walk (dialects_in c.args.known.now) written ps (walk_of c.loop-token.walk)) parts (length c.loop-token.yielded) (omega (arith, end.1))
