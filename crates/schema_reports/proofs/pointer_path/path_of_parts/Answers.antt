use Rattle.std.proofs.Common.{◌≡◌, ◌<◌, ◌∷◌, length, get_or, drop, ap, sym, ◌∙◌, lit<, arith}
use Rattle.std.proofs.lemmas.Iterator.Splits.{YieldsList-from_str_split}
use Rattle.std.proofs.lemmas.Iterator.Consumers.{YieldsList-at, YieldsList-turn, YieldsList-end}
use Rattle.std.proofs.lemmas.List.{length_push, at_drop_all}
use Rattle.json_values.specs.Parts.{name}
use Rattle.uri_grammar.specs.Texts.{pieces}
use Rattle.schema_definitions.specs.Sites.{pushed}
use Rattle.schema_reports.proofs.PathLemmas.{pushed_on}
use Rattle.schema_reports.proofs.pointer_path.path_of_parts.Goals as goal
use Rattle.schema_reports.proofs.pointer_path.path_of_parts.Goals.{In-Some}

-- the part of a turn is the next piece
turn : (c : In-Some) → (length c.loop-part.yielded < length (pieces 47 c.args.parts.now))
    × (c.in-Some.part.now ≡ get_or (pieces 47 c.args.parts.now) (length c.loop-part.yielded) c.in-Some.part.now)
turn c =
    let split = c.split-part-items.ensures in
    let road = YieldsList-at c.into_iter-part-iterator.ensures.into_iter_gives (YieldsList-from_str_split 47 c.args.parts.now (lit< tt) split.text split.has_more split.pattern) in
    YieldsList-turn road c.loop-part.yielded _ c.loop-part.yielded_by _ _ c.in-Some.part c.in-Some.is c.next.ensures.steps

pub loop-part-preserved-in_ok-path : goal.loop-part-preserved-in_ok-path
loop-part-preserved-in_ok-path c =
    let parts = pieces 47 c.args.parts.now in
    let next = turn (goal.at.loop-part-preserved-in_ok-path c).In-Some in
    let longer = c.in_ok-path.ensures ∙ ap (λ t. name t ∷ c.loop-part.path) (c.as_str.ensures.value ∙ c.in_ok-name.ensures.value) in
    let on = pushed_on parts (length c.loop-part.yielded) c.in-Some.part.now c.loop-part.path c.in_ok-path.path next.0 next.1 longer in
    ap (λ n. pushed (drop n parts) c.in_ok-path.path) (length_push c.loop-part.yielded c.in-Some.part) ∙ sym on ∙ c.loop-part.invariant

pub loop-part-preserved : goal.loop-part-preserved
loop-part-preserved c =
    let parts = pieces 47 c.args.parts.now in
    let next = turn (goal.at.loop-part-preserved c).In-Some in
    let longer = c.in_ok-path.ensures ∙ ap (λ t. name t ∷ c.loop-part.path) (c.as_str.ensures.value ∙ c.in_ok-name.ensures.value) in
    let on = pushed_on parts (length c.loop-part.yielded) c.in-Some.part.now c.loop-part.path c.in_ok-path.path next.0 next.1 longer in
    ap (λ n. pushed (drop n parts) c.in_ok-path.path) (length_push c.loop-part.yielded c.in-Some.part) ∙ sym on ∙ c.loop-part.invariant

pub returns : goal.returns
returns c =
    let parts = pieces 47 c.args.parts.now in
    let split = c.split-part-items.ensures in
    let road = YieldsList-at c.into_iter-part-iterator.ensures.into_iter_gives (YieldsList-from_str_split 47 c.args.parts.now (lit< tt) split.text split.has_more split.pattern) in
    let end = YieldsList-end road c.loop-part.yielded _ c.loop-part.yielded_by _ _ c.in-None.is c.next.ensures.steps in
    sym (at_drop_all (λ ps. pushed ps c.loop-part.path) parts (length c.loop-part.yielded) (omega (arith, end.1))) ∙ c.loop-part.invariant
