use Rattle.std.proofs.Common.{◌≡◌, ◌∙◌, sym, ap, subst, map, drop, ◌+◌, [], ◌++◌}
use Rattle.std.proofs.lemmas.List.{at_drop_more, drop_all}
use Rattle.std.specs.List.{flat_map}
use Rattle.document_index.specs.Seen.{standing_of}
use Rattle.document_index.specs.Checked.{borne_in, unknown_by, causes_at}
use Rattle.document_index.specs.Named.{NamesOne}
use Rattle.document_index.proofs.CauseNames.{kept, named-before}
use Rattle.document_index.proofs.causes.check_places.Goals as goal

pub returns-in_err-check_place-clause-refused : goal.returns-in_err-check_place-clause-refused
returns-in_err-check_place-clause-refused c =
    let e = c.in_err-check_place.field-0.0 in
    let here = c.standing-item.result in
    let i = c.loop-standing.standing-index in
    let all = c.args.standings.now in
    kept c.from_residual.result e _ c.from_residual.ensures.1 (λ docs there.
    let causes = causes_at (borne_in c.args.index.now) (unknown_by docs) in
    let met = c.loop-standing.invariant docs there ∙ at_drop_more (λ xs. flat_map causes (map standing_of xs)) all i here c.loop-standing-test.true in
    let named = subst (λ s. NamesOne (causes (standing_of s)) e) c.standing-item.is (c.in_err-check_place.ensures.refused docs there) in
    subst (λ cs. NamesOne cs e) (sym met) (named-before _ (flat_map causes (map standing_of (drop (i + 1) all))) e named))

pub loop-standing-preserved : goal.loop-standing-preserved
loop-standing-preserved c = λ docs there.
    let here = c.standing-item.result in
    let i = c.loop-standing.standing-index in
    let all = c.args.standings.now in
    let causes = causes_at (borne_in c.args.index.now) (unknown_by docs) in
    let met = c.loop-standing.invariant docs there ∙ at_drop_more (λ xs. flat_map causes (map standing_of xs)) all i here c.loop-standing-test.true in
    met ∙ ap (λ cs. cs ++ flat_map causes (map standing_of (drop (i + 1) all))) (subst (λ s. causes (standing_of s) ≡ []) c.standing-item.is (c.in_ok-check_place.ensures.ok docs there))

pub returns-clause-ok : goal.returns-clause-ok
returns-clause-ok c = λ docs there.
    let causes = causes_at (borne_in c.args.index.now) (unknown_by docs) in
    c.loop-standing.invariant docs there ∙ ap (λ xs. flat_map causes (map standing_of xs)) (drop_all c.loop-standing.standing-index c.args.standings.now c.loop-standing-test.false)
