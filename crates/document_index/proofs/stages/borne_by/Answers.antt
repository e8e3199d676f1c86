use Rattle.std.proofs.Common.{◌≡◌, ◌∙◌, ◌++◌, ◌∷◌, [], ◌+◌, map, take, ap, sym, option_map}
use Rattle.std.proofs.lemmas.List.{take_more, take_all, map-append}
use Rattle.schema_definitions.specs.Words.{last_that}
use Rattle.schema_definitions.specs.Bearers.{bears, dialect_by}
use Rattle.schema_dialects.specs.Dialects.{dialects_in}
use Rattle.document_index.specs.Seen.{standing_of}
use Rattle.document_index.proofs.StageLemmas.{borne-push}
use Rattle.document_index.proofs.stages.borne_by.Goals as goal

pub loop-standing-preserved : goal.loop-standing-preserved
loop-standing-preserved c =
    let i = c.loop-standing.standing-index in
    let xs = c.args.standings.now in
    let s = c.standing-item.result in
    let ss = map standing_of (take i xs) in
    let more : map standing_of (take (i + 1) xs) ≡ ss ++ standing_of s ∷ [] =
    ap (map standing_of) (take_more xs i s c.loop-standing-test.true ∙ ap (λ x. take i xs ++ x ∷ []) (sym c.standing-item.is)) ∙ map-append standing_of (take i xs) (s ∷ []) in
    λ q. c.in_ok-put_uris.ensures q
    ∙ borne-push q ss (standing_of s) (dialects_in c.loop-standing.borne q) (c.loop-standing.invariant q)
    ∙ ap (λ l. option_map dialect_by (last_that (bears q) l)) (sym more)

pub returns : goal.returns
returns c =
    let whole = take_all c.loop-standing.standing-index c.args.standings.now c.loop-standing-test.false in
    λ q. c.loop-standing.invariant q ∙ ap (λ l. option_map dialect_by (last_that (bears q) (map standing_of l))) whole
