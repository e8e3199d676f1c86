use Rattle.std.proofs.Common.{◌≡◌, ◌∙◌, ◌++◌, ◌∷◌, [], ◌+◌, ℕ, List, Option, map, drop, ap, sym, option_map}
use Rattle.std.specs.Prelude.{slice_get}
use Rattle.std.specs.List.{flat_map}
use Rattle.std.proofs.lemmas.List.{drop_more, drop_all}
use Rattle.schema_definitions.specs.Words.{listed}
use Rattle.schema_definitions.specs.DocumentCauses.{circular_metaschema}
use Rattle.schema_dialects.specs.Dialects.{dialects_in}
use Rattle.document_index.specs.Seen.{standing_of}
use Rattle.document_laws.specs.Stages.{anew_at}
use Rattle.document_index.proofs.stages.first_anew.Goals as goal

pub returns-in-Some : goal.returns-in-Some
returns-in-Some c =
    let i = c.loop-standing.standing-index in
    let xs = c.args.standings.now in
    let s = c.standing-item.result in
    let uri : List ℕ = c.in-Some.uri in
    let anew = anew_at (dialects_in c.args.told.now) (dialects_in c.args.after.now) in
    let next : drop i xs ≡ s ∷ drop (i + 1) xs = drop_more xs i s c.loop-standing-test.true ∙ ap (λ x. x ∷ drop (i + 1) xs) (sym c.standing-item.is) in
    let met : circular_metaschema uri ∷ [] ≡ anew (standing_of s) = ap (λ (o : Option (List ℕ)). listed (option_map circular_metaschema o)) (sym c.in-Some.is) ∙ c.in_ok-uri.ensures in
    ap (λ cs. slice_get (cs ++ flat_map anew (map standing_of (drop (i + 1) xs))) 0) met
    ∙ ap (λ l. slice_get (flat_map anew (map standing_of l)) 0) (sym next)
    ∙ c.loop-standing.invariant

pub loop-standing-preserved : goal.loop-standing-preserved
loop-standing-preserved c =
    let i = c.loop-standing.standing-index in
    let xs = c.args.standings.now in
    let s = c.standing-item.result in
    let anew = anew_at (dialects_in c.args.told.now) (dialects_in c.args.after.now) in
    let next : drop i xs ≡ s ∷ drop (i + 1) xs = drop_more xs i s c.loop-standing-test.true ∙ ap (λ x. x ∷ drop (i + 1) xs) (sym c.standing-item.is) in
    let met : [] ≡ anew (standing_of s) = ap (λ (o : Option (List ℕ)). listed (option_map circular_metaschema o)) (sym c.in_default.is) ∙ c.in_ok-uri.ensures in
    ap (λ cs. slice_get (cs ++ flat_map anew (map standing_of (drop (i + 1) xs))) 0) met
    ∙ ap (λ l. slice_get (flat_map anew (map standing_of l)) 0) (sym next)
    ∙ c.loop-standing.invariant

pub returns : goal.returns
returns c =
    let xs = c.args.standings.now in
    let anew = anew_at (dialects_in c.args.told.now) (dialects_in c.args.after.now) in
    ap (λ l. slice_get (flat_map anew (map standing_of l)) 0) (sym (drop_all c.loop-standing.standing-index xs c.loop-standing-test.false)) ∙ c.loop-standing.invariant
