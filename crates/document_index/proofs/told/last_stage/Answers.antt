use Rattle.std.proofs.Common.{◌≡◌, ◌∙◌, ◌≤◌, ℕ, None, is_some, map, option_map, refl, sym, ap, arith}
use Rattle.std.specs.Prelude.{slice_get}
use Rattle.schema_definitions.specs.Bearers.{how_many}
use Rattle.schema_definitions.specs.DocumentCauses.{circular_metaschema}
use Rattle.document_index.specs.Seen.{document_of}
use Rattle.document_laws.specs.Stages.{anew_after}
use Rattle.document_index.proofs.StageLemmas.{if_ok_weaker, not_some, later_told, later_none}
use Rattle.document_index.proofs.told.last_stage.Goals as goal

at_rest : (c : goal.Then-is_none) → c.in_ok-first.first.told.anew ≡ None
at_rest c = not_some c.in_ok-first.first.told.anew (is_some c.in_ok-first.first.told.anew) refl c.if-is_none.ensures

none_anew : (c : goal.Then-is_none) → slice_get (anew_after (map document_of c.args.documents.now) 0) 0 ≡ None
none_anew c = sym c.in_ok-first.ensures.anew ∙ ap (option_map circular_metaschema) (at_rest c)

pub returns-then-is_none-clause-told : goal.returns-then-is_none-clause-told
returns-then-is_none-clause-told c =
    let docs = map document_of c.args.documents.now in
    let all : 0 ≤ how_many docs = omega arith in
    later_told docs 0 (how_many docs) (none_anew c) all c.in_ok-first.first.told.meta_schemas c.in_ok-first.ensures.told

pub returns-then-is_none-clause-anew : goal.returns-then-is_none-clause-anew
returns-then-is_none-clause-anew c =
    let docs = map document_of c.args.documents.now in
    let all : 0 ≤ how_many docs = omega arith in
    ap (option_map circular_metaschema) (at_rest c) ∙ sym (later_none docs 0 (how_many docs) (none_anew c) all)

pub returns-in-Some-clause-anew : goal.returns-in-Some-clause-anew
returns-in-Some-clause-anew c =
    let docs = map document_of c.args.documents.now in
    let counted : c.in-Some.stages ≡ how_many docs = c.in-Some.ensures.1 in
    if_ok_weaker c.stage_after.result (λ s e. e ∙ ap (λ (n : ℕ). slice_get (anew_after docs n) 0) counted) c.stage_after.ensures.anew
