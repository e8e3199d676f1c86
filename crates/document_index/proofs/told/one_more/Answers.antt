use Rattle.std.proofs.Common.{◌≡◌, ◌∙◌, ℕ, List, None, map, ap, sym, option_map}
use Rattle.std.specs.Prelude.{slice_get}
use Rattle.std.specs.List.{flat_map}
use Rattle.schema_definitions.specs.Words.{last_that}
use Rattle.schema_definitions.specs.Bearers.{Standing, bears, dialect_by}
use Rattle.schema_definitions.specs.DocumentCauses.{circular_metaschema}
use Rattle.schema_dialects.specs.Dialects.{dialects_in}
use Rattle.document_index.specs.Seen.{document_of, standing_of}
use Rattle.document_laws.specs.Stages.{anew_at}
use Rattle.document_index.proofs.StageLemmas.{next, anew, no_first, stays-under}
use Rattle.document_index.proofs.told.one_more.Goals as goal

pub returns-clause-next : goal.returns-clause-next
returns-clause-next c =
    let ds = map document_of c.args.documents.now in
    let k = c.in_ok-meta_schemas.meta_schemas in
    let ss : List Standing = map standing_of c.in_ok-places.places.items in
    let borne : (q : List ℕ) → dialects_in k q ≡ option_map dialect_by (last_that (bears q) ss) =
    λ q. c.in_ok-meta_schemas.ensures q ∙ ap (λ l. option_map dialect_by (last_that (bears q) (map standing_of l))) c.deref.ensures.value in
    λ n tells. next ds n c.args.told.now k ss tells c.in_ok-places.ensures.stand borne

pub returns-clause-anew : goal.returns-clause-anew
returns-clause-anew c =
    let ds = map document_of c.args.documents.now in
    let told = c.args.told.now in
    let k = c.in_ok-meta_schemas.meta_schemas in
    let ss : List Standing = map standing_of c.in_ok-places.places.items in
    let borne : (q : List ℕ) → dialects_in k q ≡ option_map dialect_by (last_that (bears q) ss) =
    λ q. c.in_ok-meta_schemas.ensures q ∙ ap (λ l. option_map dialect_by (last_that (bears q) (map standing_of l))) c.deref.ensures.value in
    λ n tells. c.in_ok-anew.ensures
    ∙ ap (λ l. slice_get (flat_map (anew_at (dialects_in told) (dialects_in k)) (map standing_of l)) 0) c.deref-2.ensures.value
    ∙ ap (λ cs. slice_get cs 0) (anew ds n told k ss tells c.in_ok-places.ensures.stand borne)

pub returns-clause-rests : goal.returns-clause-rests
returns-clause-rests c = λ at-rest.
    let told = c.args.told.now in
    let k = c.in_ok-meta_schemas.meta_schemas in
    let found = c.in_ok-places.places.items in
    let first : slice_get (flat_map (anew_at (dialects_in told) (dialects_in k)) (map standing_of found)) 0 ≡ None =
    sym (c.in_ok-anew.ensures ∙ ap (λ l. slice_get (flat_map (anew_at (dialects_in told) (dialects_in k)) (map standing_of l)) 0) c.deref-2.ensures.value)
    ∙ ap (option_map circular_metaschema) at-rest in
    stays-under (map document_of c.args.documents.now) told k found c.in_ok-places.ensures.located (no_first (flat_map (anew_at (dialects_in told) (dialects_in k)) (map standing_of found)) first)
