use Rattle.std.proofs.Common.{◌≡◌, ◌∙◌, ◌+◌, ℕ, suc, None, map, option_map, ap, sym, subst, arith}
use Rattle.std.specs.Prelude.{slice_get}
use Rattle.schema_definitions.specs.Bearers.{dialects}
use Rattle.schema_definitions.specs.DocumentCauses.{circular_metaschema}
use Rattle.document_index.specs.Seen.{document_of}
use Rattle.document_laws.specs.Stages.{anew_after}
use Rattle.document_index.specs.Told.{Tells}
use Rattle.document_index.proofs.StageLemmas.{not_some, later_told, later_none}
use Rattle.document_index.proofs.told.stage_after.Goals.{then-loop-stage-test+else-is_some, else-loop-stage-test}
use Rattle.document_index.proofs.told.stage_after.Goals as goal

pub loop-stage-init : goal.loop-stage-init
loop-stage-init c = record { within = omega arith; told = c.requires.told; anew = c.requires.anew; rests = c.requires.rests }

pub loop-stage-preserved : goal.loop-stage-preserved
loop-stage-preserved c =
    let docs = map document_of c.args.documents.now in
    let n : ℕ = c.loop-stage.stage + 1 in
    let k = c.loop-stage.next.told.meta_schemas in
    let one : suc c.loop-stage.stage ≡ n = omega arith in
    let tells : Tells k (dialects docs n) = subst (λ (i : ℕ). Tells k (dialects docs i)) one c.loop-stage.invariant.told in
    record { within = omega (arith, c.loop-stage-test.true); told = c.in_ok-next.ensures.next n tells; anew = c.in_ok-next.ensures.anew n tells; rests = c.in_ok-next.ensures.rests }

pub returns-clause-told : goal.returns-clause-told
returns-clause-told c =
    let docs = map document_of c.args.documents.now in
    let n = c.loop-stage.stage in
    let m = c.args.stages in
    let next = c.loop-stage.next in
    let here = c.loop-stage.invariant in
    elim c.loop-stage-test.branch [
      | then-loop-stage-test+else-is_some w ↦
          let none : next.told.anew ≡ None = not_some next.told.anew w.is_some.result w.is_some.ensures w.if-is_some.false in
          later_told docs n m (sym here.anew ∙ ap (option_map circular_metaschema) none) here.within next.told.meta_schemas here.told
      | else-loop-stage-test w ↦ let all : n ≡ m = omega (arith, here.within, w.loop-stage-test.false) in subst (λ (i : ℕ). Tells next.told.meta_schemas (dialects docs (suc i))) all here.told
    ]

pub returns-clause-anew : goal.returns-clause-anew
returns-clause-anew c =
    let docs = map document_of c.args.documents.now in
    let n = c.loop-stage.stage in
    let m = c.args.stages in
    let next = c.loop-stage.next in
    let here = c.loop-stage.invariant in
    elim c.loop-stage-test.branch [
      | then-loop-stage-test+else-is_some w ↦
          let none : next.told.anew ≡ None = not_some next.told.anew w.is_some.result w.is_some.ensures w.if-is_some.false in
          ap (option_map circular_metaschema) none ∙ sym (later_none docs n m (sym here.anew ∙ ap (option_map circular_metaschema) none) here.within)
      | else-loop-stage-test w ↦ let all : n ≡ m = omega (arith, here.within, w.loop-stage-test.false) in here.anew ∙ ap (λ (i : ℕ). slice_get (anew_after docs i) 0) all
    ]

pub returns-clause-rests : goal.returns-clause-rests
returns-clause-rests c = c.loop-stage.invariant.rests
