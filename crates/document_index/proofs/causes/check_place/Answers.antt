use Rattle.std.proofs.Common.{◌≡◌, ◌∙◌, [], sym, ap, subst}
use Rattle.std.proofs.lemmas.Result.{on_ok_weaker}
use Rattle.schema_definitions.specs.Places.{schema_in_force}
use Rattle.schema_definitions.specs.Bearers.{is_root}
use Rattle.schema_definitions.specs.DocumentCauses.{unless_reference}
use Rattle.document_index.specs.Seen.{standing_of}
use Rattle.document_index.specs.Checked.{borne_in, unknown_by, of_text, awaited_causes}
use Rattle.document_index.specs.Named.{NamesOne}
use Rattle.document_index.proofs.CauseNames.{kept, named-before, named-behind, nothing-before, if-err}
use Rattle.document_index.proofs.causes.check_place.Goals as goal

pub returns-in_err-check_text-clause-refused : goal.returns-in_err-check_text-clause-refused
returns-in_err-check_text-clause-refused c =
    let s = standing_of c.args.standing.now in
    let e = c.in_err-check_text.field-0.0 in
    let named = subst (λ o. NamesOne (of_text unless_reference o) e) c.schema_in_force.ensures c.in_err-check_text.ensures.refused in
    kept c.from_residual.result e _ c.from_residual.ensures.1 (λ docs there.
    named-before (of_text unless_reference (schema_in_force s.place.dialect.siblings (is_root s.place.path) s.place.contents)) (awaited_causes (borne_in c.args.index.now) (unknown_by docs) s) e named)

pub returns-clause-ok : goal.returns-clause-ok
returns-clause-ok c =
    let s = standing_of c.args.standing.now in
    let here = of_text unless_reference (schema_in_force s.place.dialect.siblings (is_root s.place.path) s.place.contents) in
    let none : here ≡ [] = sym (ap (of_text unless_reference) c.schema_in_force.ensures) ∙ c.in_ok-check_text.ensures.ok in
    on_ok_weaker c.check_awaited.result (λ h docs there. nothing-before here (awaited_causes (borne_in c.args.index.now) (unknown_by docs) s) none (h docs there)) c.check_awaited.ensures.ok

pub returns-clause-refused : goal.returns-clause-refused
returns-clause-refused c =
    let s = standing_of c.args.standing.now in
    let here = of_text unless_reference (schema_in_force s.place.dialect.siblings (is_root s.place.path) s.place.contents) in
    if-err _ _ c.check_awaited.result (λ e h docs there. named-behind here (awaited_causes (borne_in c.args.index.now) (unknown_by docs) s) e (h docs there)) c.check_awaited.ensures.refused
