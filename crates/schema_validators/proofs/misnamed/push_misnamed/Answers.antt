use Rattle.std.proofs.Common.{◌∙◌, ap, subst, codes}
use Rattle.std.proofs.lemmas.Result.{on_ok_weaker}
use Rattle.schema_definitions.specs.Bearers.{is_root}
use Rattle.schema_definitions.specs.Places.{schema_in_force}
use Rattle.document_index.specs.Checked.{unknown_by}
use Rattle.document_index.specs.Seen.{standing_of}
use Rattle.document_index.proofs.CauseNames.{root-length}
use Rattle.schema_validators.specs.Misnamed.{Adds, of_whole, behind_schema}
use Rattle.schema_validators.proofs.MisnamedLemmas.{adds-both}
use Rattle.schema_validators.proofs.misnamed.push_misnamed.Goals as goal

pub returns : goal.returns
returns c =
    let s = standing_of c.args.standing.now in
    let text = schema_in_force s.place.dialect.siblings (is_root s.place.path) s.place.contents in
    let old = c.args.causes.now.items in
    let some = c.push_whole.new.causes.items in
    let new = c.push_behind.new.causes.items in
    let first : Adds (of_whole s (codes "$schema") text) old some = subst (λ o. Adds (of_whole s (codes "$schema") o) old some)
    (c.schema_in_force-text.ensures ∙ ap (λ b. schema_in_force s.place.dialect.siblings b s.place.contents) (c.is_root.ensures ∙ root-length s.place.path))
    c.in_ok-push_whole.ensures in
    on_ok_weaker c.push_behind.result (λ h docs there known.
    adds-both (of_whole s (codes "$schema") text) (behind_schema (unknown_by docs) s s.place.awaits) old some new first (h docs there known)) c.push_behind.ensures
