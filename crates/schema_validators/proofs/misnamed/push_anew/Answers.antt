use Rattle.std.proofs.Common.{◌∙◌, ap, subst}
use Rattle.std.proofs.lemmas.Result.{on_ok_weaker}
use Rattle.document_index.specs.Checked.{unknown_by}
use Rattle.document_index.specs.Seen.{standing_of}
use Rattle.schema_validators.specs.Misnamed.{Adds, awaiting}
use Rattle.schema_validators.proofs.misnamed.push_anew.Goals as goal

pub returns : goal.returns
returns c =
    let s = standing_of c.args.standing.now in
    let old = c.args.causes.now.items in
    let new = c.push_circular.new.causes.items in
    on_ok_weaker c.push_circular.result (λ h docs there.
    subst (λ why. Adds (awaiting s why) old new) (c.in_ok-why.ensures docs there ∙ ap (unknown_by docs) c.in_ok-clone.ensures.cases) h) c.push_circular.ensures
