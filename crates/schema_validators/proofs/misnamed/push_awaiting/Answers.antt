use Rattle.std.proofs.Common.{subst}
use Rattle.std.proofs.lemmas.Result.{on_ok_weaker}
use Rattle.document_index.specs.Seen.{standing_of}
use Rattle.schema_validators.specs.Misnamed.{Adds, awaiting}
use Rattle.schema_validators.proofs.misnamed.push_awaiting.Goals as goal

pub returns-in-Some : goal.returns-in-Some
returns-in-Some c =
    let s = standing_of c.args.standing.now in
    let old = c.args.causes.now.items in
    let new = c.push_circular.new.causes.items in
    on_ok_weaker c.push_circular.result (λ h docs there known.
    subst (λ why. Adds (awaiting s why) old new) (c.in-Some.ensures docs known) h) c.push_circular.ensures

pub returns-in-None : goal.returns-in-None
returns-in-None c = on_ok_weaker c.push_anew.result (λ h docs there known. h docs there) c.push_anew.ensures
