use Rattle.std.proofs.Common.{List, [], ◌∷◌, ◌++◌, sym, subst}
use Rattle.std.specs.List.{AllZip}
use Rattle.document_index.specs.Seen.{standing_of}
use Rattle.reached_sites.specs.declared.cause.BuildCause.{BuildCause}
use Rattle.schema_validators.specs.Misnamed.{Misnamed, NamesMisnamed, misnamed}
use Rattle.schema_validators.proofs.MisnamedLemmas.{adds-one}
use Rattle.schema_validators.proofs.misnamed.push_cause.Goals as goal

pub returns : goal.returns
returns c = λ cause names found told.
    let m : Misnamed = misnamed (standing_of c.args.standing.now) c.args.member.now c.args.text.now cause in
    subst (λ (l : List BuildCause). AllZip NamesMisnamed (found ++ m ∷ []) l) (sym {A = List BuildCause} c.in_ok-push.ensures.items)
    (adds-one m c.in_ok-cause_at.field-0 c.args.causes.now.items (c.in_ok-cause_at.ensures cause names) found told)
