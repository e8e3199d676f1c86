use Rattle.std.proofs.Common.{sym, subst}
use Rattle.document_index.specs.Seen.{standing_of}
use Rattle.document_index.specs.Checked.{borne_in, unknown_by, awaited_from}
use Rattle.document_index.specs.Named.{NamesOne}
use Rattle.document_index.proofs.CauseNames.{named-one}
use Rattle.document_index.proofs.causes.check_awaited.Goals as goal

pub returns-in-Some-clause-refused : goal.returns-in-Some-clause-refused
returns-in-Some-clause-refused c = λ docs there.
    let e = c.refuse_awaited.result in
    subst (λ o. NamesOne (awaited_from (borne_in c.args.index.now) (unknown_by docs) (standing_of c.args.standing.now) o) e) (sym c.in-Some.is) (named-one (unknown_by docs c.in-Some.uri) e (c.refuse_awaited.ensures docs there))
