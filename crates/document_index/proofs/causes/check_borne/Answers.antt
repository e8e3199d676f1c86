use Rattle.std.proofs.Common.{◌≡◌, ◌∙◌, sym, ap, subst, [], ◌∷◌, false, if◌then◌else◌, is_some}
use Rattle.schema_definitions.specs.DocumentCauses.{unretrieved}
use Rattle.document_index.specs.Indexes.{bearer_of}
use Rattle.document_index.specs.Named.{NamesOne}
use Rattle.document_index.specs.Checked.{borne_in}
use Rattle.document_index.proofs.CauseNames.{named-one, is_some-map}
use Rattle.document_index.proofs.causes.check_borne.Goals as goal

pub returns-else-is_some-clause-refused : goal.returns-else-is_some-clause-refused
returns-else-is_some-clause-refused c =
    let uri = c.args.uri.now in
    let nobody : borne_in c.args.index.now uri ≡ false = ap (borne_in c.args.index.now) (sym c.as_str.ensures.value) ∙ sym (ap is_some c.bearer.ensures) ∙ is_some-map (λ b. bearer_of b.now) c.bearer.result ∙ sym c.is_some.ensures ∙ c.if-is_some.false in
    subst (λ cs. NamesOne cs c.not_borne.result) (sym (ap (λ b. if b then [] else unretrieved uri ∷ []) nobody)) (subst (λ u. NamesOne (unretrieved u ∷ []) c.not_borne.result) c.as_str-else-is_some.ensures.value (named-one (unretrieved c.as_str-else-is_some.result.now) c.not_borne.result c.not_borne.ensures.document))
