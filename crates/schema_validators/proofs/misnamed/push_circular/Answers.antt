use Rattle.std.proofs.Common.{◌⊎◌, [], ◌∷◌, codes, sym, subst}
use Rattle.std.proofs.lemmas.Result.{on_ok_weaker}
use Rattle.schema_definitions.specs.DocumentCauses.{circular_metaschema}
use Rattle.document_sources.specs.Causes.{IsMemory, NamesDocument}
use Rattle.document_index.specs.Awaited.{cause_of}
use Rattle.document_index.specs.Seen.{standing_of}
use Rattle.schema_validators.specs.Misnamed.{Adds, misnamed, awaiting}
use Rattle.schema_validators.proofs.misnamed.push_circular.Goals as goal

pub returns-in-Circular : goal.returns-in-Circular
returns-in-Circular c =
    let s = standing_of c.args.standing.now in
    let uri = c.in-Circular.uri in
    let e = c.circular_metaschema-error.result in
    let old = c.args.causes.now.items in
    let new = c.push_cause.new.causes.items in
    let named : IsMemory e ⊎ NamesDocument (circular_metaschema uri) e =
    subst (λ u. IsMemory e ⊎ NamesDocument (circular_metaschema u) e) c.as_str.ensures.value c.circular_metaschema-error.ensures in
    on_ok_weaker c.push_cause.result (λ h.
    subst (λ w. Adds (awaiting s (cause_of w)) old new) (sym c.in-Circular.is)
    (subst (λ t. Adds (misnamed s (codes "$schema") t (circular_metaschema uri) ∷ []) old new) c.schema_text-text.ensures
    (h (circular_metaschema uri) named))) c.push_cause.ensures
