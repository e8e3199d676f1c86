use Rattle.std.proofs.Common.{◌≡◌, ◌∙◌, sym, ap, subst, Some, option_map, slice_get}
use Rattle.schema_definitions.specs.DocumentCauses.{circular_metaschema, told_anew}
use Rattle.document_index.specs.Named.{NamesCause}
use Rattle.document_index.proofs.CauseNames.{named-in, first-in}
use Rattle.document_index.proofs.StageLemmas.{no_first}
use Rattle.document_index.proofs.survey.told_once.Goals as goal

pub returns-in-Some-clause-refused : goal.returns-in-Some-clause-refused
returns-in-Some-clause-refused c = λ docs anew.
    let e = c.circular_metaschema.result in
    let uri = c.in-Some.uri in
    let first : slice_get (told_anew docs) 0 ≡ Some (circular_metaschema uri) = sym anew ∙ ap (option_map (λ x. circular_metaschema x)) c.in-Some.is in
    named-in (told_anew docs) (circular_metaschema uri) e (first-in (told_anew docs) (circular_metaschema uri) first)
    (subst (λ u. NamesCause (circular_metaschema u) e) c.as_str.ensures.value c.circular_metaschema.ensures)

pub returns-in-None-clause-ok : goal.returns-in-None-clause-ok
returns-in-None-clause-ok c = λ docs anew. no_first (told_anew docs) (sym anew ∙ ap (option_map (λ x. circular_metaschema x)) c.in-None.is)
