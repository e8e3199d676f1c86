use Rattle.std.proofs.Common.{◌∙◌, map, option_map, ap, sym}
use Rattle.schema_definitions.specs.DocumentCauses.{circular_metaschema, told_anew}
use Rattle.document_index.specs.Seen.{document_of}
use Rattle.document_index.proofs.StageLemmas.{no_first}
use Rattle.document_index.proofs.told.meta_schemas.Goals as goal

pub returns-clause-rests : goal.returns-clause-rests
returns-clause-rests c = λ none. no_first (told_anew (map document_of c.args.documents.now)) (sym c.in_ok-last_stage.ensures.anew ∙ ap (option_map circular_metaschema) none)
