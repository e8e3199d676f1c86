use Rattle.document_laws.proofs.Contents.{children_contents}
use Rattle.document_laws.proofs.subschemas.children_are_subschemas.Goals as goal

pub returns : goal.returns
returns c = children_contents
