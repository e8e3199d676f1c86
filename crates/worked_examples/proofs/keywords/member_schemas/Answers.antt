use Rattle.worked_examples.proofs.MemberSchemasRows.{member_schemas_hold}
use Rattle.worked_examples.proofs.keywords.member_schemas.Goals as goal

pub returns : goal.returns
returns c = member_schemas_hold
