use Rattle.schema_reports.specs.References.{text_of}
use Rattle.reached_sites.proofs.Spelling.{reference-spelled}
use Rattle.reached_sites.proofs.schema_path.SchemaPath.of_reference.Goals as goal

pub invariant_of-result : goal.invariant_of-result
invariant_of-result c = record { named = reference-spelled c.in_ok-path.field-0 (text_of c.followed.result) c.in_ok-path.ensures }
