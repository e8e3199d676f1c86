use Rattle.std.proofs.Common.{[]}
use Rattle.schema_registries.specs.Roots.{root_on}
use Rattle.validator_program.proofs.Alone.{builds_with}
use Rattle.validator_program.proofs.preparing.prepare.Goals as goal

pub returns-in-Ok : goal.returns-in-Ok
returns-in-Ok g c =
    let d = c.in_ok-documents.documents in
    let of_documents = c.in_ok-documents.ensures in
    let build = c.in-Ok.ensures in
    let root = root_on d.registry [] in
    record {
      root = root;
      built = record {
        parent = d.registry.parent;
        prepared = of_documents.prepared;
        builds = builds_with d.registry.parent root of_documents.prepared.accepted d.options.node_limit of_documents.node_limit build.made.sound build.within build.met;
      };
      made = build.made;
    }
