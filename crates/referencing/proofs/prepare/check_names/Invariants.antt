use Rattle.std.proofs.Common.{◌≡◌, map, drop}
use Rattle.std.specs.List.{list_all}
use Rattle.document_index.specs.Seen.{document_of}
use Rattle.referencing.specs.Stands.{contents_rise}
use Rattle.referencing.proofs.prepare.check_names.Given as goal

abbrev pub invariant-loop-document : goal.invariant-loop-document
invariant-loop-document l = list_all contents_rise (map document_of l.documents) ≡ list_all contents_rise (map document_of (drop l.document-index l.documents))
