use Rattle.std.proofs.Common.{◌≡◌, drop, map}
use Rattle.schema_drafts.specs.Vocabularies.{vocabulary_among}
use Rattle.schema_dialects.specs.Named.{known_of}
use Rattle.schema_dialects.proofs.vocabulary.known_among.Given as goal

abbrev pub invariant-loop-row : goal.invariant-loop-row
invariant-loop-row l = vocabulary_among (map (λ r. (r.0.now, known_of r.1)) l.rows) l.text ≡ vocabulary_among (map (λ r. (r.0.now, known_of r.1)) (drop l.row-index l.rows)) l.text
