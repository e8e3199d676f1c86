use Rattle.std.proofs.Common.{◌≡◌, drop, map}
use Rattle.schema_drafts.specs.Drafts.{draft_among}
use Rattle.schema_drafts.proofs.draft.draft_among.Given as goal

abbrev pub invariant-loop-row : goal.invariant-loop-row
invariant-loop-row l = draft_among (map (λ r. (r.0.now, r.1)) l.rows) l.uri ≡ draft_among (map (λ r. (r.0.now, r.1)) (drop l.row-index l.rows)) l.uri
