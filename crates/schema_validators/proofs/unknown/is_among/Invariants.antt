use Rattle.std.proofs.Common.{◌≡◌, drop, map}
use Rattle.schema_drafts.specs.Drafts.{is_listed}
use Rattle.schema_validators.proofs.unknown.is_among.Given as goal

abbrev pub invariant-loop-listed : goal.invariant-loop-listed
invariant-loop-listed l = is_listed l.name (map (λ k. k.now) l.names) ≡ is_listed l.name (map (λ k. k.now) (drop l.listed-index l.names))
