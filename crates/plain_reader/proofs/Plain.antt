-- Keywords with subschemas that note nothing of the value itself.
use Rattle.std.proofs.Common.{◌≡◌, ◌&&◌, Bool, false, ap}
use Rattle.applicators.specs.Asks.{may_note}
use Rattle.applicators.specs.Combined.{asks_of, is_every, has_notes}
use Rattle.applicators.specs.Applied.{Applicator}

-- those whose rule is another than that every answer is yes
pub once_plain : (a : Applicator) → is_every a ≡ false → has_notes a ≡ false
once_plain a once = ap (λ (b : Bool). b && may_note (asks_of a)) once
