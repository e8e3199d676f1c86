use Rattle.std.proofs.Common.{◌≡◌, ◌-◌, ◌≤◌, ◌↔◌, length, drop}
use Rattle.serde_json.specs.Find.{unescape}
use Rattle.json_pointers.proofs.pointers.unescapes_to.Given as goal

abbrev pub invariant-loop-at : goal.invariant-loop-at
invariant-loop-at l = ((unescape l.token ≡ l.name) ↔ (unescape (drop l.at l.token) ≡ drop l.matched l.name)) × (l.at ≤ length l.token) × (l.matched ≤ length l.name)

abbrev pub decreases-loop-at : goal.decreases-loop-at
decreases-loop-at l = length l.token - l.at
