use Rattle.std.proofs.Common.{◌≡◌, ◌++◌, drop, string_bytes}
use Rattle.schema_registries.specs.Described.{joined}
use Rattle.schema_registries.proofs.error.joined.Given as goal

-- the text and the parts that are left
abbrev pub invariant-loop-part : goal.invariant-loop-part
invariant-loop-part l = string_bytes l.text ++ joined (drop l.part-index l.parts) ≡ joined l.parts
