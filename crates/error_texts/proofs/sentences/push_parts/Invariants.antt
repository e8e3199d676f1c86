use Rattle.std.proofs.Common.{◌≡◌, ◌++◌, drop, string_bytes}
use Rattle.error_texts.specs.Sentences.{joined}
use Rattle.error_texts.proofs.sentences.push_parts.Given as goal

-- the text and the parts that are left
abbrev pub invariant-loop-part : goal.invariant-loop-part
invariant-loop-part l = string_bytes l.text ++ joined (drop l.part-index l.parts) ≡ string_bytes l.fn.text ++ joined l.parts
