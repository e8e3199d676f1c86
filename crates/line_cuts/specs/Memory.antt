-- What a clause reads of a device in memory.
use Rattle.std.specs.Prelude.{ℕ, ◌-◌, List, min, max, Some, None, option_map}
use Rattle.std.specs.declared.option.Option.{Option}
use Rattle.line_cuts.specs.declared.memory.Gate.{Gate}
use Rattle.line_cuts.specs.declared.memory.MemorySource.{MemorySource}
use Rattle.line_cuts.specs.declared.memory.MemorySink.{MemorySink}

-- n, and no more than the limit
abbrev pub capped : Option ℕ → ℕ → ℕ
capped None n = n
capped (Some limit) n = min limit n

-- how many of n bytes pass at once
abbrev pub passing : Gate → ℕ → ℕ
passing g n = capped g.left (min (max 1 g.piece) n)

-- the gate once n bytes have passed
abbrev pub passed : Gate → ℕ → Gate
passed g n = record g { left = option_map (λ left. left - n) g.left }

-- the bytes not yet given
abbrev pub source_rest : MemorySource → List ℕ
source_rest s = s.rest.now

-- what lets its bytes pass
abbrev pub source_gate : MemorySource → Gate
source_gate s = s.gate

-- how often a read has failed
abbrev pub source_failures : MemorySource → ℕ
source_failures s = s.failures

-- how many reads are left
abbrev pub source_turns : MemorySource → ℕ
source_turns s = s.turns

-- the bytes taken
abbrev pub sink_taken : MemorySink → List ℕ
sink_taken s = s.taken.items

-- what lets its bytes pass
abbrev pub sink_gate : MemorySink → Gate
sink_gate s = s.gate

-- how often a write has failed
abbrev pub sink_failures : MemorySink → ℕ
sink_failures s = s.failures
