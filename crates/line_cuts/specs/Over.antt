-- What a clause reads of a device over std's traits.
use Rattle.std.specs.Prelude.{ℕ}
use Rattle.line_cuts.specs.declared.over.OverRead.{OverRead}
use Rattle.line_cuts.specs.declared.over.OverWrite.{OverWrite}

-- the reader, at `into_inner`
abbrev pub reader : {R : Type 0} → OverRead R → R
reader s = s.inner

-- how often a read has failed
abbrev pub failed_reads : {R : Type 0} → OverRead R → ℕ
failed_reads s = s.failures

-- how many reads of the reader are left
abbrev pub reads_left : {R : Type 0} → OverRead R → ℕ
reads_left s = s.turns

-- the writer, at `into_inner`
abbrev pub writer : {W : Type 0} → OverWrite W → W
writer s = s.inner

-- how often a write has failed
abbrev pub failed_writes : {W : Type 0} → OverWrite W → ℕ
failed_writes s = s.failures
