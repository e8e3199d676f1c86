-- What the name of a file holds, and what a read of it answers.
use Rattle.std.specs.Prelude.{◌≡◌, ℕ, List, ⊤, Result, Ok, Err}
use Rattle.std.specs.declared.vec.Vec.{Vec}
use Rattle.program_inputs.specs.declared.files.FileError.{FileError}
use Rattle.program_inputs.specs.declared.files.FileError.TheVariants.{Unreadable, Memory}

-- it is not known, there is no such file, or it has these bytes
pub data Held : Type 0 where
  Unknown : Held
  Missing : Held
  Holds : List ℕ → Held

-- the bytes that are held; no file is unreadable, and want of memory is told apart
abbrev pub IsReadOf : {A : Type 0} → Held → Result (Vec ℕ A) FileError → Type 0
IsReadOf Unknown r = ⊤
IsReadOf Missing r = r ≡ Err Unreadable
IsReadOf (Holds bytes) (Ok v) = v.items ≡ bytes
IsReadOf (Holds bytes) (Err e) = e ≡ Memory
