-- What the files of a map hold.
use Rattle.std.specs.Prelude.{ℕ, List}
use Rattle.std.specs.Option.{option_map_or}
use Rattle.std.specs.BTreeMap.{get_by_text}
use Rattle.program_inputs.specs.Held.{Held, Missing, Holds}
use Rattle.program_inputs.specs.declared.map.MapFiles.{MapFiles}

abbrev pub held_in : MapFiles → List ℕ → Held
held_in m name = option_map_or (λ v. Holds v.items) (get_by_text m.files name) Missing
