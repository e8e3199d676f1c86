-- What is wrong with the entries of `dependencies`.
use Rattle.std.specs.Prelude.{◌∷◌, List, [], codes, Result}
use Rattle.json_values.specs.Parts.{name}
use Rattle.schema_definitions.specs.Rows.{BuildCause, keyword_value, Context, place_at, at}
use Rattle.applicator_reading.specs.Reads.{IsRefusedFor}
use Rattle.applicator_reading.specs.declared.reading.Reading.{Reading}
use Rattle.applicator_reading.specs.declared.reading.Reading.TheVariants as reading

-- they are refused for what a reading names
abbrev pub IsWrong : {A : Type 0} → Context → Reading → Result A (List BuildCause) → Type 0
IsWrong x (reading.Applied a) r = ⊥
IsWrong x reading.Nothing r = ⊥
IsWrong x (reading.Consequent schema) r = ⊥
IsWrong x (reading.Value expected) r = IsRefusedFor (keyword_value (place_at x (at (codes "dependencies"))) expected.now) r
IsWrong x (reading.Entry n expected) r = IsRefusedFor (keyword_value (place_at x (name n.now ∷ name (codes "dependencies") ∷ [])) expected.now) r
IsWrong x (reading.Element i expected) r = ⊥
