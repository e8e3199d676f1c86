-- What a location that owns its text stands for.
use Rattle.std.specs.Prelude.{ℕ, List}
use Rattle.location_texts.specs.declared.location.Location.{Location}

abbrev pub text_of : Location → List ℕ
text_of location = location
