-- What an owned URI stands for.
use Rattle.std.specs.Prelude.{ℕ, List}
use Rattle.uri_references.specs.declared.owned.Uri.{Uri}

abbrev pub owned_text : Uri → List ℕ
owned_text uri = uri
