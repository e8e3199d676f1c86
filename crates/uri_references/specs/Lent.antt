-- What a borrowed reference stands for.
use Rattle.std.specs.Prelude.{ℕ, List}
use Rattle.uri_references.specs.declared.borrowed.UriRef.{UriRef}

abbrev pub text_of : UriRef → List ℕ
text_of reference = reference.text.now
