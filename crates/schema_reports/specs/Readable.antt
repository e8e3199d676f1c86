-- References whose pointer, if they have one, is a text once it is decoded.
use Rattle.std.specs.Prelude.{ℕ, List, [], ◌∷◌, ◌==◌, Bool, true, if◌then◌else◌}
use Rattle.std.specs.Str.{is_utf8}
use Rattle.percent_encoding.specs.Percent.{percent_decode}
use Rattle.uri_grammar.specs.Texts.{cut_at}
use Rattle.schema_definitions.specs.Words.{or}

abbrev pub reads_as_pointer : List ℕ → Bool
reads_as_pointer [] = true
reads_as_pointer (b ∷ f) = if b == 47 then is_utf8 (percent_decode (b ∷ f)) else true

abbrev pub reads_as_path : List ℕ → Bool
reads_as_path t = reads_as_pointer (or [] (cut_at 35 t).1)
