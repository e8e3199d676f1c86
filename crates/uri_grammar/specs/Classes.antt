-- The bytes that a kind of component allows.
use Rattle.std.specs.Prelude.{ℕ, ◌==◌, Bool, ◌||◌, codes}
use Rattle.uri_grammar.specs.Texts.{has}
use Rattle.uri_grammar.specs.Addresses.{is_unreserved, is_sub_delim}
use Rattle.uri_grammar.specs.Grammar.{is_pchar}
use Rattle.uri_grammar.specs.declared.characters.Class.{Class}
use Rattle.uri_grammar.specs.declared.characters.Class.TheVariants.{RegName, Userinfo, Path, Query}

abbrev pub allows : Class → ℕ → Bool
allows RegName b = is_unreserved b || is_sub_delim b
allows Userinfo b = is_unreserved b || is_sub_delim b || b == 58
allows Path b = is_pchar b || b == 47
allows Query b = is_pchar b || has b (codes "/?")
