-- The value of a line by what reading it told.
use Rattle.std.proofs.Common.{◌≡◌, ◌∙◌, ℕ, List, Bool, true, false, Option, Some, None, if◌then◌else◌, option_and_then, refl, ap}
use Rattle.std.specs.Str.{is_utf8}
use Rattle.serde_json.specs.Data.{Data}
use Rattle.serde_json.specs.Read.{read}
use Rattle.json_values.specs.Equality.{is_tree}
use Rattle.schema_definitions.specs.Lines.{line_value}

abbrev kept : Data → Option Data
kept d = if is_tree d then Some d else None

pub value-read : (text : List ℕ) (d : Data) → is_utf8 text ≡ true → read text ≡ Some d → is_tree d ≡ true → line_value text ≡ Some d
value-read text d valid e tree =
    ap (λ u. if u then option_and_then kept (read text) else None) valid ∙ ap (option_and_then kept) e ∙ ap (λ t. if t then Some d else None) tree

by_test : (b : Bool) (o : Option Data) → (b ≡ true → o ≡ None) → (if b then option_and_then kept o else None) ≡ None
by_test true o h = ap (option_and_then kept) (h refl)
by_test false o h = refl

pub value-none : (text : List ℕ) → (is_utf8 text ≡ true → read text ≡ None) → line_value text ≡ None
value-none text h = by_test (is_utf8 text) (read text) h
