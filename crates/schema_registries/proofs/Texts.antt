-- The value of a JSON text.
use Rattle.std.proofs.Common.{◌≡◌, ℕ, List, Bool, true, false, Option, None, if◌then◌else◌, refl, ap}
use Rattle.std.specs.Str.{is_utf8}
use Rattle.serde_json.specs.Data.{Data}
use Rattle.serde_json.specs.Read.{read}
use Rattle.schema_registries.specs.Refused.{text_value}

pub read_value : (text : List ℕ) → is_utf8 text ≡ true → text_value text ≡ read text
read_value text h = ap (λ b. if b then read text else None) h

by_test : (b : Bool) (o : Option Data) → (b ≡ true → o ≡ None) → (if b then o else None) ≡ None
by_test true o h = h refl
by_test false o h = refl

pub no_value : (text : List ℕ) → (is_utf8 text ≡ true → read text ≡ None) → text_value text ≡ None
no_value text h = by_test (is_utf8 text) (read text) h
