-- Classes of characters.
use Rattle.std.proofs.Common.{◌≡◌, ◌==◌, ◌<◌, ℕ, true, arith}
use Rattle.std.proofs.lemmas.Grind.{common_steps}
use Rattle.std.specs.Char.{to_ascii_lowercase, to_ascii_uppercase}
use Rattle.uri_grammar.specs.Texts.{is_hex}
use Rattle.uri_grammar.specs.Addresses.{is_unreserved}
use Rattle.uri_references.specs.NormalForm.{hex_value}

pub unreserved-small : (b : ℕ) → is_unreserved b ≡ true → b < 128
unreserved-small b e = grind (arith, common_steps)

pub hex-small : (b : ℕ) → is_hex b ≡ true → b < 128
hex-small b e = grind (arith, common_steps)

pub upper-hex : (b : ℕ) → is_hex b ≡ true → is_hex (to_ascii_uppercase b) ≡ true
upper-hex b e = grind (arith, common_steps)

pub value-upper : (b : ℕ) → is_hex b ≡ true → hex_value (to_ascii_uppercase b) ≡ hex_value b
value-upper b e = grind (arith, common_steps)

pub value-lower : (b : ℕ) → is_hex b ≡ true → hex_value (to_ascii_lowercase b) ≡ hex_value b
value-lower b e = grind (arith, common_steps)

pub lower-upper : (b : ℕ) → is_hex b ≡ true → to_ascii_lowercase (to_ascii_uppercase b) ≡ to_ascii_lowercase b
lower-upper b e = grind (arith, common_steps)

pub lower-lower : (b : ℕ) → to_ascii_lowercase (to_ascii_lowercase b) ≡ to_ascii_lowercase b
lower-lower b = grind (arith, common_steps)

pub upper-small : (b : ℕ) → is_hex b ≡ true → to_ascii_uppercase b < 128
upper-small b e = grind (arith, common_steps)

pub upper-upper : (b : ℕ) → to_ascii_uppercase (to_ascii_uppercase b) ≡ to_ascii_uppercase b
upper-upper b = grind (arith, common_steps)

pub lower-percent : (b : ℕ) → (to_ascii_lowercase b == 37) ≡ (b == 37)
lower-percent b = grind (arith, common_steps)

pub lower-hex : (b : ℕ) → is_hex (to_ascii_lowercase b) ≡ is_hex b
lower-hex b = grind (arith, common_steps)
