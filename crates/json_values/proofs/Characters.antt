-- The characters of a text.
use Rattle.std.proofs.Common.{◌≡◌, ℕ, List, length, true, not, ap}
use Rattle.std.proofs.lemmas.Str.{chars-encodes}
use Rattle.std.specs.List.{list_any}
use Rattle.std.specs.Str.{encode_utf8_all, all_scalars}
use Rattle.json_values.specs.Texts.{code_points, is_ecma_space, has_no_space}

pub code_points_counted : (cs : List ℕ) → all_scalars cs ≡ true → code_points (encode_utf8_all cs) ≡ length cs
code_points_counted cs h = ap length (chars-encodes cs h)

pub spaces_found : (cs : List ℕ) → all_scalars cs ≡ true → has_no_space (encode_utf8_all cs) ≡ not (list_any is_ecma_space cs)
spaces_found cs h = ap (λ (ds : List ℕ). not (list_any is_ecma_space ds)) (chars-encodes cs h)
