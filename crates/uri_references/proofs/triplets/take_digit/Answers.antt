use Rattle.std.proofs.Common.{◌≡◌, ◌≢◌, ◌≤◌, ◌<◌, ◌∷◌, [], ℕ, List, ap, sym, ◌∙◌, None, length, get_or, arith, subst}
use Rattle.std.proofs.lemmas.Str.Pattern.{strip_prefix_char}
use Rattle.uri_references.proofs.Characters.{hex-small}
use Rattle.uri_references.proofs.triplets.take_digit.Goals as goal

begins : (bytes text : List ℕ) (b : ℕ) → bytes ≡ text → 1 ≤ length bytes → b ≡ get_or bytes 0 0 → ((rest : List ℕ) → text ≢ b ∷ rest) → ⊥
begins [] text b e h f none = omega arith
begins (x ∷ xs) text b e h f none = none xs (sym e ∙ ap (λ y. y ∷ xs) (sym f))

pub returns-in-None : goal.returns-in-None
returns-in-None c =
    let small : c.from.result < 128 = subst (λ b. b < 128) (sym c.from.ensures) (hex-small _ (sym c.is_hex.ensures ∙ c.if-not-is_hex.false)) in
    absurd (begins c.as_bytes.result.now c.args.text.now c.from.result c.as_bytes.ensures.value c.in-len1-up.len_at_least c.from.ensures
    (strip_prefix_char c.from.result c.args.text.now None c.in-None.ensures.cases small))
