-- The fragments of RFC 6901, section 6, computed.
use Rattle.std.proofs.Common.{◌≡◌, ℕ, List, [], ◌∷◌, true, false, codes, refl}
use Rattle.percent_encoding.proofs.OnLiterals.{percent_encoding_on_literals}
use Rattle.percent_encoding.specs.Percent.{percent_decode}
use Rattle.json_pointers.specs.Fragments.{is_fragment, fragment_text}

abbrev Written : List ℕ → List ℕ → Type 0
Written pointer fragment = (fragment_text pointer ≡ fragment) × (percent_decode fragment ≡ pointer) × (is_fragment fragment ≡ true)

table : Written (codes "") (codes "") × Written (codes "/foo/0") (codes "/foo/0") × Written (codes "/a~1b") (codes "/a~1b") × Written (codes "/c%d") (codes "/c%25d")
    × Written (codes "/e^f") (codes "/e%5Ef") × Written (codes "/g|h") (codes "/g%7Ch") × Written (47 ∷ 105 ∷ 92 ∷ 106 ∷ []) (codes "/i%5Cj")
    × Written (47 ∷ 107 ∷ 34 ∷ 108 ∷ []) (codes "/k%22l") × Written (codes "/ ") (codes "/%20") × Written (codes "/m~0n") (codes "/m~0n")
unfolding percent_encoding_on_literals fragment_text
table = ((refl, refl, refl), (refl, refl, refl), (refl, refl, refl), (refl, refl, refl), (refl, refl, refl), (refl, refl, refl), (refl, refl, refl), (refl, refl, refl), (refl, refl, refl), (refl, refl, refl))

-- what is no fragment: a `#`, a space, a byte past ASCII, a triplet cut short
refused : (is_fragment (codes "a#b") ≡ false) × (is_fragment (codes "a b") ≡ false) × (is_fragment (195 ∷ 169 ∷ []) ≡ false) × (is_fragment (codes "%4") ≡ false) × (is_fragment (codes "%4g") ≡ false) × (is_fragment (codes "%4a") ≡ true)
refused = (refl, refl, refl, refl, refl, refl)
