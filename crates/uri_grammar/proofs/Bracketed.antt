use Rattle.std.proofs.Common.{◌≡◌, ◌≢◌, ◌&&◌, List, [], ◌∷◌, ℕ, false, ap, refl, ne_eqb}
use Rattle.uri_grammar.specs.Texts.{cut_at}
use Rattle.uri_grammar.specs.Addresses.{is_ip_literal, is_closed}

pub unbracketed : (bs : List ℕ) → ((rest : List ℕ) → bs ≢ 91 ∷ rest) → is_ip_literal bs ≡ false
unbracketed [] none = refl
unbracketed (x ∷ xs) none = ap (λ t. t && is_closed (cut_at 93 xs)) (ne_eqb x 91 (λ e. none xs (ap (λ z. z ∷ xs) e)))
