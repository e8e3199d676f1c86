-- Lines of bytes that are at hand, and bytes that are read on.
use Rattle.std.proofs.Common.{◌≡◌, ◌∙◌, ℕ, List, [], ◌∷◌, ◌++◌, Option, take, ap, ap₂, refl, sym, subst, append-nil, append_assoc}
use Rattle.std.specs.Io.KnownBytes.{Consumes}
use Rattle.std.proofs.KnownBytes.{Consumes-trans}
use Rattle.line_cuts.specs.Cuts.{pieces, lines_of, unless_empty}
use Rattle.line_cuts.proofs.Cutting.{ended_first, part_first, ended_none, part_none}

pub lines_first : (rest line after : List ℕ) → pieces rest ≡ line ∷ pieces after → lines_of rest ≡ line ∷ lines_of after
lines_first rest line after cut = ap₂ (λ es p. es ++ unless_empty p) (ended_first [] rest refl line after cut) (part_first [] rest refl line after cut)

pub lines_none : (rest : List ℕ) → pieces rest ≡ rest ∷ [] → lines_of rest ≡ unless_empty rest
lines_none rest none = ap₂ (λ es p. es ++ unless_empty p) (ended_none [] rest refl none) (part_none [] rest refl none)

-- one more line was cut off
pub lines_more : (all : List (List ℕ)) (done : List (List ℕ)) (rest line after : List ℕ) → all ≡ done ++ lines_of rest → pieces rest ≡ line ∷ pieces after
    → all ≡ (done ++ line ∷ []) ++ lines_of after
lines_more all done rest line after h cut = h ∙ ap (λ l. done ++ l) (lines_first rest line after cut) ∙ sym (append_assoc done (line ∷ []) (lines_of after))

-- a read gave nothing
pub reads_nothing : (from to next : Option (List ℕ)) (bytes buf : List ℕ) (n : ℕ) → n ≡ 0 → Consumes from to bytes → Consumes to next (take n buf) → Consumes from next bytes
reads_nothing from to next bytes buf n e h k =
    subst (Consumes from next) (append-nil bytes) (Consumes-trans from to next bytes [] h (subst (λ (m : ℕ). Consumes to next (take m buf)) e k))
