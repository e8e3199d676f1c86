-- Refusals of sites that are reached, and of the root.
use Rattle.std.proofs.Common.{ℕ, List, Bool}
use Rattle.schema_definitions.specs.Bearers.{Documents}
use Rattle.schema_definitions.specs.BuildCauses.{Reached, at_root, by_keyword, IsCauseOf}
use Rattle.schema_definitions.specs.Sites.{Site}
use Rattle.schema_definitions.specs.Rows as rows

pub reached-through : (docs : Documents) (makes : List ℕ → Bool) (root s t : Site) → Reached docs makes root s → Reached docs makes s t → Reached docs makes root t
reached-through docs makes root s _ r at_root = r
reached-through docs makes root s _ r (by_keyword {s = u} row t q i j) = by_keyword row t (reached-through docs makes root s u r q) i j

pub cause-through : (docs : Documents) (makes : List ℕ → Bool) (root s : Site) (c : rows.BuildCause) → Reached docs makes root s → IsCauseOf docs makes s c → IsCauseOf docs makes root c
cause-through docs makes root s c r w =
    record { site = w.site; reached = reached-through docs makes root s w.site r w.reached; wrong = w.wrong }
