-- Locations with one step more.
use Rattle.std.specs.Prelude.{◌≡◌, ℕ, List, [], ◌∷◌, ◌++◌}
use Rattle.json_values.specs.Parts.{Part}
use Rattle.json_values.specs.Pointers.{part_text, pointer_text}
use Rattle.json_pointers.specs.Lent.{part_of}
use Rattle.json_pointers.specs.declared.path.JsonPointerSegment.{JsonPointerSegment}

-- a location's text with one of these steps behind it, as a pointer has them (RFC 6901, section 3)
pub record IsJoined (AreGiven : JsonPointerSegment → Type 0) (text joined : List ℕ) : Type 0 where
  pub step : JsonPointerSegment
  pub given : AreGiven step
  pub behind : joined ≡ text ++ 47 ∷ part_text (part_of step)
  pub spells : (path : List Part) → text ≡ pointer_text path → joined ≡ pointer_text (path ++ part_of step ∷ [])
