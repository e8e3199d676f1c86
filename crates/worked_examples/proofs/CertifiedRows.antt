-- Certificates as closed terms.
use Rattle.std.proofs.Common.{[], ◌∷◌, true, false, refl}
use Rattle.std.specs.List.{AllByRecursion}
use Rattle.json_values.specs.Pointers.{replace_escape}
use Rattle.schema_meaning.specs.Members.{first, later}
use Rattle.schema_meaning.specs.Readings.{told, through}
use Rattle.schema_meaning.specs.Certificates.{ends, leads}
use Rattle.worked_examples.specs.Certified.{IsCertified, certified_examples}

pub certified_hold : AllByRecursion IsCertified certified_examples
unfolding told through replace_escape
certified_hold = (
  ends _ [] (later first) (record { unfoldings = 6; are = refl }) refl,
  (
    leads _ (false ∷ []) _ first (record { unfoldings = 6; are = refl }) first
        (leads _ (false ∷ []) _ first (record { unfoldings = 6; are = refl }) first (ends _ [] first (record { unfoldings = 6; are = refl }) refl)),
    (
      ends _ (false ∷ []) first (record { unfoldings = 6; are = refl }) refl,
      (
        leads _ (false ∷ []) _ first (record { unfoldings = 6; are = refl }) first (ends _ (false ∷ []) first (record { unfoldings = 6; are = refl }) refl),
        (
          leads _ (false ∷ []) _ first (record { unfoldings = 6; are = refl }) first (ends _ [] first (record { unfoldings = 6; are = refl }) refl),
          (
            ends _ (false ∷ []) first (record { unfoldings = 6; are = refl }) refl,
            (
              ends _ (true ∷ []) first (record { unfoldings = 6; are = refl }) refl,
              (
                leads _ (true ∷ false ∷ []) _ first (record { unfoldings = 6; are = refl }) first (ends _ [] first (record { unfoldings = 6; are = refl }) refl),
                (
                  ends _ (true ∷ false ∷ []) first (record { unfoldings = 6; are = refl }) refl,
                  (
                    ends _ (false ∷ []) first (record { unfoldings = 6; are = refl }) refl,
                    (
                      ends _ (false ∷ []) first (record { unfoldings = 6; are = refl }) refl,
                      (
                        leads _ (false ∷ []) _ first (record { unfoldings = 6; are = refl }) first (ends _ [] first (record { unfoldings = 6; are = refl }) refl),
                        (
                          leads _ (false ∷ []) _ first (record { unfoldings = 6; are = refl }) first (ends _ [] first (record { unfoldings = 6; are = refl }) refl),
                          (
                            leads _ (false ∷ []) _ first (record { unfoldings = 6; are = refl }) first
                                (leads _ (false ∷ []) _ first (record { unfoldings = 6; are = refl }) first (ends _ [] first (record { unfoldings = 6; are = refl }) refl)),
                            tt,
                          ),
                        ),
                      ),
                    ),
                  ),
                ),
              ),
            ),
          ),
        ),
      ),
    ),
  ),
)
