-- Where no place awaits a meta-schema, documents alone tell their places, bearers and anchors.
use Rattle.std.proofs.Common.{◌≡◌, ℕ, List, [], ◌∷◌, Bool, Option, None, ap}
use Rattle.std.proofs.lemmas.List.Elements.{recursion_from_All}
use Rattle.std.specs.List.{AllByRecursion}
use Rattle.schema_definitions.specs.Words.{last_that}
use Rattle.schema_definitions.specs.Places.{Dialect}
use Rattle.schema_definitions.specs.Bearers.{Documents, Standing, standings, bears, bears_anchor, last_standing}
use Rattle.schema_definitions.specs.Identifiers.{anchors}
use Rattle.schema_dialects.specs.Unknown.{no_meta}
use Rattle.document_laws.specs.PlaceLaws.{NothingAwaits, DocumentsAloneTell}
use Rattle.document_laws.proofs.Unmoved.{KnownStanding, same_standings}

known_each : (ss : List Standing) → AllByRecursion (λ s. s.place.awaits ≡ None) ss → AllByRecursion KnownStanding ss
known_each [] h = tt
known_each (s ∷ ss) h = (record { known = record { nothing_awaited = h.0 } }, known_each ss h.1)

pub all_known : (docs : Documents) → NothingAwaits docs → AllByRecursion KnownStanding (standings no_meta docs)
all_known docs h = known_each (standings no_meta docs) (recursion_from_All (λ s. s.place.awaits ≡ None) (standings no_meta docs) h)

pub same_last : (test : Standing → Bool) (docs : Documents) (meta : List ℕ → Option Dialect) → standings meta docs ≡ standings no_meta docs
    → last_standing test meta docs ≡ last_standing test no_meta docs
same_last test docs meta e = ap (last_that test) e

pub documents_alone_tell : DocumentsAloneTell
documents_alone_tell docs h meta =
    let same = same_standings meta docs (all_known docs h) in
    record {
      places = same;
      bearers = λ uri. same_last (bears uri) docs meta same;
      anchored = λ base k. same_last (bears_anchor anchors base k) docs meta same;
    }
