-- Matches that were read of a value are those that it asks for, where these finish.
use Rattle.std.proofs.Common.{ℕ, List, Bool}
use Rattle.serde_json.specs.Data.{Data}
use Rattle.schema_meaning.specs.Places.{whole}
use Rattle.schema_definitions.specs.Lookup.{Target}
use Rattle.schema_definitions.specs.Plain.{plain}
use Rattle.schema_patterns.specs.Read.{reads}
use Rattle.schema_patterns.specs.declared.matches.Matches.{Matches}
use Rattle.meaning_laws.specs.MatchLaws.{SameOnTheWay}
use Rattle.reading_laws.proofs.Matched.{matches_are_read}
use Rattle.schema_registries.specs.Roots.{Root, Patterns, Finds, site_of_root}
use Rattle.schema_registries.specs.Answers.{Finish}
use Rattle.schema_registries.specs.Matched.{AreReadOf}

pub same_matches : (p : Patterns) (r : Root) (d : Data) (m : Matches) → AreReadOf p r d m → (matches : List ℕ → List ℕ → Bool) (target : Target) → Finds r target → Finish p r matches target d
    → SameOnTheWay (plain r.documents p.makes matches) (reads m) (site_of_root r target) (whole d)
same_matches p r d m read matches target found finish =
    matches_are_read r.documents p.makes (site_of_root r target) p.finished read.patterns m d (read.hold target found) read.read matches finish
