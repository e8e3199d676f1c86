-- What is proved of the matches that a value asks for. Each statement is the contract of a function of this crate.
use Rattle.std.specs.Prelude.{ℕ, List, Bool, Option}
use Rattle.serde_json.specs.Data.{Data}
use Rattle.schema_meaning.specs.Places.{Spot, Key, whole}
use Rattle.schema_meaning.specs.Circular.{Leads}
use Rattle.schema_definitions.specs.Bearers.{Documents}
use Rattle.schema_definitions.specs.Sites.{Site}
use Rattle.schema_definitions.specs.BuildCauses.{Reached}
use Rattle.schema_definitions.specs.Plain.{plain}
use Rattle.meaning_laws.specs.MatchLaws.{SameOnTheWay}
use Rattle.schema_patterns.specs.Texts.{texts_in}
use Rattle.schema_patterns.specs.Read.{reads, IsReadBy}
use Rattle.schema_patterns.specs.declared.matches.Matches.{Matches}
use Rattle.reading_laws.specs.Asked.{AreAmong, IsAsked, IsOf, AreFinished}

abbrev pub LedIsReached : Type 0
LedIsReached = (docs : Documents) (makes : List ℕ → Bool) (matches : List ℕ → List ℕ → Bool) (root : Site) (at : Spot) (keys : List Key) (s : Site) (w : Spot)
    → Leads (plain docs makes matches) root at keys s w → Reached docs makes root s

abbrev pub AskedMatchesAreKnown : Type 0
AskedMatchesAreKnown = (docs : Documents) (makes : List ℕ → Bool) (root : Site) (matches : List ℕ → List ℕ → Bool) (d : Data) (p t : List ℕ)
    → (a : IsAsked docs makes root matches d p t) → IsOf docs makes root a.site a.keyword d p t

-- the reading by the matches that were read is the same on the way
abbrev pub MatchesAreRead : Type 0
MatchesAreRead = (docs : Documents) (makes : List ℕ → Bool) (root : Site) (finished : List ℕ → List ℕ → Option Bool) (patterns : List (List ℕ)) (m : Matches) (d : Data)
    → AreAmong docs makes root patterns → IsReadBy finished patterns (texts_in d) m → (matches : List ℕ → List ℕ → Bool) → AreFinished docs makes root finished matches d
    → SameOnTheWay (plain docs makes matches) (reads m) root (whole d)
