-- Of the questions of an applicator, paths lead to one at most.
use Rattle.std.specs.Prelude.{◌≡◌, ◌<◌, ◌++◌, ◌^◌, ℕ, List, [], length, Bool, true, ⊤}
use Rattle.serde_json.specs.Data.{Data, null, boolean, number, string, array, object}
use Rattle.serde_json.specs.View.{members_view}
use Rattle.json_values.specs.Parts.{Part}
use Rattle.schema_definitions.specs.Sites.{Site}
use Rattle.schema_definitions.specs.PathTexts.{path_text}
use Rattle.schema_meaning.specs.Members.{In}
use Rattle.schema_meaning.specs.Places.{path_after}
use Rattle.schema_meaning.specs.Questions as told
use Rattle.schema_meaning.specs.Rules.{asks}
use Rattle.schema_meaning.specs.Keywords.{rule}
use Rattle.json_values.specs.Rising.{are_rising}
use Rattle.certificate_laws.specs.Words.{IsRest}
use Rattle.applicators.specs.Shapes.{shape_of}
use Rattle.applicators.specs.Combined.{asks_values}
use Rattle.applicators.specs.Applied.{Applicator}
use Rattle.applicators.specs.Lent.{Asks}
use Rattle.applicators.specs.declared.asks.AsksOf.TheVariants as code

-- the names of its schemas rise
abbrev pub NamesRiseIn : Asks → Type 0
NamesRiseIn (code.DeclaredMembers schemas) = are_rising (members_view schemas.now.entries) ≡ true
NamesRiseIn (code.MatchingMembers schemas) = are_rising (members_view schemas.now.entries) ≡ true
NamesRiseIn (code.Triggered schemas) = are_rising (members_view schemas.now.entries) ≡ true
NamesRiseIn (code.Dependencies entries) = are_rising (members_view entries.now.entries) ≡ true
NamesRiseIn asks = ⊤

-- the indexes of its branches fit in memory
abbrev pub BranchesFitIn : Asks → Type 0
BranchesFitIn (code.Branches schemas) = length schemas.now < 2 ^ 64
BranchesFitIn asks = ⊤

-- the names of an object's members rise
abbrev pub MembersRise : Data → Type 0
MembersRise null = ⊤
MembersRise (boolean b) = ⊤
MembersRise (number n) = ⊤
MembersRise (string s) = ⊤
MembersRise (array ds) = ⊤
MembersRise (object ms) = are_rising ms ≡ true

-- two questions that lead on from the same texts are one
abbrev pub OneAhead : Applicator → Data → Type 0
OneAhead a d =
    asks_values a ≡ true → (site : List Part → Data → Site) (matches : List ℕ → List ℕ → Bool) (q p : told.Question Site)
    → In q (asks (rule matches d (shape_of site a))) → In p (asks (rule matches d (shape_of site a)))
    → (instance evaluation i e j f : List ℕ) → IsRest i → IsRest e → IsRest j → IsRest f
    → instance ≡ path_text (path_after [] q.step) ++ i → evaluation ≡ path_text q.added ++ e
    → instance ≡ path_text (path_after [] p.step) ++ j → evaluation ≡ path_text p.added ++ f → q ≡ p
