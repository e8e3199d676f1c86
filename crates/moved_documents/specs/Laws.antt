-- What is proved of the three forms. Each statement is the contract of a function of this crate.
use Rattle.std.specs.Prelude.{◌≡◌, ◌⊎◌, ℕ, List, [], Bool, Option}
use Rattle.serde_json.specs.Data.{Data}
use Rattle.schema_drafts.specs.declared.draft.Draft.{Draft}
use Rattle.schema_meaning.specs.Places.{whole}
use Rattle.schema_meaning.specs.Faults.{Faults}
use Rattle.schema_meaning.specs.Readings.{Reading, verdicts, bags, unfolded, IsTold}
use Rattle.schema_meaning.specs.Order.{SameFaults, SameOrOut}
use Rattle.schema_definitions.specs.Places.{Dialect}
use Rattle.schema_definitions.specs.Bearers.{Documents, meta}
use Rattle.schema_definitions.specs.DocumentCauses.{document_causes}
use Rattle.schema_definitions.specs.Lines.{faults_text}
use Rattle.schema_definitions.specs.Lookup.{Target}
use Rattle.schema_definitions.specs.Rounds.{AreRounds, gathered, wants}
use Rattle.schema_definitions.specs.Sites.{Site, root_site}
use Rattle.schema_definitions.specs.Plain.{plain}
use Rattle.added_documents.specs.Added.{EachNamedBy, NamesDraft}
use Rattle.added_documents.specs.ReadingLaws.{Builds, StandsAlone}
use Rattle.moved_documents.specs.Forms.{Pair, root_alone, moved_alone, added, by_map, inside}
use Rattle.moved_documents.specs.Premises.{BornOnce, CanMove, LeavesOut}

-- the documents that rounds of retrieval give are the root alone, or those of the form in which the other is added
abbrev pub RetrievedIsAdded : Type 0
RetrievedIsAdded = (p : Pair) (rounds : List Documents) → AreRounds (by_map p) (root_alone p) rounds
    → (gathered (root_alone p) rounds ≡ root_alone p) ⊎ (gathered (root_alone p) rounds ≡ added p)

-- where the root wants a document, and at last nothing is wanted, they are those of that form
abbrev pub WantedIsAdded : Type 0
WantedIsAdded = (p : Pair) (rounds : List Documents) → AreRounds (by_map p) (root_alone p) rounds → (wants (root_alone p) ≡ [] → ⊥)
    → wants (gathered (root_alone p) rounds) ≡ [] → gathered (root_alone p) rounds ≡ added p

-- where documents name drafts alone, what they bear once they bear once whatever is told of meta-schemas
abbrev pub OnceIsAlways : Type 0
OnceIsAlways = (docs : Documents) → EachNamedBy NamesDraft docs → BornOnce (meta docs) docs → (told : List ℕ → Option Dialect) → BornOnce told docs

-- where nothing is wrong with the documents of the form inside, nothing is borne twice there by what the two documents tell either
abbrev pub OnceBeside : Type 0
OnceBeside = (p : Pair) (draft : Draft) (whole : Data) → CanMove p draft whole → document_causes (inside p whole) ≡ []
    → BornOnce (meta (added p)) (inside p whole)

-- what one reading decides of a value, the other does: the same verdict, and the same faults up to order
pub record DecidesAlike (r u : Reading Site) (s t : Site) (d : Data) : Type 0 where
  pub verdict : (b : Bool) → IsTold verdicts r s (whole d) b → IsTold verdicts u t (whole d) b
  pub faults : (fs : Faults) → IsTold bags r s (whole d) fs → (gs : Faults) × SameFaults fs gs × IsTold bags u t (whole d) gs

-- where both decide, the line texts are one
abbrev pub HaveOneText : Reading Site → Reading Site → Site → Site → Data → Type 0
HaveOneText r u s t d = (fs gs : Faults) → IsTold bags r s (whole d) fs → IsTold bags u t (whole d) gs → faults_text fs ≡ faults_text gs

-- two readings answer alike about a value: with equally many unfoldings, and where one decides or both do
pub record AnswersAlike (r u : Reading Site) (s t : Site) (d : Data) : Type 0 where
  pub verdicts : (n : ℕ) → unfolded verdicts r n s (whole d) ≡ unfolded verdicts u n t (whole d)
  pub faults : (n : ℕ) → SameOrOut (unfolded bags r n s (whole d)) (unfolded bags u n t (whole d))
  pub decided : DecidesAlike r u s t d
  pub texts : HaveOneText r u s t d

-- where nothing is wrong with the documents of the form inside, a root that builds in both forms answers alike, instance paths and evaluation
-- paths of the faults with all the rest of them
abbrev pub InsideIsAdded : Type 0
InsideIsAdded = (p : Pair) (draft : Draft) (whole : Data) → CanMove p draft whole → document_causes (inside p whole) ≡ []
    → (makes : List ℕ → Bool) (base reference : List ℕ) (root other : Target)
    → Builds (added p) makes base reference root → Builds (inside p whole) makes base reference other
    → (matches : List ℕ → List ℕ → Bool) (d : Data) → AnswersAlike (plain (added p) makes matches) (plain (inside p whole) makes matches) (root_site root) (root_site other) d

-- a root that builds in its own document, with which nothing is wrong, and leaves the moved one out, stands alone once that is added, where by what
-- the two documents tell of meta-schemas nothing is borne twice inside either
abbrev pub RootStandsAlone : Type 0
RootStandsAlone = (p : Pair) (draft : Draft) (whole : Data) → CanMove p draft whole → BornOnce (meta (added p)) (inside p whole)
    → document_causes (root_alone p) ≡ []
    → (makes : List ℕ → Bool) (base reference : List ℕ) (root : Target) → Builds (root_alone p) makes base reference root → LeavesOut p makes root
    → StandsAlone (root_alone p) (moved_alone p) (added p) makes base reference root
