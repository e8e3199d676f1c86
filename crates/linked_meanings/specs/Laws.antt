-- What is proved of related readings. A clause cannot quantify over relations, so of any relation these are lemmas of proofs/
-- (`related_alike` and its like); a clause can name each law of one relation, as here of a list of pairs.
use Rattle.std.specs.Prelude.{◌≡◌, ◌≤◌, ◌++◌, ℕ, List, [], Bool, ◌&&◌, option_map, bytes_eq}
use Rattle.json_values.specs.Parts.{Part}
use Rattle.schema_meaning.specs.Places.{Spot, SchemaPlace, Key}
use Rattle.schema_meaning.specs.Faults.{Fault, Faults, is_none, Told}
use Rattle.schema_meaning.specs.Readings.{Reading, verdicts, bags, unfolded, IsTold, IsNested}
use Rattle.schema_meaning.specs.Cut.{same_path, cut_within, cut, AreAll}
use Rattle.schema_meaning.specs.Order.{SameFault, SameFaults, SameOrOut}
use Rattle.schema_meaning.specs.Linked.{Linked, AreLinked}
use Rattle.schema_meaning.specs.Certificates.{Certificate}
use Rattle.linked_meanings.specs.Related.{AreRelated, AreRelatedButForPaths}
use Rattle.linked_meanings.specs.Moved.{moved, unplaced}

-- ---- of one relation of sites

-- related readings answer alike: the same verdict, and the same faults up to order
abbrev pub AnswerAlike : {S T : Type 0} → (S → T → Type 0) → Type 0
AnswerAlike {S} {T} like = (r : Reading S) (u : Reading T) → AreRelated r u like → (n : ℕ) (s : S) (t : T) (w : Spot) → like s t
    → (unfolded verdicts r n s w ≡ unfolded verdicts u n t w) × SameOrOut (unfolded bags r n s w) (unfolded bags u n t w)

-- where the paths of the schema differ: the same verdict, and the same faults but for their schema paths, up to order
abbrev pub AnswerAlikeButForPaths : {S T : Type 0} → (S → T → Type 0) → Type 0
AnswerAlikeButForPaths {S} {T} like = (r : Reading S) (u : Reading T) → AreRelatedButForPaths r u like → (n : ℕ) (s : S) (t : T) (w : Spot) → like s t
    → (unfolded verdicts r n s w ≡ unfolded verdicts u n t w) × SameOrOut (option_map unplaced (unfolded bags r n s w)) (option_map unplaced (unfolded bags u n t w))

-- Where the other's paths of the schema are those of the first with steps put above them, as of a document that is moved into another:
-- the same faults with their schema paths moved, up to order. A path has its last part first, so what stands above is at its end.
abbrev pub AnswerAlikeMoved : {S T : Type 0} → (S → T → Type 0) → Type 0
AnswerAlikeMoved {S} {T} like = (r : Reading S) (u : Reading T) (above : List Part) → AreRelatedButForPaths r u like
    → ((s : S) (t : T) → like s t → r.schema_path s ++ above ≡ u.schema_path t) → (n : ℕ) (s : S) (t : T) (w : Spot) → like s t
    → SameOrOut (option_map (moved (λ p. p ++ above)) (unfolded bags r n s w)) (unfolded bags u n t w)

-- A certificate of one is one of the other. A certificate's answers spend unfoldings at references alone,
-- so the reading that is to have it must be nested, and its site no deeper than that reading says.
abbrev pub HaveSameCertificates : {S T : Type 0} → (S → T → Type 0) → Type 0
HaveSameCertificates {S} {T} like = (r : Reading S) (u : Reading T) → AreRelatedButForPaths r u like → (s : S) (t : T) (w : Spot) (i e : List Part) → like s t
    → ((nested : IsNested u) → nested.rank t ≤ u.nesting → Certificate r s w i e → Certificate u t w i e)
    × ((nested : IsNested r) → nested.rank s ≤ r.nesting → Certificate u t w i e → Certificate r s w i e)

-- what one decides, the other does, where that is nested: the same verdict, and the same faults up to order
abbrev pub DecideAlike : {S T : Type 0} → (S → T → Type 0) → Type 0
DecideAlike {S} {T} like = (r : Reading S) (u : Reading T) → AreRelated r u like → (s : S) (t : T) (w : Spot) → like s t → (nested : IsNested u) → nested.rank t ≤ u.nesting
    → ((b : Bool) → IsTold verdicts r s w b → IsTold verdicts u t w b)
    × ((fs : Faults) → IsTold bags r s w fs → (gs : Faults) × SameFaults fs gs × IsTold bags u t w gs)

-- the same place
abbrev pub same_place : SchemaPlace → SchemaPlace → Bool
same_place p q = bytes_eq p.document q.document && same_path p.path q.path

-- of related sites, those of the one reading have one place where those of the other have one
abbrev pub PlacesGoTogether : {S T : Type 0} → Reading S → Reading T → (S → T → Type 0) → Type 0
PlacesGoTogether {S} {T} r u like = (s x : S) (t y : T) → like s t → like x y → same_place (r.place s) (r.place x) ≡ same_place (u.place t) (u.place y)

-- then they are cut alike, at each depth: the same verdict, and the same faults up to order
abbrev pub CutAlikeWithPlaces : {S T : Type 0} → (S → T → Type 0) → Type 0
CutAlikeWithPlaces {S} {T} like = (r : Reading S) (u : Reading T) → AreRelated r u like → PlacesGoTogether r u like → (n : ℕ) (s : S) (t : T) (w : Spot) → like s t
    → (cut_within verdicts r n [] s w ≡ cut_within verdicts u n [] t w) × SameFaults (cut_within bags r n [] s w) (cut_within bags u n [] t w)

-- and the cut readings are the same, where both are nested and each has all its keys
abbrev pub SameCutWithPlaces : {S T : Type 0} → (S → T → Type 0) → Type 0
SameCutWithPlaces {S} {T} like = (r : Reading S) (u : Reading T) → AreRelated r u like → PlacesGoTogether r u like → (s : S) (t : T) (w : Spot) → like s t
    → (i : IsNested r) → i.rank s ≤ r.nesting → (j : IsNested u) → j.rank t ≤ u.nesting → (ks hs : List Key) → AreAll r s w ks → AreAll u t w hs
    → (cut verdicts r ks [] s w ≡ cut verdicts u hs [] t w) × SameFaults (cut bags r ks [] s w) (cut bags u hs [] t w)

-- ---- of a list of pairs

-- linked readings answer alike: the same verdict, and the same faults up to order
abbrev pub LinkedAlike : (S T : Type 0) → Type 0
LinkedAlike S T = (r : Reading S) (u : Reading T) (pairs : List (S × T)) → AreLinked r u pairs → (n : ℕ) (s : S) (t : T) (w : Spot) → Linked pairs s t
    → (unfolded verdicts r n s w ≡ unfolded verdicts u n t w) × SameOrOut (unfolded bags r n s w) (unfolded bags u n t w)

-- the same where the paths of the schema differ
abbrev pub LinkedAlikeButForPaths : (S T : Type 0) → Type 0
LinkedAlikeButForPaths S T = (pairs : List (S × T)) → AnswerAlikeButForPaths (Linked pairs)

-- linked readings have the same certificates
abbrev pub LinkedCertified : (S T : Type 0) → Type 0
LinkedCertified S T = (pairs : List (S × T)) → HaveSameCertificates (Linked pairs)

-- what is linked is related
abbrev pub LinkedRelated : (S T : Type 0) → Type 0
LinkedRelated S T = (r : Reading S) (u : Reading T) (pairs : List (S × T)) → AreLinked r u pairs → AreRelated r u (Linked pairs)

-- ---- of faults in any order

-- equality up to order is an equivalence
abbrev pub OrderIsEquivalence : Type 0
OrderIsEquivalence =
    ((fs : Faults) → SameFaults fs fs) × ((fs gs : Faults) → SameFaults fs gs → SameFaults gs fs) × ((fs gs hs : Faults) → SameFaults fs gs → SameFaults gs hs → SameFaults fs hs)

-- what one of two such bags tells, the other does, and none stands beside none alone
abbrev pub OrderTellsTheSame : Type 0
OrderTellsTheSame = (fs gs : Faults) → SameFaults fs gs → (is_none fs ≡ is_none gs) × ((f : Fault) → Told f fs → (g : Fault) × SameFault f g × Told g gs)
