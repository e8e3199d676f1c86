-- The cut reading is not promised to answer alike: it compares keys, and a key has the place of a target, which related readings
-- need not share. The smallest case: a chain of two references to `false`, whose targets have one place in one reading and two in the other.
use Rattle.std.specs.Prelude.{◌≡◌, ℕ, zero, suc, List, [], ◌∷◌, true, false, None, Some}
use Rattle.serde_json.specs.Data.{null}
use Rattle.json_values.specs.Parts.{Part, index}
use Rattle.schema_meaning.specs.Places.{Key, whole}
use Rattle.schema_meaning.specs.Keywords.{Shape, never, reference, static}
use Rattle.schema_meaning.specs.Readings.{Reading, verdicts, unfolded}
use Rattle.schema_meaning.specs.Cut.{cut_within, cut}
use Rattle.linked_meanings.specs.Related.{AreRelated}

-- site 0 refers to site 1, and that to site 2, the schema `false`
abbrev pub chain : ℕ → List (Shape ℕ)
chain zero = reference static 1 ∷ []
chain (suc zero) = reference static 2 ∷ []
chain (suc (suc n)) = never ∷ []

abbrev pub chained : (ℕ → List Part) → Reading ℕ
chained path = record {
  keywords = chain;
  schema_path = λ s. [];
  place = λ s. record { document = []; path = path s };
  matches = λ p t. false;
  nesting = 0;
}

-- every site at one place, and each at its own
abbrev pub together_placed : Reading ℕ
together_placed = chained (λ s. [])

abbrev pub apart_placed : Reading ℕ
apart_placed = chained (λ s. index s ∷ [])

abbrev pub key_of : List Part → Key
key_of path = record { target = record { document = []; path = path }; path = []; called = None }

-- Equal sites are related, and both readings decide: refused. Yet the one is cut at its second reference, and accepts; the other refuses,
-- at every depth of 3 or more, and so by `cut` with the keys of each.
abbrev pub CutIsNotPromised : Type 0
CutIsNotPromised =
    AreRelated together_placed apart_placed (λ s t. s ≡ t)
    × (unfolded verdicts together_placed 3 0 (whole null) ≡ Some false)
    × (unfolded verdicts apart_placed 3 0 (whole null) ≡ Some false)
    × ((n : ℕ) → cut_within verdicts together_placed (suc (suc (suc n))) [] 0 (whole null) ≡ true)
    × ((n : ℕ) → cut_within verdicts apart_placed (suc (suc (suc n))) [] 0 (whole null) ≡ false)
    × (cut verdicts together_placed (key_of [] ∷ []) [] 0 (whole null) ≡ true)
    × (cut verdicts apart_placed (key_of (index 1 ∷ []) ∷ key_of (index 2 ∷ []) ∷ []) [] 0 (whole null) ≡ false)
