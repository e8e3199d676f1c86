-- Files added in their turn.
use Rattle.std.proofs.Common.{◌<◌, ◌≤◌, ℕ, suc, List, [], ◌∷◌, sym, refl, subst, map, drop, length, drop-cons, drop_of_length-le}
use Rattle.std.specs.List.{slice_index_or}
use Rattle.document_sources.specs.Given.{Given}
use Rattle.program_inputs.specs.Held.{Held}
use Rattle.validator_program.specs.Given.{AddsFile, AddsFiles, Pair, pair_of}
use Rattle.validator_program.specs.declared.documents.Further.{Further}

-- what is added so far, and whatever the rest adds to it, come to all
abbrev pub AddsSoFar : (List ℕ → Held) → List Pair → List Further → ℕ → List Given → Type 0
AddsSoFar held all further i now = (new : List Given) → AddsFiles held (map pair_of (drop i further)) now new → AddsFiles held all [] new

pub first_added : (held : List ℕ → Held) (p : Pair) (further : List Further) (now : List Given) → AddsFile held p [] now → AddsSoFar held (p ∷ map pair_of further) further 0 now
first_added held p further now adds = λ new more. (now, adds, more)

pub next_added : (held : List ℕ → Held) (all : List Pair) (further : List Further) (i : ℕ) (d : Further) (old now : List Given) → i < length further
    → AddsFile held (pair_of (slice_index_or further i d)) old now → AddsSoFar held all further i old → AddsSoFar held all further (suc i) now
next_added held all further i d old now within adds so_far = λ new more.
    so_far new (subst (λ fs. AddsFiles held (map pair_of fs) old new) (sym (drop-cons further i d within)) (now, adds, more))

pub all_added : (held : List ℕ → Held) (all : List Pair) (further : List Further) (i : ℕ) (now : List Given) → length further ≤ i → AddsSoFar held all further i now → AddsFiles held all [] now
all_added held all further i now past so_far =
    so_far now (subst (λ fs. AddsFiles held (map pair_of fs) now now) (sym (drop_of_length-le further past)) refl)
