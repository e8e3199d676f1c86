-- A run that ends before it begins.
use Rattle.std.proofs.Common.{ℕ, List, [], Option, refl, inl}
use Rattle.std.proofs.KnownBytes.{Appends-nil, Consumes-nil}
use Rattle.line_cuts.specs.Runs.{BreaksAt, BreaksOff}

-- nothing was written
pub breaks_at_once : (R : List ℕ → List ℕ → Type 0) (lines : List (List ℕ)) (before : Option (List ℕ)) → BreaksAt R lines before before
breaks_at_once R lines before = record {
  written = [];
  begun = record { done = []; rest = lines; texts = []; tail = []; first = refl; answered = tt; begun = refl };
  appended = Appends-nil before;
}

-- and nothing read
pub off_at_once : (R : List ℕ → List ℕ → Type 0) (from before : Option (List ℕ)) → BreaksOff R from from before before
off_at_once R from before = record { input = []; lines = []; read = Consumes-nil from; known = inl refl; breaks = breaks_at_once R [] before }
