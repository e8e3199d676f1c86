-- Buffers that are appended to.
use Rattle.std.proofs.Common.{◌≡◌, ◌≤◌, ℕ, List, [], ◌++◌, length, take, drop, String, Global, string_bytes, ◌∙◌, sym, ap, subst, IsUtf8, take-append-drop, arith, length-append, append-nil, Result, Ok, Err, OnOk, OnErr, if◌then◌else◌, is_ok}
use Rattle.std.specs.String.{string_capacity}
use Rattle.std.proofs.lemmas.List.{take-append-le}
use Rattle.std.specs.String.Boundary.{IsSplitPoint}
use Rattle.std.proofs.lemmas.Str.{IsCharBoundary-from_take, IsUtf8-string_bytes}
use Rattle.json_pointers.specs.Buffers.{Grows}

pub grows_by : (first old new : String Global) (added : List ℕ) → Grows first old → string_bytes new ≡ string_bytes old ++ added → string_capacity old ≤ string_capacity new → Grows first new
grows_by first old new added grown e room =
    let h : length (string_bytes first) ≤ length (string_bytes old) = grown.within in
    record {
      front = rw e (take-append-le (length (string_bytes first)) (string_bytes old) added h ∙ grown.front);
      within = rw e (omega (arith, h, length-append (string_bytes old) added));
      capacity = omega (arith, grown.capacity, room);
    }

-- the clause of `push_str`, where what it appends completes the whole
pub appended : {T E : Type 0} (r : Result T E) (new old added whole : List ℕ) → new ≡ (if is_ok r then old ++ added else old) → old ++ added ≡ whole → OnOk r (new ≡ whole)
appended (Ok x) new old added whole e all = e ∙ all
appended (Err e) new old added whole f all = tt

pub full_on : {T E : Type 0} {P Q : Type 0} (r : Result T E) → OnErr r P → (P → Q) → OnErr r Q
full_on (Ok x) h f = tt
full_on (Err e) h f = f h

pub on_err : {T E : Type 0} {Q : Type 0} (r : Result T E) → Q → OnErr r Q
on_err (Ok x) h = tt
on_err (Err e) h = h

pub completed : {T E : Type 0} (r : Result T E) (new joined whole : List ℕ) → OnOk r (new ≡ joined) → joined ≡ whole → OnOk r (new ≡ whole)
completed (Ok x) new joined whole e all = e ∙ all
completed (Err e) new joined whole f all = tt

pub grows_on : (first old new : String Global) → Grows first old → Grows old new → Grows first new
grows_on first old new one two =
    let m : ℕ = length (string_bytes old) in
    let whole : string_bytes new ≡ string_bytes old ++ drop m (string_bytes new) = sym (take-append-drop m (string_bytes new)) ∙ ap (λ l. l ++ drop m (string_bytes new)) two.front in
    record {
      front = ap (take (length (string_bytes first))) whole ∙ take-append-le (length (string_bytes first)) (string_bytes old) (drop m (string_bytes new)) one.within ∙ one.front;
      within = omega (arith, one.within, two.within);
      capacity = omega (arith, one.capacity, two.capacity);
    }

pub grows_either : {T E : Type 0} (r : Result T E) (first old new : String Global) (added : List ℕ) → Grows first old → OnOk r (string_bytes new ≡ string_bytes old ++ added) → OnErr r (string_bytes new ≡ string_bytes old) → string_capacity old ≤ string_capacity new → Grows first new
grows_either (Ok x) first old new added grown ok err room = grows_by first old new added grown ok room
grows_either (Err e) first old new added grown ok err room = grows_by first old new [] grown (err ∙ sym (append-nil (string_bytes old))) room

pub then_on : {T E : Type 0} {P Q : Type 0} (r : Result T E) → OnOk r P → (P → Q) → OnOk r Q
then_on (Ok x) h f = f h
then_on (Err e) h f = tt

-- what stood in front can be cut off again
pub cut_back : (old new : String Global) (n : ℕ) → Grows old new → n ≡ length (string_bytes old) → IsSplitPoint (string_bytes new) n
cut_back old new n grown e =
    let front = subst IsUtf8 (sym grown.front) (IsUtf8-string_bytes old) in
    let boundary = IsCharBoundary-from_take (string_bytes new) (length (string_bytes old)) (IsUtf8-string_bytes new) grown.within front in
    rw e (boundary.0, λ _. boundary.1)
