-- What falls with each question.
use Rattle.std.proofs.Common.{◌≡◌, ◌<◌, ◌≤◌, ◌+◌, ◌*◌, ◌==◌, ℕ, zero, suc, List, [], ◌∷◌, Bool, true, false, ◌||◌, length, eqb-true, refl, arith}
use Rattle.std.proofs.Math.Nat.{mul-le-mul_right}
use Rattle.serde_json.specs.Data.{Data, depth}
use Rattle.schema_meaning.specs.Cut.{one_unless}
use Rattle.schema_engine.specs.declared.node.Node.{Node}
use Rattle.schema_engine.specs.Graphs.{rank_at, highest}
use Rattle.schema_engine.specs.Progress.{is_among, left_below}
use Rattle.schema_engine.specs.Verdicts.{size}

one_unless-le : (b c : Bool) (m n : ℕ) → m ≤ n → one_unless (b || c) m ≤ one_unless c n
one_unless-le true true m n h = h
one_unless-le true false m n h = omega arith
one_unless-le false true m n h = h
one_unless-le false false m n h = omega arith

one_unless-lt : (c : Bool) (m n : ℕ) → m < n → one_unless c m < one_unless c n
one_unless-lt true m n h = h
one_unless-lt false m n h = omega arith

one_unless-fits : (b : Bool) (m n : ℕ) → m ≤ n → one_unless b m ≤ suc n
one_unless-fits true m n h = omega arith
one_unless-fits false m n h = omega arith

left_fits : (n : ℕ) (ms : List ℕ) → left_below n ms ≤ n
left_fits zero ms = omega arith
left_fits (suc n) ms = one_unless-fits (is_among n ms) (left_below n ms) n (left_fits n ms)

left_more : (n t : ℕ) (ms : List ℕ) → left_below n (t ∷ ms) ≤ left_below n ms
left_more zero t ms = omega arith
left_more (suc n) t ms = one_unless-le (n == t) (is_among n ms) (left_below n (t ∷ ms)) (left_below n ms) (left_more n t ms)

-- a number that was not in progress
left_falls : (n t : ℕ) (ms : List ℕ) → t < n → is_among t ms ≡ false → left_below n (t ∷ ms) < left_below n ms
left_falls zero t ms h new = absurd (omega arith)
left_falls (suc n) t ms h new = by_test (n == t) refl (left_falls n t ms)
  where
    by_test : (b : Bool) → (n == t) ≡ b → (t < n → is_among t ms ≡ false → left_below n (t ∷ ms) < left_below n ms)
        → one_unless (n == t || is_among n ms) (left_below n (t ∷ ms)) < one_unless (is_among n ms) (left_below n ms)
    by_test true e again =
        let same : n ≡ t = eqb-true n t e in
        let free : is_among n ms ≡ false = rw same new in
        rw (e, free) (let more : left_below n (t ∷ ms) ≤ left_below n ms = left_more n t ms in omega arith)
    by_test false e again = rw e (one_unless-lt (is_among n ms) (left_below n (t ∷ ms)) (left_below n ms) (again (below e) new))
      where
        below : (n == t) ≡ false → t < n
        below e = grind (arith, e, h)

pub rank_fits : {K : Type 0} (nodes : List (Node K)) (n : ℕ) → rank_at nodes n ≤ highest nodes
rank_fits [] n = omega arith
rank_fits (x ∷ nodes) zero = omega arith
rank_fits (x ∷ nodes) (suc n) = let h : rank_at nodes n ≤ highest nodes = rank_fits nodes n in omega arith

room_falls : (a b m x y : ℕ) → a < b → x ≤ m → a * suc m + x < b * suc m + y
room_falls a b m x y h i = let p : suc a * suc m ≤ b * suc m = mul-le-mul_right (suc m) h in omega (arith, p, i)

module _ {K : Type 0} (nodes : List (Node K)) where
  -- where no reference is followed
  pub size_inside : (d : Data) (ms : List ℕ) (rank below : ℕ) → below < rank → size nodes d ms below < size nodes d ms rank
  size_inside d ms rank below h = omega arith

  -- at what is less deep
  pub size_down : (d e : Data) (ms new : List ℕ) (rank n : ℕ) → depth e < depth d → size nodes e new (rank_at nodes n) < size nodes d ms rank
  size_down d e ms new rank n h =
      let fits : left_below (length nodes) new ≤ length nodes = left_fits (length nodes) new in
      let room : depth e * suc (length nodes) + left_below (length nodes) new < depth d * suc (length nodes) + left_below (length nodes) ms =
      room_falls (depth e) (depth d) (length nodes) (left_below (length nodes) new) (left_below (length nodes) ms) h fits in
      room_falls _ _ (highest nodes) (rank_at nodes n) rank room (rank_fits nodes n)

  -- at a target that was not in progress
  pub size_target : (d : Data) (ms : List ℕ) (rank t : ℕ) → t < length nodes → is_among t ms ≡ false → size nodes d (t ∷ ms) (rank_at nodes t) < size nodes d ms rank
  size_target d ms rank t there new =
      let falls : left_below (length nodes) (t ∷ ms) < left_below (length nodes) ms = left_falls (length nodes) t ms there new in
      let room : depth d * suc (length nodes) + left_below (length nodes) (t ∷ ms) < depth d * suc (length nodes) + left_below (length nodes) ms = omega arith in
      room_falls _ _ (highest nodes) (rank_at nodes t) rank room (rank_fits nodes t)
