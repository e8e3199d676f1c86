-- Lemmas on members of lists, and on marks.
use Rattle.std.proofs.Common.{◌≡◌, ◌∙◌, ℕ, zero, suc, ◌+◌, ◌<◌, Bool, true, false, not, cond, List, [], ◌∷◌, ◌++◌, Some, ◌⊎◌, inl, inr, ⊎_elim, refl, sym, ap, subst, length, get_or, set, slice_get, arith, append_assoc, length-set}
use Rattle.std.proofs.lemmas.List.{length_push}
use Rattle.std.proofs.lemmas.List.Sums.{sum_by-set}
use Rattle.std.proofs.lemmas.Option.{slice_get_within, get_or_from_slice_get}
use Rattle.schema_meaning.specs.Members.{In, first, later}
use Rattle.marked_nodes.specs.Marking.{IsMarked, Marks, unmarked}

pub in_front : {A : Type 0} {x : A} (xs ys : List A) → In x xs → In x (xs ++ ys)
in_front [] ys h = elim h [ ]
in_front (z ∷ xs) ys first = first
in_front (z ∷ xs) ys (later h) = later (in_front xs ys h)

pub in_back : {A : Type 0} {x : A} (xs ys : List A) → In x ys → In x (xs ++ ys)
in_back [] ys h = h
in_back (z ∷ xs) ys h = later (in_back xs ys h)

pub in_last : {A : Type 0} (x : A) (xs : List A) → In x (xs ++ x ∷ [])
in_last x [] = first
in_last x (z ∷ xs) = later (in_last x xs)

pub in_cases : {A : Type 0} {y : A} (xs ys : List A) → In y (xs ++ ys) → In y xs ⊎ In y ys
in_cases [] ys h = inr h
in_cases (z ∷ xs) ys first = inl first
in_cases (z ∷ xs) ys (later h) = ⊎_elim (λ k. inl (later k)) (λ k. inr k) (in_cases xs ys h)

pub in_one : {A : Type 0} {x y : A} → In y (x ∷ []) → y ≡ x
in_one first = refl
in_one (later h) = elim h [ ]

set_marked : (marks : List Bool) (i : ℕ) → i < length marks → IsMarked (set marks i true) i
set_marked [] i h = absurd (omega arith)
set_marked (m ∷ marks) zero h = refl
set_marked (m ∷ marks) (suc i) h = set_marked marks i (omega arith)

set_kept : (marks : List Bool) (i j : ℕ) → IsMarked marks j → IsMarked (set marks i true) j
set_kept [] i j h = h
set_kept (m ∷ marks) zero zero h = refl
set_kept (m ∷ marks) zero (suc j) h = h
set_kept (m ∷ marks) (suc i) zero h = h
set_kept (m ∷ marks) (suc i) (suc j) h = set_kept marks i j h

set_only : (marks : List Bool) (i j : ℕ) → IsMarked (set marks i true) j → IsMarked marks j ⊎ (j ≡ i)
set_only [] i j h = inl h
set_only (m ∷ marks) zero zero h = inr refl
set_only (m ∷ marks) zero (suc j) h = inl h
set_only (m ∷ marks) (suc i) zero h = inl h
set_only (m ∷ marks) (suc i) (suc j) h = ⊎_elim (λ k. inl k) (λ e. inr (ap suc e)) (set_only marks i j h)

-- one fewer is not marked
unmarked-set : (marks : List Bool) (i : ℕ) → slice_get marks i ≡ Some false → unmarked (set marks i true) + 1 ≡ unmarked marks
unmarked-set marks i h =
    let f : Bool → ℕ = λ b. cond (not b) 1 0 in
    let was : f (get_or marks i false) ≡ 1 = ap f (get_or_from_slice_get marks i false false h) in
    omega (arith, sum_by-set f marks i true false (slice_get_within marks i false h), was)

module _ {nodes : List ℕ} {old new : List Bool} {waited waiting : List ℕ} (node : ℕ) (m : Marks nodes old new waited waiting) where
  -- behind them a node that is marked already
  pub marks_again : IsMarked new node → Marks (nodes ++ node ∷ []) old new waited waiting
  marks_again h = record {
    added = m.added;
    behind = m.behind;
    among = λ i k. in_front nodes (node ∷ []) (m.among i k);
    marked = λ i k. ⊎_elim (m.marked i) (λ l. subst (IsMarked new) (sym (in_one l)) h) (in_cases nodes (node ∷ []) k);
    kept = m.kept;
    only = m.only;
    as_many = m.as_many;
    fewer = m.fewer;
  }

  -- behind them a node that is not marked yet
  pub marks_new : slice_get new node ≡ Some false → Marks (nodes ++ node ∷ []) old (set new node true) waited (waiting ++ node ∷ [])
  marks_new h =
      let same = set_marked new node (slice_get_within new node false h) in
      record {
        added = m.added ++ node ∷ [];
        behind = ap (λ w. w ++ node ∷ []) m.behind ∙ append_assoc waited m.added (node ∷ []);
        among = λ i k. ⊎_elim (λ l. in_front nodes (node ∷ []) (m.among i l)) (λ l. subst (λ j. In j (nodes ++ node ∷ [])) (sym (in_one l)) (in_last node nodes)) (in_cases m.added (node ∷ []) k);
        marked = λ i k. ⊎_elim (λ l. set_kept new node i (m.marked i l)) (λ l. subst (IsMarked (set new node true)) (sym (in_one l)) same) (in_cases nodes (node ∷ []) k);
        kept = λ i k. set_kept new node i (m.kept i k);
        only = λ i k.
            ⊎_elim (λ l. ⊎_elim (λ o. inl o) (λ a. inr (in_front m.added (node ∷ []) a)) (m.only i l)) (λ e. inr (subst (λ j. In j (m.added ++ node ∷ [])) (sym e) (in_last node m.added)))
            (set_only new node i k);
        as_many = length-set new node true ∙ m.as_many;
        fewer = omega (arith, length_push m.added node, unmarked-set new node h, m.fewer);
      }
