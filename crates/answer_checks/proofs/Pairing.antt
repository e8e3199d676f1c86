-- Texts beside lines, one after another, and what is said of them at a root.
use Rattle.std.proofs.Common.{◌≡◌, ◌<◌, ◌≤◌, ◌+◌, ◌∙◌, ◌++◌, ℕ, List, [], ◌∷◌, Bool, Option, Some, None, ap, ap₂, sym, subst, refl, map, min, take, take_all, length, arith}
use Rattle.std.specs.Borrow.{Bor}
use Rattle.std.specs.List.{AllZip, slice_get, slice_index_or, zip}
use Rattle.std.proofs.lemmas.List.{length-map, length-take-le, map-append, take_more}
use Rattle.std.proofs.lemmas.Option.{none-some, same_Some, slice_get_past, slice_get_read}
use Rattle.std.proofs.lemmas.Slice.Zip.{length-zip}
use Rattle.std.proofs.KnownBytes.{Appends-nil}
use Rattle.line_cuts.specs.declared.report.RunReport.{RunReport}
use Rattle.schema_registries.specs.Roots.{Patterns, Root}
use Rattle.answer_checks.specs.Checks.{CheckAnswers, IsCheckerOf, IsPairChecked, IsPairCheckedBy, Listed, pair_bytes, views}
use Rattle.answer_checks.specs.Written.{BreaksChecks, WritesChecks}
use Rattle.answer_checks.specs.Listing.{ChecksGiven, ChecksTexts}
use Rattle.answer_checks.specs.declared.checker.AnswerChecker.{AnswerChecker}
use Rattle.answer_checks.specs.declared.run.LinePair.{LinePair}

module _ {A B : Type 0} where
  zip_push : (xs : List A) (ys : List B) (x : A) (y : B) → slice_get ys (length xs) ≡ Some y → zip (xs ++ x ∷ []) ys ≡ zip xs ys ++ (x, y) ∷ []
  zip_push [] [] x y h = absurd (none-some y h)
  zip_push [] (z ∷ ys) x y h = ap (λ w. (x, w) ∷ []) (same_Some z y h)
  zip_push (w ∷ xs) [] x y h = absurd (none-some y h)
  zip_push (w ∷ xs) (z ∷ ys) x y h = ap (λ ps. (w, z) ∷ ps) (zip_push xs ys x y h)

  zip_past : (xs : List A) (ys : List B) (x : A) → slice_get ys (length xs) ≡ None → zip (xs ++ x ∷ []) ys ≡ zip xs ys
  zip_past [] [] x h = refl
  zip_past [] (z ∷ ys) x h = absurd (none-some z (sym h))
  zip_past (w ∷ xs) [] x h = refl
  zip_past (w ∷ xs) (z ∷ ys) x h = ap (λ ps. (w, z) ∷ ps) (zip_past xs ys x h)

pub some_item : {A : Type 0} (xs : List A) (i : ℕ) → i < length xs → A
some_item [] i within = absurd (omega (arith, within))
some_item (x ∷ xs) i within = x

zip_maps : {A B C D : Type 0} (f : A → C) (g : B → D) (xs : List A) (ys : List B) → map (λ (p : A × B). (f p.0, g p.1)) (zip xs ys) ≡ zip (map f xs) (map g ys)
zip_maps f g [] ys = refl
zip_maps f g (x ∷ xs) [] = refl
zip_maps f g (x ∷ xs) (y ∷ ys) = ap (λ ps. (f x, g y) ∷ ps) (zip_maps f g xs ys)

abbrev pub both_now : Bor (List ℕ) × Bor (List ℕ) → Listed
both_now p = (p.0.now, p.1.now)

-- the pairs of the first texts
abbrev pub PairedSoFar : List (Bor (List ℕ)) → List (Bor (List ℕ)) → ℕ → List LinePair → Type 0
PairedSoFar texts lines i pairs = map pair_bytes pairs ≡ map both_now (zip (take i texts) lines)

module _ (texts lines : List (Bor (List ℕ))) (i : ℕ) (pairs : List LinePair) (so_far : PairedSoFar texts lines i pairs) where
  first_long : i < length texts → length (take i texts) ≡ i
  first_long within = length-take-le i texts (omega (arith, within))

  long : i < length texts → length pairs ≡ min i (length lines)
  long within =
      sym (length-map pairs pair_bytes) ∙ ap length so_far ∙ length-map (zip (take i texts) lines) both_now ∙ length-zip (take i texts) lines
      ∙ ap (λ n. min n (length lines)) (first_long within)

  module _ (d : Bor (List ℕ)) (within : i < length texts) where
    one_more : zip (take (i + 1) texts) lines ≡ zip (take i texts ++ slice_index_or texts i d ∷ []) lines
    one_more = ap (λ ts. zip ts lines) (take_more texts i d within)

    module _ (k : ℕ) (counted : k ≡ length pairs) where
      pub paired_more : (line : Bor (List ℕ)) (pair : LinePair) → k < length lines → line ≡ slice_index_or lines k line → pair_bytes pair ≡ ((slice_index_or texts i d).now, line.now)
          → PairedSoFar texts lines (i + 1) (pairs ++ pair ∷ [])
      paired_more line pair inside found is =
          let text = slice_index_or texts i d in
          let same : k ≡ length (take i texts) = omega (arith, counted, inside, long within, first_long within) in
          let at : slice_get lines (length (take i texts)) ≡ Some line = subst (λ n. slice_get lines n ≡ Some line) same (slice_get_read lines (length lines) k line refl inside found) in
          map-append pair_bytes pairs (pair ∷ []) ∙ ap₂ (λ ps q. ps ++ q ∷ []) so_far is ∙ sym (map-append both_now (zip (take i texts) lines) ((text, line) ∷ []))
          ∙ ap (map both_now) (sym (zip_push (take i texts) lines text line at) ∙ sym one_more)

      pub paired_past : length lines ≤ k → PairedSoFar texts lines (i + 1) pairs
      paired_past past =
          let beyond : length lines ≤ length (take i texts) = omega (arith, past, counted, long within, first_long within) in
          so_far ∙ ap (map both_now) (sym (zip_past (take i texts) lines (slice_index_or texts i d) (slice_get_past lines (length (take i texts)) beyond)) ∙ sym one_more)

  pub paired_all : length texts ≤ i → map pair_bytes pairs ≡ zip (views texts) (views lines)
  paired_all past = so_far ∙ ap (λ ts. map both_now (zip ts lines)) (take_all i texts past) ∙ zip_maps (λ s. s.now) (λ s. s.now) texts lines

zip_weaker : {A B : Type 0} (P Q : A → B → Type 0) → ((x : A) (y : B) → P x y → Q x y) → (xs : List A) (ys : List B) → AllZip P xs ys → AllZip Q xs ys
zip_weaker P Q f [] [] h = tt
zip_weaker P Q f [] (y ∷ ys) h = absurd h
zip_weaker P Q f (x ∷ xs) [] h = absurd h
zip_weaker P Q f (x ∷ xs) (y ∷ ys) h = (f x y h.0, zip_weaker P Q f xs ys h.1)

pub breaks_none : (R : Listed → CheckAnswers → Type 0) (lines : List Listed) (before : Option (List ℕ)) → BreaksChecks R lines before before
breaks_none R lines before = record {
  done = [];
  rest = lines;
  said = [];
  written = [];
  tail = [];
  first = refl;
  checked = tt;
  begun = refl;
  appended = Appends-nil before;
}

-- what a checker says is so at each root of which it is one
module _ {M : Type 0} (finds : M → List ℕ → Option Bool) (checker : AnswerChecker M) (p : Patterns) (r : Root) (of : IsCheckerOf finds p r checker) (lines : List Listed) (before after : Option (List ℕ)) where
  at_root : (said : List CheckAnswers) (ls : List Listed) → AllZip (IsPairCheckedBy finds checker) ls said → AllZip (IsPairChecked p r) ls said
  at_root said ls h = zip_weaker (IsPairCheckedBy finds checker) (IsPairChecked p r) (λ x y s. s p r of) ls said h

  pub writes_at : (report : RunReport) → WritesChecks (IsPairCheckedBy finds checker) lines before after report → WritesChecks (IsPairChecked p r) lines before after report
  writes_at report w = record { said = w.said; checked = at_root w.said lines w.checked; appended = w.appended; counted = w.counted; refused = w.refused }

  pub breaks_at : BreaksChecks (IsPairCheckedBy finds checker) lines before after → BreaksChecks (IsPairChecked p r) lines before after
  breaks_at b = record {
    done = b.done;
    rest = b.rest;
    said = b.said;
    written = b.written;
    tail = b.tail;
    first = b.first;
    checked = at_root b.said b.done b.checked;
    begun = b.begun;
    appended = b.appended;
  }

-- texts that are given are the instances
module _ (p : Patterns) (r : Root) (listed : List ℕ) (from before after : Option (List ℕ)) where
  pub given_checks : (texts : List (List ℕ)) (report : RunReport) → (texts ≡ [] → ⊥) → ChecksTexts p r texts listed before after report → ChecksGiven p r listed texts from from before after report
  given_checks [] report some h = absurd (some refl)
  given_checks (t ∷ ts) report some h = (refl, h)
