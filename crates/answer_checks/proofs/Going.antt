-- How far a run of checks has come.
use Rattle.std.proofs.Common.{◌≡◌, ◌<◌, ◌≤◌, ◌+◌, ◌∙◌, ℕ, List, [], ◌∷◌, ◌++◌, false, ◌||◌, Option, map, min, length, take, drop, take_all, arith, ap, refl, sym, subst, append-nil, append_assoc, take-append-drop, length-append}
use Rattle.std.specs.List.{AllZip, concat, list_any, slice_index_or}
use Rattle.std.specs.Io.KnownBytes.{Appends}
use Rattle.std.proofs.KnownBytes.{Appends-nil, Appends-trans}
use Rattle.std.proofs.lemmas.List.{map-append}
use Rattle.std.proofs.lemmas.List.Folds.{list_any-append, concat-append}
use Rattle.line_cuts.specs.Devices.{most}
use Rattle.line_cuts.specs.Runs.{TakesSome}
use Rattle.line_cuts.specs.declared.report.RunReport.{RunReport}
use Rattle.answer_checks.proofs.Lists.{or_false, zip_more}
use Rattle.answer_checks.specs.Checks.{CheckAnswers, Listed}
use Rattle.answer_checks.specs.Words.{checked_text, is_doubtful}
use Rattle.answer_checks.specs.Written.{BreaksChecks, WritesChecks, texts_of}

texts_more : (said : List CheckAnswers) (o : CheckAnswers) → texts_of (said ++ o ∷ []) ≡ texts_of said ++ checked_text o
texts_more said o =
    ap concat (map-append checked_text said (o ∷ [])) ∙ concat-append (map checked_text said) (checked_text o ∷ []) ∙ ap (λ t. texts_of said ++ t) (append-nil (checked_text o))

module _ {A : Type 0} (f : A → Listed) (R : Listed → CheckAnswers → Type 0) (xs : List A) (before : Option (List ℕ)) where
  -- the first of these were checked, and what is said of them is written
  pub record Went (i : ℕ) (report : RunReport) (now : Option (List ℕ)) : Type 0 where
    pub said : List CheckAnswers
    pub checked : AllZip R (map f (take i xs)) said
    pub appended : Appends before now (texts_of said)
    pub counted : report.lines ≡ min (length said) most
    pub refused : report.any_refused ≡ list_any is_doubtful said

  pub went_none : (report : RunReport) → report.lines ≡ 0 → report.any_refused ≡ false → Went 0 report before
  went_none report none sure = record { said = []; checked = tt; appended = Appends-nil before; counted = none ∙ refl; refused = sure }

  pub went_all : (i : ℕ) (report : RunReport) (now : Option (List ℕ)) → length xs ≤ i → Went i report now → WritesChecks R (map f xs) before now report
  went_all i report now past w = record {
    said = w.said;
    checked = subst (λ ys. AllZip R (map f ys) w.said) (take_all i xs past) w.checked;
    appended = w.appended;
    counted = w.counted;
    refused = w.refused;
  }

  cut_at : (i : ℕ) → map f xs ≡ map f (take i xs) ++ map f (drop i xs)
  cut_at i = ap (map f) (sym (take-append-drop i xs)) ∙ map-append f (take i xs) (drop i xs)

  pub went_breaks : (i : ℕ) (report : RunReport) (now : Option (List ℕ)) → Went i report now → BreaksChecks R (map f xs) before now
  went_breaks i report now w = record {
    done = map f (take i xs);
    rest = map f (drop i xs);
    said = w.said;
    written = texts_of w.said;
    tail = [];
    first = cut_at i;
    checked = w.checked;
    begun = sym (append-nil (texts_of w.said));
    appended = w.appended;
  }

  module _ (i : ℕ) (report : RunReport) (now next : Option (List ℕ)) (d : A) (within : i < length xs) (w : Went i report now) (o : CheckAnswers) (r : R (f (slice_index_or xs i d)) o) where
    checked_more : AllZip R (map f (take (i + 1) xs)) (w.said ++ o ∷ [])
    checked_more = zip_more xs i d within f R w.said o w.checked r

    pub went_more : (newer : RunReport) → Appends now next (checked_text o) → newer.lines ≡ min (report.lines + 1) most → newer.any_refused ≡ (report.any_refused || is_doubtful o) → Went (i + 1) newer next
    went_more newer written counted refused = record {
      said = w.said ++ o ∷ [];
      checked = checked_more;
      appended = subst (Appends before next) (sym (texts_more w.said o)) (Appends-trans before now next (texts_of w.said) (checked_text o) w.appended written);
      counted = omega (arith, counted, w.counted, length-append w.said (o ∷ []));
      refused =
          refused ∙ ap (λ b. b || is_doubtful o) w.refused ∙ ap (λ b. list_any is_doubtful w.said || b) (sym (or_false (is_doubtful o)))
          ∙ sym (list_any-append is_doubtful w.said (o ∷ []));
    }

    pub went_taken : TakesSome now next (checked_text o) → BreaksChecks R (map f xs) before next
    went_taken t = record {
      done = map f (take (i + 1) xs);
      rest = map f (drop (i + 1) xs);
      said = w.said ++ o ∷ [];
      written = texts_of w.said ++ t.taken;
      tail = t.left;
      first = cut_at (i + 1);
      checked = checked_more;
      begun = texts_more w.said o ∙ ap (λ l. texts_of w.said ++ l) t.whole ∙ sym (append_assoc (texts_of w.said) t.taken t.left);
      appended = Appends-trans before now next (texts_of w.said) t.taken w.appended t.appended;
    }
