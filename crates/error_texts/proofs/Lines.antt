-- Lines of errors, one after another.
use Rattle.std.proofs.Common.{◌≡◌, ◌<◌, ◌∙◌, ℕ, List, [], ◌∷◌, ◌++◌, codes, length, take, get_or, take_all, drop_of_length-le, arith, sym, ap, ap₂, subst, append_assoc, Result, Ok, Err, OnOk}
use Rattle.std.specs.List.{AllZip, before_first, after_first, concat, position_or_len}
use Rattle.std.proofs.lemmas.Bool.{eqb-true}
use Rattle.std.proofs.lemmas.List.{drop_more}
use Rattle.std.proofs.lemmas.List.Sums.{passes_at_first}
use Rattle.schema_reports.specs.Phrases.{AreSpelled}
use Rattle.schema_reports.specs.Sentences.{description_of}
use Rattle.schema_reports.specs.declared.error.ValidationError.{ValidationError}
use Rattle.error_texts.specs.Sentences.{IsSentence, further_lines, is_end, location_text, place_text, sentence_line}

-- a text from its first line end on
further_is : (d more : List ℕ) → position_or_len is_end d < length d → more ≡ after_first is_end d → further_lines d ≡ 10 ∷ more
further_is d more within e =
    let n = position_or_len is_end d in
    let end : get_or d n 0 ≡ 10 = eqb-true _ _ (passes_at_first is_end d 0 within) in
    drop_more d n 0 within ∙ ap₂ (λ b l. b ∷ l) end (sym e)

pub line_some : (label place d at first more : List ℕ) → position_or_len is_end d < length d → first ≡ before_first is_end d → more ≡ after_first is_end d
    → concat (label ∷ codes ":" ∷ place ∷ codes ": " ∷ first ∷ codes " (" ∷ at ∷ codes ")" ∷ codes "\n" ∷ more ∷ codes "\n" ∷ []) ≡ sentence_line label place d at
line_some label place d at first more within e f =
    ap₂ (λ a b. concat (label ∷ codes ":" ∷ place ∷ codes ": " ∷ a ∷ codes " (" ∷ at ∷ codes ")" ∷ b ∷ codes "\n" ∷ [])) e (sym (further_is d more within f))

pub line_none : (label place d at : List ℕ) → position_or_len is_end d ≡ length d
    → concat (label ∷ codes ":" ∷ place ∷ codes ": " ∷ d ∷ codes " (" ∷ at ∷ codes ")" ∷ codes "\n" ∷ []) ≡ sentence_line label place d at
line_none label place d at e =
    ap₂ (λ a b. concat (label ∷ codes ":" ∷ place ∷ codes ": " ∷ a ∷ codes " (" ∷ at ∷ codes ")" ∷ b ∷ codes "\n" ∷ [])) (sym (whole d e)) (sym (nothing d e))
  where
    whole : (t : List ℕ) → position_or_len is_end t ≡ length t → before_first is_end t ≡ t
    whole t h = ap (λ n. take n t) h ∙ take_all (length t) t (omega arith)

    nothing : (t : List ℕ) → position_or_len is_end t ≡ length t → further_lines t ≡ []
    nothing t h = drop_of_length-le t (omega (arith, h))

pub behind_on : {T E : Type 0} (r : Result T E) (old new text : List ℕ) (line : List ℕ) → text ≡ line → OnOk r (new ≡ old ++ text) → OnOk r (new ≡ old ++ line)
behind_on (Ok x) old new text line e h = h ∙ ap (λ t. old ++ t) e
behind_on (Err e) old new text line h x = tt

pub sentence_on : {T E : Type 0} (r : Result T E) (label : List ℕ) (e : ValidationError) (old new place d at : List ℕ) → AreSpelled (description_of e) d → place ≡ place_text e → at ≡ location_text e
    → OnOk r (new ≡ old ++ sentence_line label place d at) → OnOk r ((line : List ℕ) × IsSentence label e line × (new ≡ old ++ line))
sentence_on (Ok x) label e old new place d at says p q h = (
  sentence_line label place d at,
  record { description = d; says = says; is_text = ap₂ (λ a b. sentence_line label a d b) p q },
  h,
)
sentence_on (Err x) label e old new place d at says p q h = tt

-- one line more behind a text, and those of the errors behind it are still to come
pub line_on : (label : List ℕ) (all left after : List ValidationError) (e : ValidationError) (line old now newer : List ℕ) → left ≡ e ∷ after → IsSentence label e line → newer ≡ now ++ line
    → ((more : List (List ℕ)) → AllZip (IsSentence label) left more → (lines : List (List ℕ)) × AllZip (IsSentence label) all lines × (now ++ concat more ≡ old ++ concat lines))
    → (more : List (List ℕ)) → AllZip (IsSentence label) after more → (lines : List (List ℕ)) × AllZip (IsSentence label) all lines × (newer ++ concat more ≡ old ++ concat lines)
line_on label all left after e line old now newer is one longer before more zipped =
    let h = before (line ∷ more) (subst (λ es. AllZip (IsSentence label) es (line ∷ more)) (sym is) (one, zipped)) in
    (h.0, h.1, ap (λ l. l ++ concat more) longer ∙ append_assoc now line (concat more) ∙ h.2)
