-- What a table has once a pattern was found, or added.
use Rattle.std.proofs.Common.{◌≡◌, ℕ, zero, suc, List, [], ◌∷◌, ◌++◌, Bool, true, false, Option, Some, None, map, length, slice_get, option_map, bytes_eq, string_bytes, String, Global, refl, sym, ap, ◌∙◌, get_or, position, cond, subst, is_some, true≢false, ap₂, not, nat_lt, ◌+◌}
use Rattle.std.specs.List.{position_or_len}
use Rattle.std.specs.Map.{keys_of, update}
use Rattle.std.specs.HashMap.{HashMap, get_by_text, get, UpdatesBy}
use Rattle.std.specs.String.{string_eq}
use Rattle.std.proofs.lemmas.List.{map-append, length-map}
use Rattle.std.proofs.lemmas.List.Quantifiers.{position-Some}
use Rattle.std.proofs.lemmas.Option.{slice_get-get_or, same_Some, none-some}
use Rattle.std.proofs.lemmas.Slice.Eq.{bytes_eq-Decides}
use Rattle.std.proofs.lemmas.Map.Entries.{length-keys_of}
use Rattle.std.proofs.lemmas.Map.Text.{hash_map_updates_text}
use Rattle.indexmap.specs.IndexMap.{insert_entry}
use Rattle.indexmap.proofs.CallerLemmas.{insert_entry-new}
use Rattle.json_values.specs.Patterns.{literal_of, literal_or, means, known}
use Rattle.value_checks.specs.CodePatterns.{form_of}
use Rattle.schema_patterns.specs.Compiled.{found_by, optimized}
use Rattle.schema_patterns.specs.declared.compiled.CompiledPattern.{CompiledPattern}
use Rattle.schema_patterns.specs.declared.compiled.CompiledPattern.TheVariants.{Optimized, Made}

module _ {X : Type 0} where
  abbrev entry : String Global × X → List ℕ × X
  entry e = (string_bytes e.0, e.1)

  abbrev text_of : List ℕ × X → List ℕ
  text_of e = e.0

  text_at : (es : List (String Global × X)) (n : ℕ) → option_map text_of (slice_get (map entry es) n) ≡ option_map string_bytes (slice_get (keys_of es) n)
  text_at [] n = refl
  text_at (e ∷ es) zero = refl
  text_at (e ∷ es) (suc n) = text_at es n

  -- the number of a text that was found
  pub number_found : (es : List (String Global × X)) (text : List ℕ) (n : ℕ) → position (λ k. bytes_eq text (string_bytes k)) (keys_of es) ≡ Some n
      → option_map text_of (slice_get (map entry es) n) ≡ Some text
  number_found [] text n e = absurd (none-some n e)
  number_found (x ∷ es) text n e =
      let at = position-Some (λ k. bytes_eq text (string_bytes k)) (keys_of (x ∷ es)) n x.0 e in
      text_at (x ∷ es) n ∙ ap (option_map string_bytes) (slice_get-get_or (keys_of (x ∷ es)) n x.0 at.0) ∙ ap Some (sym ((bytes_eq-Decides text (string_bytes (get_or (keys_of (x ∷ es)) n x.0))).0 at.1))

  -- a text stands where its pattern's key does
  place_mapped : (es : List (String Global × X)) (text : List ℕ) → position_or_len (λ k. bytes_eq text (string_bytes k)) (keys_of es) ≡ position_or_len (bytes_eq text) (map text_of (map entry es))
  place_mapped [] text = refl
  place_mapped (e ∷ es) text = ap (λ n. cond (not (bytes_eq text (string_bytes e.0))) (1 + n) 0) (place_mapped es text)

  pub position_mapped : (es : List (String Global × X)) (text : List ℕ) → position (λ k. bytes_eq text (string_bytes k)) (keys_of es) ≡ position (bytes_eq text) (map text_of (map entry es))
  position_mapped es text =
      let lengths : length (keys_of es) ≡ length (map text_of (map entry es)) = length-keys_of es ∙ sym (length-map (map entry es) text_of ∙ length-map es entry) in
      ap₂ (λ (m n : ℕ). cond (nat_lt m n) (Some m) None) (place_mapped es text) lengths

  -- the number of a text that was added
  pub number_added : (es : List (String Global × X)) (text : List ℕ) (x : X) (n : ℕ) → n ≡ length es → option_map text_of (slice_get (map entry es ++ (text, x) ∷ []) n) ≡ Some text
  number_added es text x n is = ap (λ k. option_map text_of (slice_get (map entry es ++ (text, x) ∷ []) k)) is ∙ at_end es
    where
      at_end : (fs : List (String Global × X)) → option_map text_of (slice_get (map entry fs ++ (text, x) ∷ []) (length fs)) ≡ Some text
      at_end [] = refl
      at_end (f ∷ fs) = at_end fs

  -- the entries behind an addition
  pub entries_grown : {S : Type 0} (m n : HashMap (String Global) X S) (key : String Global) (text : List ℕ) (x : X) → string_bytes key ≡ text → get_by_text m text ≡ None
      → n.entries ≡ insert_entry string_eq m.entries key x → map entry n.entries ≡ map entry m.entries ++ (text, x) ∷ []
  entries_grown m n key text x is absent grown =
      let none : get string_eq m key ≡ None = ap (get_by_text m) is ∙ absent in
      ap (map entry) (grown ∙ insert_entry-new string_eq m key x none)
      ∙ map-append entry m.entries ((key, x) ∷ [])
      ∙ ap (λ t. map entry m.entries ++ (t, x) ∷ []) is

  -- what holds of all patterns holds behind the addition of another of which it holds
  pub each_kept : {S : Type 0} (P : List ℕ → X → Type 0) (m n : HashMap (String Global) X S) (key : String Global) (text : List ℕ) (x : X) → string_bytes key ≡ text
      → UpdatesBy string_eq (string_eq key) m n (Some x) → P text x
      → ((t : List ℕ) (y : X) → get_by_text m t ≡ Some y → P t y) → (t : List ℕ) (y : X) → get_by_text n t ≡ Some y → P t y
  each_kept {S} P m n key text x is updates new old t y at = by_test (bytes_eq (string_bytes key) t) refl
    where
      after : get_by_text n t ≡ update bytes_eq (get_by_text m) (string_bytes key) (Some x) t
      after = hash_map_updates_text (string_bytes key) m n (Some x) updates t

      by_test : (b : Bool) → bytes_eq (string_bytes key) t ≡ b → P t y
      by_test true e =
          let same : text ≡ t = sym is ∙ (bytes_eq-Decides (string_bytes key) t).0 e in
          let value : x ≡ y = same_Some x y (sym (ap (λ b. cond b (Some x) (get_by_text m t)) e) ∙ sym after ∙ at) in
          subst (P t) value (subst (λ u. P u x) same new)
      by_test false e = old t y (sym (ap (λ b. cond b (Some x) (get_by_text m t)) e) ∙ sym after ∙ at)

pub none_there : {X : Type 0} (o : Option X) → is_some o ≡ false → o ≡ None
none_there None e = refl
none_there (Some x) e = absurd (true≢false e)

-- a pattern that is a literal form, or whose matcher finds what finishes, finds what is known
pub found_is_known : {M : Type 0} (finds : M → List ℕ → Option Bool) (finished : List ℕ → List ℕ → Option Bool) (pattern : List ℕ) (c : CompiledPattern M)
    → option_map form_of (optimized c) ≡ literal_of pattern → ((m : M) → c ≡ Made m → (text : List ℕ) → finds m text ≡ finished pattern text)
    → (text : List ℕ) → found_by finds c text ≡ known finished pattern text
found_is_known finds finished pattern (Optimized form) is made text = ap (literal_or (λ l. Some (means l text)) (finished pattern text)) is
found_is_known finds finished pattern (Made m) is made text = made m refl text ∙ ap (literal_or (λ l. Some (means l text)) (finished pattern text)) is
