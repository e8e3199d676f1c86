-- What is read of the matches of patterns.
use Rattle.std.specs.Prelude.{◌≡◌, ◌&&◌, ◌||◌, ℕ, List, Bool, true, false, Option, Some, None, bytes_eq, String}
use Rattle.std.specs.Global.{Global}
use Rattle.std.specs.List.{list_any}
use Rattle.std.specs.HashMap.{HashMap, get_by_text}
use Rattle.std.specs.Map.{update}
use Rattle.std.specs.HashSet.{contains_text}
use Rattle.std.specs.Borrow.{Bor}
use Rattle.json_values.specs.Patterns.{literal_or, literal_of, matched, known}
use Rattle.schema_meaning.specs.Members.{is_listed}
use Rattle.schema_patterns.specs.declared.matches.PatternMatches.{PatternMatches}
use Rattle.schema_patterns.specs.declared.matches.Matches.{Matches}

abbrev pub found_in : Option PatternMatches → List ℕ → Bool
found_in None text = false
found_in (Some found) text = contains_text found.yes text

abbrev pub left_in : Option PatternMatches → List ℕ → Bool
left_in None text = false
left_in (Some found) text = contains_text found.unfinished text

-- whether a pattern that is no literal form was read as matching a text
abbrev pub reads : Matches → List ℕ → List ℕ → Bool
reads m pattern text = found_in (get_by_text m.by_pattern pattern) text

-- whether the match stayed unfinished
abbrev pub leaves : Matches → List ℕ → List ℕ → Bool
leaves m pattern text = literal_or (λ l. false) (left_in (get_by_text m.by_pattern pattern) text) (literal_of pattern)

-- what is known of a match is what was read; one that is not known is read as none, and is left unfinished
abbrev pub IsRead : Option Bool → Bool → Bool → Type 0
IsRead (Some answer) read left = (read ≡ answer) × (left ≡ false)
IsRead None read left = (read ≡ false) × (left ≡ true)

-- each of these patterns with each of these texts
pub record IsReadBy (finished : List ℕ → List ℕ → Option Bool) (patterns texts : List (List ℕ)) (m : Matches) : Type 0 where
  pub each : (pattern text : List ℕ) → is_listed pattern patterns ≡ true → is_listed text texts ≡ true → IsRead (known finished pattern text) (matched (reads m) pattern text) (leaves m pattern text)

abbrev pub is_yes : Option Bool → Bool
is_yes (Some answer) = answer
is_yes None = false

abbrev pub is_left : Option Bool → Bool
is_left (Some answer) = false
is_left None = true

-- one more text, of whose match this is known
pub record Notes (known : Option Bool) (text : List ℕ) (old new : PatternMatches) : Type 0 where
  pub yes : (t : List ℕ) → contains_text new.yes t ≡ (contains_text old.yes t || (bytes_eq t text && is_yes known))
  pub left : (t : List ℕ) → contains_text new.unfinished t ≡ (contains_text old.unfinished t || (bytes_eq t text && is_left known))

-- the texts of which a matcher says yes, and those on which it gives up
pub record TellsTexts (found : List ℕ → Option Bool) (texts : List (Bor (List ℕ))) (m : PatternMatches) : Type 0 where
  pub yes : (t : List ℕ) → contains_text m.yes t ≡ list_any (λ k. bytes_eq t k.now && is_yes (found k.now)) texts
  pub left : (t : List ℕ) → contains_text m.unfinished t ≡ list_any (λ k. bytes_eq t k.now && is_left (found k.now)) texts

-- the matches of one more pattern beside others
pub record Adds {S : Type 0} (found : List ℕ → Option Bool) (pattern : List ℕ) (texts : List (Bor (List ℕ))) (old new : HashMap (String Global) PatternMatches S) : Type 0 where
  pub matches : PatternMatches
  pub told : TellsTexts found texts matches
  pub updated : (p : List ℕ) → get_by_text new p ≡ update bytes_eq (get_by_text old) pattern (Some matches) p
