-- What is said of an error, phrase by phrase, and the texts that spell it.
use Rattle.std.specs.Prelude.{◌≡◌, ℕ, List, [], ◌∷◌, ◌++◌, reverse, decimal, nat_le, if◌then◌else◌, false, codes}
use Rattle.std.specs.Fmt.{take_chars}
use Rattle.serde_json.specs.Data.{Data, string}
use Rattle.serde_json.specs.View.{view}
use Rattle.serde_json.specs.Written.{compact_text, has_float, IsInOrder}
use Rattle.json_values.specs.Parts.{Part}
use Rattle.json_values.specs.Pointers.{pointer_text}
use Rattle.json_values.specs.Texts.{code_points}
use Rattle.schema_reports.specs.declared.phrases.Phrase.{Phrase as Code}
use Rattle.schema_reports.specs.declared.phrases.Phrase.TheVariants as code

-- words as they stand, a value, a name or a pattern, a number of things, and a path, its last part first
pub data Phrase : Type 0 where
  words : List ℕ → Phrase
  value : Data → Phrase
  name : List ℕ → Phrase
  count : ℕ → Phrase
  place : List Part → Phrase

abbrev pub phrase_of : Code → Phrase
phrase_of (code.Words text) = words text.now
phrase_of (code.Value v) = value (view v.now)
phrase_of (code.Name text) = name text.now
phrase_of (code.Count n) = count n
phrase_of (code.Place path) = place path.now

-- ---- texts

-- a text of up to 60 code points, and else its first 60 and three dots
abbrev pub shortened : List ℕ → List ℕ
shortened text = if nat_le (code_points text) 60 then text else take_chars 60 text ++ codes "..."

-- a JSON text of a value with no space in it: the one that there is, where no number of it has a fraction or an exponent
pub record IsJsonText (d : Data) (text : List ℕ) : Type 0 where
  pub exact : has_float d ≡ false → text ≡ compact_text d
  pub order : IsInOrder text d

-- a value is spelled by its JSON text, shortened; a name by a JSON string; a number in decimal; a path by its pointer (RFC 6901)
abbrev pub IsSpelled : Phrase → List ℕ → Type 0
IsSpelled (words text) t = t ≡ text
IsSpelled (value d) t = (text : List ℕ) × IsJsonText d text × (t ≡ shortened text)
IsSpelled (name text) t = t ≡ compact_text (string text)
IsSpelled (count n) t = t ≡ decimal n
IsSpelled (place path) t = t ≡ pointer_text (reverse path)

-- one after another, with nothing between
abbrev pub AreSpelled : List Phrase → List ℕ → Type 0
AreSpelled [] t = t ≡ []
AreSpelled (p ∷ ps) t = (first : List ℕ) × (rest : List ℕ) × IsSpelled p first × AreSpelled ps rest × (t ≡ first ++ rest)
