-- Identifiers of schemas (Core 8.2.1; Draft 7, Core 8.2; Draft 4, Core 7.2).
use Rattle.std.specs.Prelude.{ℕ, List, [], ◌∷◌, ◌==◌, Bool, false, ◌&&◌, codes, if◌then◌else◌, Option, Some, None, option_and_then, is_some}
use Rattle.serde_json.specs.Data.{Data}
use Rattle.serde_json.specs.Find.{get, as_str}
use Rattle.uri_grammar.specs.Texts.{cut_at}
use Rattle.schema_drafts.specs.Drafts.{ignores_siblings, identifier_name}
use Rattle.schema_drafts.specs.Vocabularies.{Dialect}

-- the text of a member; a member that is no text is as if absent
abbrev pub text_at : List ℕ → Data → Option (List ℕ)
text_at k d = option_and_then as_str (get k d)

-- whether a `$ref` hides what stands beside it
abbrev pub is_hidden : Dialect → Data → Bool
is_hidden e d = ignores_siblings e.siblings e.draft && is_some (get (codes "$ref") d)

-- the text of the identifier's keyword
abbrev pub identifier_text : Dialect → Data → Option (List ℕ)
identifier_text e d = if is_hidden e d then None else text_at (identifier_name e.draft) d

abbrev pub begins_with_hash : List ℕ → Bool
begins_with_hash [] = false
begins_with_hash (b ∷ t) = b == 35

-- the identifier, without its fragment; a fragment alone is none, the empty text is one
abbrev pub without_fragment : List ℕ → Option (List ℕ)
without_fragment t = if begins_with_hash t then None else Some (cut_at 35 t).0

abbrev pub identifier : Dialect → Data → Option (List ℕ)
identifier e d = option_and_then without_fragment (identifier_text e d)
