-- The URIs under which documents are added.
use Rattle.std.specs.Prelude.{◌≡◌, ◌⊎◌, ℕ, List, Bool, ◌&&◌, false}
use Rattle.uri_grammar.specs.Texts.{is_empty, all_or_none}
use Rattle.uri_grammar.specs.Parts.{split}
use Rattle.uri_grammar.specs.Grammar.{is_reference}
use Rattle.schema_definitions.specs.DocumentCauses.{no_reference}
use Rattle.document_sources.specs.declared.error.Error.{Error}
use Rattle.document_sources.specs.Causes.{IsMemory, NamesDocument}

-- a URI reference (RFC 3986, section 4.1) that has no fragment or an empty one (section 3.5), as it stands for a whole document
abbrev pub is_document_uri : List ℕ → Bool
is_document_uri text = is_reference (split text) && all_or_none is_empty (split text).fragment

-- the error for a text: want of memory, or that it is no such URI, and then it is named
abbrev pub RefusesUri : List ℕ → Error → Type 0
RefusesUri text e = IsMemory e ⊎ ((is_document_uri text ≡ false) × NamesDocument (no_reference text) e)
