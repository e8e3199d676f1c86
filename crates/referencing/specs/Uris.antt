-- Why a text is not resolved.
use Rattle.std.specs.Prelude.{◌≡◌, ◌⊎◌, ℕ, List, false}
use Rattle.uri_grammar.specs.Parts.{split}
use Rattle.uri_grammar.specs.Grammar.{is_reference}
use Rattle.schema_definitions.specs.DocumentCauses.{no_reference}
use Rattle.document_sources.specs.Causes.{IsMemory, NamesDocument}
use Rattle.document_sources.specs.declared.error.Error.{Error}

-- want of memory, or that it is no URI reference, and then it is named (RFC 3986, section 4.1)
abbrev pub RefusesReference : List ℕ → Error → Type 0
RefusesReference text e = IsMemory e ⊎ ((is_reference (split text) ≡ false) × NamesDocument (no_reference text) e)
