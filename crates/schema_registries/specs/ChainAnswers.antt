-- When two answers to one reference are alike.
use Rattle.std.specs.Prelude.{◌≡◌, ◌⊎◌, Option, option_map, Result, Ok, Err}
use Rattle.schema_definitions.specs.Lookup.{LookupCause}
use Rattle.document_sources.specs.Causes.{IsMemory, NamesLookup}
use Rattle.document_sources.specs.declared.error.Error.{Error}
use Rattle.referencing.specs.Followed.{answer_in}
use Rattle.referencing.specs.declared.resolver.Resolved.{Resolved}

-- two errors name one cause, or one of them is want of memory
abbrev pub NameOneCause : Error → Error → Type 0
NameOneCause d e = IsMemory d ⊎ (IsMemory e ⊎ ((cause : LookupCause) × NamesLookup cause d × NamesLookup cause e))

-- both lead to one target with one scope, or to nothing, or both are refused for one cause; one alone is refused for want of memory only
abbrev pub AnswerAlike : Result (Option Resolved) Error → Result (Option Resolved) Error → Type 0
AnswerAlike (Ok r) (Ok s) = option_map answer_in r ≡ option_map answer_in s
AnswerAlike (Ok r) (Err e) = IsMemory e
AnswerAlike (Err d) (Ok s) = IsMemory d
AnswerAlike (Err d) (Err e) = NameOneCause d e
