-- What the code's vocabularies stand for.
use Rattle.std.specs.Prelude.{string_bytes}
use Rattle.schema_drafts.specs.Vocabularies as spec
use Rattle.schema_dialects.specs.declared.vocabulary.Known as known
use Rattle.schema_dialects.specs.declared.vocabulary.Known.TheVariants as named
use Rattle.schema_dialects.specs.declared.vocabulary.Vocabulary as code
use Rattle.schema_dialects.specs.declared.vocabulary.Vocabulary.TheVariants.{Core, Applicator, Unevaluated, Validation, Metadata, Format, FormatAnnotation, FormatAssertion, Content, Custom}

abbrev pub vocabulary_of : code.Vocabulary → spec.Vocabulary
vocabulary_of Core = spec.core
vocabulary_of Applicator = spec.applicator
vocabulary_of Unevaluated = spec.unevaluated
vocabulary_of Validation = spec.validation
vocabulary_of Metadata = spec.metadata
vocabulary_of Format = spec.format
vocabulary_of FormatAnnotation = spec.format_annotation
vocabulary_of FormatAssertion = spec.format_assertion
vocabulary_of Content = spec.content
vocabulary_of (Custom uri) = spec.custom (string_bytes uri)

abbrev pub known_of : known.Known → spec.Vocabulary
known_of named.Core = spec.core
known_of named.Applicator = spec.applicator
known_of named.Unevaluated = spec.unevaluated
known_of named.Validation = spec.validation
known_of named.Metadata = spec.metadata
known_of named.Format = spec.format
known_of named.FormatAnnotation = spec.format_annotation
known_of named.FormatAssertion = spec.format_assertion
known_of named.Content = spec.content
