-- What crates above need of those below, passed on to them.
pub use Rattle.reading_laws.specs.Asked.{AreAmong}
pub use Rattle.reached_sites.specs.Passed.{base_of, documents_in, documents_of, target_in, AreWithin}
pub use Rattle.reached_sites.specs.Causes.{NamesCause, IsExceeded, RefusesWithin}
pub use Rattle.reached_sites.specs.Roots.{IsPlaced}
pub use Rattle.reached_sites.specs.declared.cause.BuildCause.{BuildCause}
pub use Rattle.reached_sites.specs.declared.cause.BuildCause.TheVariants.{Memory}
pub use Rattle.plain_reader.specs.Passed.{Resolved, assertion_of, scope_of}
pub use Rattle.plain_reader.specs.Passed.{Finds, FindsTarget, context_at, row_of, site_at, IsRowOf}
pub use Rattle.plain_reader.specs.Passed.{kind_of, name_of}
pub use Rattle.plain_reader.specs.Applied.{AsksInside, EachInside, AreAsked, IsPart}
pub use Rattle.plain_reader.specs.Choices.{IsInside}
pub use Rattle.plain_reader.specs.Passed.{Refuses}
pub use Rattle.plain_reader.specs.Passed.{Stands, documents_at, is_draft_4_at}
pub use Rattle.plain_reader.specs.Passed.{Keyword}
pub use Rattle.plain_reader.specs.Passed.{Applicator, Assertion, Consequent, If, Nothing, Pattern, Reference}
pub use Rattle.plain_reader.specs.Passed.{Refusal}
pub use Rattle.plain_reader.specs.Passed.{ReferenceKeyword}
pub use Rattle.plain_reader.specs.Passed.{Site}
pub use Rattle.plain_reader.specs.Verdicts.{AreRead}
