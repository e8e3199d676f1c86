-- What crates above need of those below, passed on to them.
pub use Rattle.referencing.specs.Resolved.{base_of, documents_in, target_in}
pub use Rattle.referencing.specs.Seen.{documents_of}
pub use Rattle.reading_laws.specs.Keys.{AreWithin}
