-- What crates above need of those below, passed on to them.
pub use Rattle.schema_registries.specs.Roots.{Root, Patterns}
pub use Rattle.schema_registries.specs.Answers.{IsAnswer}
