-- What crates above need of those below, passed on to them.
pub use Rattle.uri_references.specs.Refusals.{Refuses}
