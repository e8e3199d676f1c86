-- What crates above need of those below, passed on to them.
pub use Rattle.referencing.specs.Resolved.{base_of, documents_in, scope_of, target_in}
pub use Rattle.referencing.specs.declared.resolver.Resolved.{Resolved}
pub use Rattle.assertions.specs.Shapes.{assertion_of}
