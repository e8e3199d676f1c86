-- What crates above need of those below, passed on to them.
pub use Rattle.applicators.specs.Shapes.{shape_of, leads_of, place_of}
pub use Rattle.applicators.specs.Applied.{Applicator}
