-- What proofs above need of those below, passed on to them.
pub use Rattle.schema_validators.proofs.Preparing.{documents_stay_alone}
