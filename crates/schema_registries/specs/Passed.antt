-- What crates above need of those below, passed on to them.
pub use Rattle.schema_definitions.specs.Rounds.{Asking}
pub use Rattle.document_retrieval.specs.Stages.{asking, AnswersNothing, Stops}
pub use Rattle.referencing.specs.Prepared.{HasCause, RefusesRegistry}
pub use Rattle.referencing.specs.Seen.{retrieved_by}
