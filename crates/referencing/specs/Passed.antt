-- What crates above need of those below, passed on to them.
pub use Rattle.document_index.specs.Named.{NamesOne}
pub use Rattle.document_retrieval.specs.Stages.{asking, IsGathered, AnswersNothing, Stops, SomeRefused, RefusesWant, AreTooMany, MayAnswer}
unfoldable pub use Rattle.schema_definitions.specs.Rounds.{wants_under}
pub use Rattle.schema_definitions.specs.Rounds.{Want, Asking, wants, wanted_at, further, is_at_hand, is_added, IsOfLayer, IsRound, AreRounds, gathered, retrieved, none_twice}
