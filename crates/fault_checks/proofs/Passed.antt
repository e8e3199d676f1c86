-- What crates above need of those below, passed on to them.
pub use Rattle.plain_reader.proofs.QuestionVerdicts.{asks_inside, question_inside}
pub use Rattle.plain_reader.proofs.ChildVerdicts.{Child, child_shallow}
pub use Rattle.plain_reader.proofs.Reading.{member_inside}
pub use Rattle.plain_reader.proofs.SiteVerdicts.{root_shallow}
