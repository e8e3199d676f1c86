-- Why a member is not read, passed on to the crates above.
pub use Rattle.plain_reader.specs.PassedRefusals.{Element, Entry, LeftOut, Memory, Reference, Target, Value}
