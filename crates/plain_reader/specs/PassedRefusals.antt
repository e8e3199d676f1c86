-- Why a member is not read, passed on to the crates above.
pub use Rattle.schema_sites.specs.declared.keyword.Refusal.TheVariants.{Element, Entry, LeftOut, Memory, Reference, Target, Value}
