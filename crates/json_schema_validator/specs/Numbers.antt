-- Values of which each number is a whole number of 64 bits, passed on to who asks validators.
pub use Rattle.schema_registries.specs.Whole.{only_whole}
