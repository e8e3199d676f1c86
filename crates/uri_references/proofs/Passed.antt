-- What crates above need of those below, passed on to them.
pub use Rattle.uri_grammar.proofs.Back.{back}
pub use Rattle.uri_grammar.proofs.Halves.{cut_behind, cut_lacks}
