-- What crates above need of those below, passed on to them.
pub use Rattle.document_index.proofs.CauseNames.{kept}
pub use Rattle.document_retrieval.proofs.StageLemmas.{gathered-alone, retrieved-alone}
pub use Rattle.document_retrieval.proofs.OnceLemmas.{Once, asked-once}
