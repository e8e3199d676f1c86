-- What crates above need of those below, passed on to them.
unfoldable pub use Rattle.uri_grammar.specs.Grammar.{is_reference}
pub use Rattle.uri_grammar.specs.Grammar.{is_fragment, is_uri}
pub use Rattle.uri_grammar.specs.Lent.{parts_of}
unfoldable pub use Rattle.uri_grammar.specs.Parts.{split}
pub use Rattle.uri_grammar.specs.Parts.{Parts, authority_of, behind, recompose, scheme_of}
pub use Rattle.uri_grammar.specs.Texts.{all_or_none, cut_at, has, is_empty, is_none, pieces}
