-- What crates above need of those below, passed on to them.
unfoldable pub use Rattle.schema_definitions.specs.Identifiers.{resolved}
pub use Rattle.schema_definitions.specs.Identifiers.{after_hash, anchors, anchors_by, dynamic_anchors, fragment_anchor, is_hidden, identifier, identifier_text}
pub use Rattle.schema_definitions.specs.Places.{Dialect, Named, SchemaPlace, awaited, by_draft, by_meta_schema, by_schema, meta_schema_uri, named_meta_schema, own_base, placed, schema_in_force, settled, uri_named}
pub use Rattle.schema_definitions.specs.Words.{listed}
