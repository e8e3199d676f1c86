-- What crates above need of those below, passed on to them.
pub use Rattle.schema_validators.specs.Seen.{root_of}
pub use Rattle.schema_validators.specs.Made.{IsMadeBy}
pub use Rattle.schema_validators.specs.Built.{IsBuilt}
pub use Rattle.schema_validators.specs.Prepared.{asking_by, meta_schemas_given, documents_alone, layer_by, AreMetaSchemas, AreDocuments, IsRegistry}
pub use Rattle.schema_validators.specs.Counted.{IsWithin}
pub use Rattle.schema_validators.specs.Asked.{IsMet}
pub use Rattle.schema_validators.specs.declared.options.ValidationOptions.{ValidationOptions}
pub use Rattle.schema_validators.specs.declared.validator.Validator.{Validator}
pub use Rattle.schema_validators.specs.Passed.{Root, Patterns}
