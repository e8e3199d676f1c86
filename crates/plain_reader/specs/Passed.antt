-- What crates above need of those below, passed on to them.
pub use Rattle.schema_sites.specs.Passed.{Resolved, assertion_of, base_of, documents_in, scope_of, target_in}
pub use Rattle.schema_sites.specs.Read.{FindsTarget, row_of, shapes_of, site_at, Finds, context_at, IsRowOf}
pub use Rattle.schema_sites.specs.References.{kind_of, name_of}
pub use Rattle.schema_sites.specs.Seen.{Stands, documents_at, is_draft_4_at}
pub use Rattle.schema_sites.specs.declared.keyword.Keyword.{Keyword}
pub use Rattle.schema_sites.specs.declared.keyword.Keyword.TheVariants.{Applicator, Assertion, Consequent, If, Nothing, Pattern, Reference}
pub use Rattle.schema_sites.specs.declared.reference_keyword.ReferenceKeyword.{ReferenceKeyword}
pub use Rattle.schema_sites.specs.declared.site.Site.{Site}
pub use Rattle.schema_sites.specs.Refused.{Refuses}
pub use Rattle.schema_sites.specs.declared.keyword.Refusal.{Refusal}
