-- What the code's sites stand for.
use Rattle.std.specs.Prelude.{◌≡◌, ℕ, List, Bool}
use Rattle.serde_json.specs.View.{view}
use Rattle.schema_drafts.specs.Counts.{counts}
use Rattle.schema_definitions.specs.Bearers.{Documents}
use Rattle.schema_dialects.specs.Dialects.{dialect_of}
use Rattle.referencing.specs.Resolved.{base_of, documents_in}
use Rattle.schema_definitions.specs.Rows.{is_draft_4}
use Rattle.schema_definitions.specs.Sites.{Site}
use Rattle.schema_sites.specs.declared.site.Site as code

-- the documents that references there are looked up in
abbrev pub documents_at : code.Site → Documents
documents_at c = documents_in c.resolver

-- a site of the documents that the code's stands for, wherever it is and whatever its scope is
pub record Stands (c : code.Site) (s : Site) : Type 0 where
  pub contents : s.contents ≡ view c.contents.now
  pub base : s.base ≡ base_of c.resolver
  pub dialect : s.dialect ≡ dialect_of c.dialect

-- whether a keyword counts there, `$ref` beside or not
abbrev pub counts_at : code.Site → Bool → List ℕ → Bool
counts_at c beside_ref k = counts (dialect_of c.dialect) beside_ref k

-- whether the schema is of Draft 4
abbrev pub is_draft_4_at : code.Site → Bool
is_draft_4_at c = is_draft_4 (dialect_of c.dialect).draft
