-- The site of a subschema, by what is known of meta-schemas.
use Rattle.std.proofs.Common.{◌≡◌, ◌∙◌, sym, ap, ℕ, List, ◌++◌}
use Rattle.serde_json.specs.Data.{Data}
use Rattle.serde_json.specs.View.{view}
use Rattle.json_values.specs.Parts.{Part}
use Rattle.schema_definitions.specs.Bearers.{Documents, meta}
use Rattle.schema_definitions.specs.Places.{Dialect, SchemaPlace, entered}
use Rattle.schema_dialects.specs.Dialects.{dialect_of, dialects_in}
use Rattle.schema_dialects.specs.declared.meta_schemas.MetaSchemas.{MetaSchemas}
use Rattle.schema_dialects.specs.Seen.{place_at}
use Rattle.schema_dialects.specs.declared.bases.Settled.{Settled}
use Rattle.document_laws.proofs.Alike.{alike_tell}
use Rattle.referencing.specs.Resolved.{base_of}
use Rattle.schema_definitions.specs.Sites.{Site, below}
use Rattle.schema_sites.specs.declared.site.Site as code
use Rattle.schema_sites.specs.Seen.{Stands}

pub below-stands : (docs : Documents) (known : MetaSchemas) → ((uri : List ℕ) → dialects_in known uri ≡ meta docs uri)
    → (c inner : code.Site) (s : Site) (added : List Part) (d : Data) (settled : Settled) → Stands c s
    → view inner.contents.now ≡ d → base_of inner.resolver ≡ settled.base.value → inner.dialect ≡ settled.dialect
    → ((path : List Part) → place_at path d settled ≡ entered (dialects_in known) (base_of c.resolver) (dialect_of c.dialect) path d) → Stands inner (below docs s added d)
below-stands docs known told c inner s added d settled stands contents base dialect at =
    let path = added ++ s.path in
    let same : entered (meta docs) s.base s.dialect path d ≡ place_at path d settled =
    ap (λ (b : List ℕ). entered (meta docs) b s.dialect path d) stands.base
    ∙ ap (λ (x : Dialect). entered (meta docs) (base_of c.resolver) x path d) stands.dialect
    ∙ sym (at path ∙ (alike_tell (dialects_in known) (meta docs) told).entry (base_of c.resolver) (dialect_of c.dialect) path d) in
    record {
      contents = ap (λ (p : SchemaPlace). p.contents) same ∙ sym contents;
      base = ap (λ (p : SchemaPlace). p.base) same ∙ sym base;
      dialect = ap (λ (p : SchemaPlace). p.dialect) same ∙ ap dialect_of (sym dialect);
    }
