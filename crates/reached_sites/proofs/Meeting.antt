-- The sites that visits stand for.
use Rattle.std.proofs.Common.{◌≡◌, ◌∙◌, ℕ, List, ◌++◌, Some, false, refl, sym, ap, ap₂, slice_get}
use Rattle.std.proofs.lemmas.List.{map-append}
use Rattle.serde_json.specs.View.{view}
use Rattle.serde_json.specs.Data.{Data}
use Rattle.json_values.specs.Parts.{Part}
use Rattle.schema_definitions.specs.Bearers.{Documents, meta}
use Rattle.schema_definitions.specs.Places.{Dialect, Named, settled, awaited, by_schema, schema_in_force, placed}
use Rattle.document_index.specs.Seen.{name_of}
use Rattle.schema_dialects.specs.Dialects.{dialect_of}
use Rattle.referencing.specs.Resolved.{base_of, scope_of}
use Rattle.schema_definitions.specs.CompileKeys.{scope_key}
use Rattle.schema_definitions.specs.Sites.{Site, below}
use Rattle.schema_sites.specs.Seen.{documents_at, Stands}
use Rattle.document_laws.specs.ScopeLaws.{IsPresent}
use Rattle.reading_laws.proofs.Alike.{joined}
use Rattle.reading_laws.specs.SiteLaws.{AreAlike}
use Rattle.reading_laws.specs.Spelled.{by_name, spelled}
use Rattle.reached_sites.specs.Visits.{site_of, Met}
use Rattle.reached_sites.specs.declared.visit.Visit.{Visit}

pub stands-itself : (v : Visit) → Stands v.site (site_of v)
stands-itself v = record { contents = refl; base = refl; dialect = refl }

pub present-of : (v : Visit) → IsPresent (base_of v.site.resolver) (scope_of v.site.resolver)
present-of v = v.site.resolver.present

-- what a site has besides its place
pub record Settled (v : Visit) (s : Site) : Type 0 where
  pub base : s.base ≡ base_of v.site.resolver
  pub scope : s.scope ≡ scope_of v.site.resolver
  pub dialect : s.dialect ≡ dialect_of v.site.dialect

pub met-exactly : (v : Visit) (s : Site) → s.document ≡ name_of v.point.place.document → s.path ≡ v.point.place.path → s.contents ≡ view v.site.contents.now
    → spelled s.schema_path ≡ spelled v.point.schema_path.steps → Settled v s → Met v s
met-exactly v s document path contents road h = record {
  alike = record {
    document = document;
    path = path;
    contents = contents;
    base = h.base;
    dialect = h.dialect;
    road = road;
    scope = ap₂ (λ base scope. scope_key (documents_at v.site) base scope) h.base h.scope;
    here = ap (λ scope. slice_get scope 0) h.scope ∙ present-of v ∙ ap Some (sym h.base);
    there = present-of v;
  };
}

pub met-alike : (v : Visit) (s t : Site) → AreAlike (documents_at v.site) s t → Met v t → Met v s
met-alike v s t a m = record { alike = joined (documents_at v.site) s t (site_of v) a m.alike }

-- ---- the place of a subschema

placed-path : (outer : List ℕ) (around : Dialect) (path : List Part) (d : Data) (n : Named) → (placed outer around path d n).path ≡ path
placed-path outer around path d (settled dialect) = refl
placed-path outer around path d (awaited uri) = refl

abbrev named-below : Documents → Site → Data → Named
named-below docs s d = by_schema (meta docs) s.dialect (schema_in_force s.dialect.siblings false d)

pub below-path : (docs : Documents) (s : Site) (added : List Part) (d : Data) → (below docs s added d).path ≡ added ++ s.path
below-path docs s added d = placed-path s.base s.dialect (added ++ s.path) d (named-below docs s d)

-- a path behind one that is spelled by names already
pub spelled-behind : (added road whole : List Part) → spelled road ≡ road → spelled whole ≡ whole → spelled added ++ road ≡ whole → spelled (added ++ road) ≡ spelled whole
spelled-behind added road whole h g e = map-append by_name added road ∙ ap (λ path. spelled added ++ path) h ∙ e ∙ sym g
