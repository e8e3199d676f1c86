-- What the code's visits stand for.
use Rattle.std.specs.Prelude.{◌≡◌, List, [], ◌∷◌, ◌++◌}
use Rattle.serde_json.specs.View.{view}
use Rattle.schema_meaning.specs.Members.{In}
use Rattle.schema_definitions.specs.Bearers.{Document}
use Rattle.document_index.specs.Seen.{name_of}
use Rattle.schema_dialects.specs.Dialects.{dialect_of}
use Rattle.referencing.specs.Keys.{key_of}
use Rattle.referencing.specs.Resolved.{base_of, scope_of, documents_in}
use Rattle.schema_definitions.specs.CompileKeys.{CompileKey}
use Rattle.schema_definitions.specs.Sites.{Site}
use Rattle.schema_sites.specs.Seen.{documents_at}
use Rattle.reading_laws.specs.SiteLaws.{AreAlike}
use Rattle.reading_laws.specs.Keys.{key_of_site}
use Rattle.reached_sites.specs.Places.{place_in}
use Rattle.reached_sites.specs.declared.visit.Visit.{Visit}
use Rattle.reached_sites.specs.declared.waypoint.Waypoint.{Waypoint}

abbrev pub site_of : Visit → Site
site_of v = record {
  document = name_of v.point.place.document;
  path = v.point.place.path;
  contents = view v.site.contents.now;
  base = base_of v.site.resolver;
  scope = scope_of v.site.resolver;
  dialect = dialect_of v.site.dialect;
  schema_path = v.point.schema_path.steps;
}

abbrev pub key_at : Visit → CompileKey
key_at v = key_of_site (documents_at v.site) (site_of v)

-- a site that is alike to a visit's
pub record Met (v : Visit) (s : Site) : Type 0 where
  pub alike : AreAlike (documents_at v.site) s (site_of v)

-- a visit among documents
pub record Belongs (own : List Document) (v : Visit) : Type 0 where
  pub documents : documents_in v.site.resolver ≡ own

-- visits that stand, one by one, for sites
pub data Matches (own : List Document) : List Visit → List Site → Type 0 where
  none : Matches own [] []
  both : {v : Visit} {s : Site} {vs : List Visit} {ss : List Site} → Belongs own v → Met v s → Matches own vs ss → Matches own (v ∷ vs) (s ∷ ss)

-- sites for which visits were put behind others
pub record Adds (own : List Document) (old new : List Visit) (ss : List Site) : Type 0 where
  pub added : List Visit
  pub grown : new ≡ old ++ added
  pub met : Matches own added ss

-- one place by one schema path
pub record AreOnePoint (p q : Waypoint) : Type 0 where
  pub place : place_in p.place ≡ place_in q.place
  pub road : p.schema_path.steps ≡ q.schema_path.steps

-- visits at one place with one base, one dialect, one scope key and one schema path
pub record Repeats (v w : Visit) : Type 0 where
  pub point : AreOnePoint v.point w.point
  pub base : base_of v.site.resolver ≡ base_of w.site.resolver
  pub dialect : v.site.dialect ≡ w.site.dialect
  pub key : key_of v.key.value ≡ key_of w.key.value

pub record Known (vs : List Visit) (w : Visit) : Type 0 where
  pub visit : Visit
  pub listed : In visit vs
  pub same : Repeats visit w
