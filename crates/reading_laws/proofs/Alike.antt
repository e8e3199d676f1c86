-- Being alike is an equivalence.
use Rattle.std.proofs.Common.{◌∙◌, refl, sym}
use Rattle.schema_definitions.specs.Bearers.{Documents}
use Rattle.schema_definitions.specs.Sites.{Site}
use Rattle.document_laws.specs.ScopeLaws.{IsPresent}
use Rattle.reading_laws.specs.SiteLaws.{AreAlike, AlikeIsEquivalence}

module _ (docs : Documents) where
  pub itself : (s : Site) → IsPresent s.base s.scope → AreAlike docs s s
  itself s here = record { document = refl; path = refl; contents = refl; base = refl; dialect = refl; road = refl; scope = refl; here = here; there = here }

  pub turned : (s t : Site) → AreAlike docs s t → AreAlike docs t s
  turned s t a = record {
    document = sym a.document;
    path = sym a.path;
    contents = sym a.contents;
    base = sym a.base;
    dialect = sym a.dialect;
    road = sym a.road;
    scope = sym a.scope;
    here = a.there;
    there = a.here;
  }

  pub joined : (s t u : Site) → AreAlike docs s t → AreAlike docs t u → AreAlike docs s u
  joined s t u a b = record {
    document = a.document ∙ b.document;
    path = a.path ∙ b.path;
    contents = a.contents ∙ b.contents;
    base = a.base ∙ b.base;
    dialect = a.dialect ∙ b.dialect;
    road = a.road ∙ b.road;
    scope = a.scope ∙ b.scope;
    here = a.here;
    there = b.there;
  }

pub alike_is_equivalence : AlikeIsEquivalence
alike_is_equivalence docs = (itself docs, turned docs, joined docs)
