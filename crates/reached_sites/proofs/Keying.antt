-- The compile keys of visits.
use Rattle.std.proofs.Common.{◌≡◌, ◌∙◌, ℕ, List, [], ◌∷◌, map, Some, refl, sym, ap, ap₂, subst}
use Rattle.json_values.specs.Parts.{Part}
use Rattle.serde_json.specs.View.{view}
use Rattle.schema_meaning.specs.Members.{In, first, later}
use Rattle.schema_definitions.specs.Places.{Dialect}
use Rattle.schema_definitions.specs.Bearers.{Document, Documents}
use Rattle.schema_definitions.specs.CompileKeys.{CompileKey, ScopeKey, scope_key}
use Rattle.schema_definitions.specs.Rows.{Place}
use Rattle.schema_definitions.specs.Sites.{Site}
use Rattle.schema_sites.specs.Seen.{documents_at}
use Rattle.schema_dialects.proofs.Dialects.{same_dialects}
use Rattle.schema_dialects.specs.Dialects.{dialect_of}
use Rattle.schema_dialects.specs.declared.dialect.Dialect as code
use Rattle.referencing.specs.Resolved.{base_of, scope_of}
use Rattle.reading_laws.specs.SiteLaws.{AreAlike}
use Rattle.reading_laws.specs.Spelled.{spelled}
use Rattle.reading_laws.specs.Keys.{key_of_site}
use Rattle.reached_sites.specs.Visits.{site_of, key_at, Belongs, Repeats}
use Rattle.reached_sites.specs.declared.visit.Visit.{Visit}
use Rattle.reached_sites.proofs.Meeting.{present-of}
use Rattle.reached_sites.proofs.Placing.{placed}

abbrev pub key-from : List ℕ → List Part → List ℕ → ScopeKey → Dialect → List Part → CompileKey
key-from document path base scope dialect road = record { document = document; path = path; base = base; scope = scope; dialect = dialect; schema_path = road }

pub key-same : {d e : List ℕ} {p q : List Part} {b c : List ℕ} {k l : ScopeKey} {x y : Dialect} {r s : List Part}
    → d ≡ e → p ≡ q → b ≡ c → k ≡ l → x ≡ y → r ≡ s → key-from d p b k x r ≡ key-from e q c l y s
key-same d p b k x r = rw (d, p, b, k, x, r) refl

-- sites that are alike have one key
pub alike-key : (docs : Documents) (s t : Site) → AreAlike docs s t → key_of_site docs s ≡ key_of_site docs t
alike-key docs s t a = key-same a.document a.path a.base a.scope a.dialect a.road

-- ---- visits of one key repeat one another

pub one-dialect : (d e : code.Dialect) → dialect_of d ≡ dialect_of e → d ≡ e
one-dialect d e h = (let same = same_dialects (Some d) (Some e) (ap Some h) in cc (same))

pub one-key : (v w : Visit) → key_at v ≡ key_at w → Repeats v w
one-key v w e = record {
  point = record {
    place = ap₂ placed (ap (λ (k : CompileKey). k.document) e) (ap (λ (k : CompileKey). k.path) e);
    road = sym v.point.schema_path.named ∙ ap (λ (k : CompileKey). k.schema_path) e ∙ w.point.schema_path.named;
  };
  base = ap (λ (k : CompileKey). k.base) e;
  dialect = one-dialect v.site.dialect w.site.dialect (ap (λ (k : CompileKey). k.dialect) e);
  key = v.keyed ∙ ap (λ (k : CompileKey). k.scope) e ∙ sym w.keyed;
}

in-keys : (vs : List Visit) (k : CompileKey) → In k (map key_at vs) → (v : Visit) × In v vs × (key_at v ≡ k)
in-keys [] k i = elim i [ ]
in-keys (v ∷ vs) _ first = (v, first, refl)
in-keys (v ∷ vs) k (later i) = (let h = in-keys vs k i in (h.0, later h.1, h.2))

pub key-in : (vs : List Visit) (v : Visit) → In v vs → In (key_at v) (map key_at vs)
key-in [] v i = elim i [ ]
key-in (_ ∷ vs) v first = first
key-in (w ∷ vs) v (later i) = later (key-in vs v i)

pub keys-in : (vs : List Visit) (k : CompileKey) → In k (map key_at vs) → (v : Visit) × In v vs × (key_at v ≡ k)
keys-in = in-keys

-- ---- visits that repeat one another stand for the same sites

module _ (own : List Document) where
  pub sites-alike : (v w : Visit) → Belongs own v → Belongs own w → Repeats v w → view v.site.contents.now ≡ view w.site.contents.now → AreAlike own (site_of w) (site_of v)
  sites-alike v w b c r e =
      let key : scope_key (documents_at w.site) (base_of w.site.resolver) (scope_of w.site.resolver) ≡ scope_key (documents_at v.site) (base_of v.site.resolver) (scope_of v.site.resolver) =
      sym w.keyed ∙ sym r.key ∙ v.keyed in
      record {
        document = sym (ap (λ (p : Place). p.document) r.point.place);
        path = sym (ap (λ (p : Place). p.path) r.point.place);
        contents = sym e;
        base = sym r.base;
        dialect = ap dialect_of (sym r.dialect);
        road = ap spelled (sym r.point.road);
        scope = subst (λ (ds : List Document). scope_key ds (base_of w.site.resolver) (scope_of w.site.resolver) ≡ scope_key own (base_of v.site.resolver) (scope_of v.site.resolver)) c.documents
            (subst (λ (ds : List Document). scope_key (documents_at w.site) (base_of w.site.resolver) (scope_of w.site.resolver) ≡ scope_key ds (base_of v.site.resolver) (scope_of v.site.resolver)) b.documents key);
        here = present-of w;
        there = present-of v;
      }
