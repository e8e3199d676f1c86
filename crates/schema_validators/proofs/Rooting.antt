-- The document in which a root lies.
use Rattle.std.proofs.Common.{◌≡◌, inr, ℕ, List, [], ◌∷◌, Bool, true, Option, Some, None, Result, Ok, Err, IfOk, IfErr, bytes_eq, refl, sym, ap, subst}
use Rattle.std.proofs.lemmas.Slice.Eq.{bytes_eq-Decides}
use Rattle.schema_definitions.specs.Words.{or_else}
use Rattle.schema_definitions.specs.Bearers.{Document, uri_in}
use Rattle.schema_definitions.specs.Lookup.{Target}
use Rattle.schema_meaning.specs.Members.{In, first, later}
use Rattle.document_laws.specs.TargetLaws.{IsTarget, by_reference}
use Rattle.document_laws.proofs.TargetsLooked.{target_comes_of}
use Rattle.schema_registries.specs.Pointers.{document_at, IsDocumentAt}
use Rattle.schema_registries.specs.declared.registry.SharedRegistry.{SharedRegistry}
use Rattle.schema_registries.specs.declared.registry.SchemaRegistry.{SchemaRegistry}
use Rattle.schema_registries.specs.Seen.{documents_in_registry, documents_shared}
use Rattle.schema_patterns.specs.declared.matcher.PatternMatcher.{Ghosts}
use Rattle.schema_registries.specs.Roots.{Patterns, Finds, root_on}
use Rattle.schema_validators.specs.Maps.{IsMapOf, IsMapAt, ArePlacesExceeded, RefusesMapAt}
use Rattle.schema_validators.specs.declared.error.BuildError.{BuildError}
use Rattle.schema_validators.specs.declared.validator_map.ValidatorMap.{ValidatorMap}

-- there is a last document of a URI where there is one
pub record HasDocument (own : List Document) (uri : List ℕ) : Type 0 where
  pub document : Document
  pub is_at : IsDocumentAt own uri document

or_this : (o : Option Document) (d : Document) → (e : Document) × (or_else o (Some d) ≡ Some e)
or_this None d = (d, refl)
or_this (Some e) d = (e, refl)

last_of : (own : List Document) (uri : List ℕ) (d : Document) → In d own → bytes_eq d.uri uri ≡ true → HasDocument own uri
last_of [] uri d i same = elim i [ ]
last_of (d ∷ own) uri _ first same =
    let last = or_this (document_at own uri) d in
    record { document = last.0; is_at = rw same last.1 }
last_of (e ∷ own) uri d (later i) same =
    let rest = last_of own uri d i same in
    record { document = rest.document; is_at = rw rest.is_at refl }

-- so there is one under the URI of the document of a target
pub document-of : (own : List Document) (t : Target) → IsTarget own t → HasDocument own (uri_in t.document)
document-of own t is =
    let o = (target_comes_of own t is).origin in
    last_of own (uri_in t.document) o.document o.listed ((bytes_eq-Decides o.document.uri (uri_in t.document)).1 (ap uri_in o.named))

module _ (p : Patterns) (r : SchemaRegistry) (reference : List ℕ) (limit : ℕ) (t : Target) (found : Finds (root_on r reference) t)
    (o : SharedRegistry) (same : o ≡ r.own) (u : List ℕ) (named : u ≡ uri_in t.document) where
  abbrev own : List Document
  own = documents_in_registry r

  its : HasDocument own (uri_in t.document)
  its = document-of own t (by_reference r.base reference found)

  -- what holds of the document at a URI holds of it
  there : (P : List Document → Document → Type 0) → ((d : Document) → IsDocumentAt (documents_shared o) u d → P (documents_shared o) d) → P own its.document
  there P h =
      subst (λ (x : SharedRegistry). (d : Document) → IsDocumentAt (documents_shared x) u d → P (documents_shared x) d) same h its.document
      (subst (λ (x : List ℕ). IsDocumentAt own x its.document) (sym named) its.is_at)

  pub more-there : {T : Type 0} (x : Result T BuildError) → IfErr x (λ e. (d : Document) → IsDocumentAt (documents_shared o) u d → ArePlacesExceeded p (documents_shared o) d limit e)
      → IfErr x (λ e. RefusesMapAt p r reference limit e)
  more-there (Ok y) h = tt
  more-there (Err e) h = inr (record { target = t; found = found; document = its.document; is_at = its.is_at; exceeded = there (λ ds d. ArePlacesExceeded p ds d limit e) h })

module _ {M : Type 0} {G : Ghosts M} (p : Patterns) (r : SchemaRegistry) (reference : List ℕ) (limit : ℕ) (t : Target) (found : Finds (root_on r reference) t)
    (o : SharedRegistry) (same : o ≡ r.own) (u : List ℕ) (named : u ≡ uri_in t.document) where
  pub map-there : (x : Result (ValidatorMap M G) BuildError) → IfOk x (λ m. (d : Document) → IsDocumentAt (documents_shared o) u d → IsMapOf p (documents_shared o) d limit m)
      → IfOk x (λ m. IsMapAt p r reference limit m)
  map-there (Err e) h = tt
  map-there (Ok m) h =
      let d = its p r reference limit t found o same u named in
      record {
        target = t;
        found = found;
        document = d.document;
        is_at = d.is_at;
        is_map = there p r reference limit t found o same u named (λ ds d. IsMapOf p ds d limit m) h;
      }
