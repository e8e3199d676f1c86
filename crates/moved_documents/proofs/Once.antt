-- Where documents name drafts alone, what they bear does not depend on what is told of meta-schemas.
use Rattle.std.proofs.Common.{◌≡◌, ◌∙◌, ◌||◌, ℕ, List, [], ◌∷◌, map, Bool, true, false, if◌then◌else◌, codes, Option, Some, None, is_some, option_and_then, IfSome, refl, sym, subst}
use Rattle.std.specs.List.{AllByRecursion, flat_map}
use Rattle.serde_json.specs.Data.{Data, null, boolean, number, string, array, object}
use Rattle.schema_drafts.specs.Drafts.{draft_named}
use Rattle.schema_drafts.specs.declared.draft.Draft.{Draft}
use Rattle.schema_meaning.specs.Members.{In}
use Rattle.schema_definitions.specs.Words.{text_at}
use Rattle.schema_definitions.specs.Identifiers.{identifier}
use Rattle.schema_definitions.specs.Places.{Dialect, SchemaPlace, standard, uri_named, draft_beside, named_meta_schema, places}
use Rattle.schema_definitions.specs.Bearers.{Documents, document_name, standing_in, standings, is_root, meta}
use Rattle.document_laws.specs.Agreeing.{Agrees}
use Rattle.document_laws.proofs.Lists.{joined}
use Rattle.document_laws.proofs.Agreeing.{agreeing_tell_places}
use Rattle.added_documents.specs.Added.{EachNamed, EachNamedBy, NamesDraft}
use Rattle.added_documents.proofs.Children.{NamedAt, places_named}
use Rattle.moved_documents.specs.Laws.{OnceIsAlways}

-- a draft that is named is no meta-schema of one's own
none_named : (t : List ℕ) (o : Option Draft) → is_some o ≡ true → uri_named t o ≡ None
none_named t None e = cc
none_named t (Some draft) e = refl

if_kept : (b : Bool) (t : List ℕ) → NamesDraft t → option_and_then (λ t. uri_named t (draft_named t)) (if b then Some t else None) ≡ None
if_kept true t h = none_named t (draft_named t) h
if_kept false t h = refl

if_there : (kept : List ℕ → Bool) (o : Option (List ℕ)) → IfSome o NamesDraft
    → option_and_then (λ t. uri_named t (draft_named t)) (option_and_then (λ t. if kept t then Some t else None) o) ≡ None
if_there kept None h = refl
if_there kept (Some t) h = if_kept (kept t) t h

names_none : (siblings at_root : Bool) (d : Data) → EachNamed NamesDraft d → named_meta_schema siblings at_root d ≡ None
names_none siblings at_root (object ms) h =
    if_there (λ t. at_root || is_some (identifier (standard siblings (draft_beside t)) (object ms))) (text_at (codes "$schema") (object ms)) h.0
names_none siblings at_root null h = refl
names_none siblings at_root (boolean b) h = refl
names_none siblings at_root (number n) h = refl
names_none siblings at_root (string s) h = refl
names_none siblings at_root (array ds) h = refl

module _ (told after : List ℕ → Option Dialect) where
  agree_at : (document : List ℕ) (ps : List SchemaPlace) → AllByRecursion (NamedAt NamesDraft told) ps
      → AllByRecursion (Agrees told after) (map (λ p. record { document = document; place = p }) ps)
  agree_at document [] h = tt
  agree_at document (p ∷ ps) h = (
    record {
      agrees = λ uri e.
          (let no : None ≡ Some uri = sym (names_none p.dialect.siblings (is_root p.path) p.contents h.0.each) ∙ e in absurd (cc));
    },
    agree_at document ps h.1,
  )

  agree_in : (docs : Documents) → EachNamedBy NamesDraft docs → AllByRecursion (Agrees told after) (flat_map (standing_in told) docs)
  agree_in [] h = tt
  agree_in (d ∷ docs) h =
      joined (Agrees told after) (standing_in told d) (flat_map (standing_in told) docs)
      (agree_at (document_name d) (places told d.uri d.default d.contents) (places_named NamesDraft told d.uri d.default d.contents h.0)) (agree_in docs h.1)

  all_agree : (docs : Documents) → EachNamedBy NamesDraft docs → AllByRecursion (Agrees told after) (standings told docs)
  unfolding standings
  all_agree docs h = agree_in docs h

  pub same_standings : (docs : Documents) → EachNamedBy NamesDraft docs → standings after docs ≡ standings told docs
  same_standings docs h = agreeing_tell_places told after docs (all_agree docs h)

pub once_is_always : OnceIsAlways
once_is_always docs h once told =
    let same : standings told docs ≡ standings (meta docs) docs = same_standings (meta docs) told docs h in
    record {
      uris = λ uri s t i j e f. once.uris uri s t (subst (λ ss. In s ss) same i) (subst (λ ss. In t ss) same j) e f;
      names = λ base k s t i j e f. once.names base k s t (subst (λ ss. In s ss) same i) (subst (λ ss. In t ss) same j) e f;
    }
