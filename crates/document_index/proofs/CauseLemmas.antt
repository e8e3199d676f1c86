-- The causes of documents, by what an index has.
use Rattle.std.proofs.Common.{◌≡◌, ◌∙◌, refl, sym, ap, ℕ, suc, List, [], ◌∷◌, ◌++◌, append-nil, map, Bool, Option, Some, None, is_some, if◌then◌else◌, codes}
use Rattle.std.specs.List.{flat_map}
use Rattle.uri_grammar.specs.Texts.{cut_at}
use Rattle.schema_definitions.specs.Words.{listed, text_at}
use Rattle.schema_definitions.specs.Identifiers.{resolved, identifier_text}
use Rattle.schema_definitions.specs.Places.{Dialect, schema_in_force}
use Rattle.schema_definitions.specs.Bearers.{Documents, Standing, standings, is_root, bears, bearer_under, meta}
use Rattle.schema_definitions.specs.DocumentCauses as all
use Rattle.schema_definitions.specs.DocumentCauses.{DocumentCause, unretrieved, unless_reference, awaited_cause, how_many_await, place_causes}
use Rattle.document_index.specs.Located.{Located, kept_of, located_standings, last_located}
use Rattle.document_index.specs.Indexes.{Indexes}
use Rattle.document_index.specs.declared.index.Index.{Index}
use Rattle.document_index.proofs.AnswerLemmas.{last-of-located}
use Rattle.document_index.specs.Checked.{borne_in, borne_by, unknown_by, wanted_from, wanted_at, of_text, awaited_from, causes_at}
use Rattle.document_index.proofs.CauseNames.{is_some-map}

-- ---- two that say the same of who bears a URI

module _ (f g : List ℕ → Bool) (unknown : List ℕ → DocumentCause) (same : (u : List ℕ) → f u ≡ g u) where
  same_wanted : (t : List ℕ) (o : Option (List ℕ)) → wanted_from f t o ≡ wanted_from g t o
  same_wanted t None = refl
  same_wanted t (Some uri) = ap (λ b. if b then [] else unretrieved uri ∷ []) (same uri)

  same_text : (base : List ℕ) (o : Option (List ℕ)) → of_text (wanted_at f base) o ≡ of_text (wanted_at g base) o
  same_text base None = refl
  same_text base (Some t) = same_wanted (cut_at 35 t).0 (resolved base (cut_at 35 t).0)

  same_awaited : (s : Standing) (o : Option (List ℕ)) → awaited_from f unknown s o ≡ awaited_from g unknown s o
  same_awaited s None = ap (λ cs. of_text unless_reference (identifier_text s.place.dialect s.place.contents) ++ cs) (same_text s.place.base (text_at (codes "$ref") s.place.contents))
  same_awaited s (Some uri) = refl

  same_at : (s : Standing) → causes_at f unknown s ≡ causes_at g unknown s
  same_at s = ap (λ cs. of_text unless_reference (schema_in_force s.place.dialect.siblings (is_root s.place.path) s.place.contents) ++ cs) (same_awaited s s.place.awaits)

  same_causes : (ss : List Standing) → flat_map (causes_at f unknown) ss ≡ flat_map (causes_at g unknown) ss
  same_causes [] = refl
  same_causes (s ∷ ss) = ap (λ cs. cs ++ flat_map (causes_at f unknown) ss) (same_at s) ∙ ap (λ cs. causes_at g unknown s ++ cs) (same_causes ss)

-- ---- the causes of a place

one-text : (f : List ℕ → List DocumentCause) (o : Option (List ℕ)) → flat_map f (listed o) ≡ of_text f o
one-text f None = refl
one-text f (Some t) = append-nil (f t)

from-target : (docs : Documents) (t : List ℕ) (o : Option (List ℕ)) → elim o [ None ↦ all.no_reference t ∷ [] | Some uri ↦ all.unless_borne docs uri ] ≡ wanted_from (borne_by docs) t o
from-target docs t None = refl
from-target docs t (Some uri) = refl

wanted : (docs : Documents) (base : List ℕ) (o : Option (List ℕ)) → flat_map (λ t. all.wanted_by docs base (cut_at 35 t).0) (listed o) ≡ of_text (wanted_at (borne_by docs) base) o
wanted docs base None = refl
wanted docs base (Some t) = append-nil (all.wanted_by docs base (cut_at 35 t).0) ∙ from-target docs (cut_at 35 t).0 (resolved base (cut_at 35 t).0)

module _ (docs : Documents) where
  by_awaited : (s : Standing) (o : Option (List ℕ))
      → (if is_some o then map (awaited_cause docs (suc (how_many_await docs))) (listed o)
      else flat_map unless_reference (listed (identifier_text s.place.dialect s.place.contents))
      ++ flat_map (λ t. all.wanted_by docs s.place.base (cut_at 35 t).0) (listed (text_at (codes "$ref") s.place.contents)))
      ≡ awaited_from (borne_by docs) (unknown_by docs) s o
  by_awaited s None =
      let identifier = identifier_text s.place.dialect s.place.contents in
      let reference = text_at (codes "$ref") s.place.contents in
      let references = λ (t : List ℕ). all.wanted_by docs s.place.base (cut_at 35 t).0 in
      ap (λ cs. cs ++ flat_map references (listed reference)) (one-text unless_reference identifier)
      ∙ ap (λ cs. of_text unless_reference identifier ++ cs) (wanted docs s.place.base reference)
  by_awaited s (Some uri) = refl

  at_place : (s : Standing) → place_causes docs s ≡ causes_at (borne_by docs) (unknown_by docs) s
  at_place s =
      let schema = schema_in_force s.place.dialect.siblings (is_root s.place.path) s.place.contents in
      ap (λ cs. flat_map unless_reference (listed schema) ++ cs) (by_awaited s s.place.awaits)
      ∙ ap (λ cs. cs ++ awaited_from (borne_by docs) (unknown_by docs) s s.place.awaits) (one-text unless_reference schema)

  at_places : (ss : List Standing) → flat_map (place_causes docs) ss ≡ flat_map (causes_at (borne_by docs) (unknown_by docs)) ss
  at_places [] = refl
  at_places (s ∷ ss) =
      ap (λ cs. cs ++ flat_map (place_causes docs) ss) (at_place s) ∙ ap (λ cs. causes_at (borne_by docs) (unknown_by docs) s ++ cs) (at_places ss)

-- ---- by an index

-- somebody bears a URI where the index has a bearer
borne-in : (told : List ℕ → Option Dialect) (index : Index) (docs : Documents) → Indexes index (located_standings told docs) → (uri : List ℕ)
    → borne_in index uri ≡ is_some (bearer_under told docs uri)
borne-in told index docs i uri =
    ap is_some (i.by_uri uri)
    ∙ is_some-map kept_of (last_located (bears uri) (located_standings told docs))
    ∙ sym (is_some-map (λ (l : Located). l.standing) (last_located (bears uri) (located_standings told docs)))
    ∙ sym (ap is_some (last-of-located told (bears uri) docs))

pub causes_by : (index : Index) (docs : Documents) → Indexes index (located_standings (meta docs) docs)
    → flat_map (causes_at (borne_in index) (unknown_by docs)) (standings (meta docs) docs) ≡ flat_map (place_causes docs) (standings (meta docs) docs)
causes_by index docs i =
    same_causes (borne_in index) (borne_by docs) (unknown_by docs) (borne-in (meta docs) index docs i) (standings (meta docs) docs)
    ∙ sym (at_places docs (standings (meta docs) docs))
