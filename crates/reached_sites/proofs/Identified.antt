-- What is wrong with an identifier.
use Rattle.std.proofs.Common.{if◌then◌else◌, ◌≡◌, ◌∙◌, ℕ, List, [], ◌∷◌, ◌++◌, Bool, true, false, Option, Some, None, ap, subst, sym}
use Rattle.std.specs.List.{flat_map}
use Rattle.serde_json.specs.View.{view}
use Rattle.uri_grammar.specs.Grammar.{is_reference}
use Rattle.uri_grammar.specs.Parts.{split}
use Rattle.schema_meaning.specs.Members.{In, first}
use Rattle.schema_definitions.specs.Identifiers.{identifier_text}
use Rattle.schema_definitions.specs.Lookup.{invalid_uri}
use Rattle.schema_definitions.specs.Rows.{BuildCause, bad_reference, identifier_causes}
use Rattle.schema_definitions.specs.Sites.{Site}
use Rattle.schema_definitions.specs.Words.{listed}
use Rattle.reading_laws.proofs.Reaching.{same_identifiers}
use Rattle.schema_dialects.specs.Dialects.{dialect_of}
use Rattle.schema_sites.specs.Seen.{documents_at}
use Rattle.reached_sites.specs.Places.{place_in}
use Rattle.reached_sites.specs.Visits.{site_of, Met}
use Rattle.reached_sites.specs.declared.visit.Visit.{Visit}

-- of a visit, by the text of its identifier
module _ (v : Visit) where
  abbrev causes_of : List ℕ → List BuildCause
  causes_of i = if is_reference (split i) then [] else bad_reference (place_in v.point.place) (invalid_uri i) ∷ []

  abbrev pub text_at : Option (List ℕ)
  text_at = identifier_text (dialect_of v.site.dialect) (view v.site.contents.now)

  by-text : (s : Site) → Met v s → (o : Option (List ℕ)) → text_at ≡ o → identifier_causes s ≡ flat_map causes_of (listed o)
  by-text s m o e = same_identifiers (documents_at v.site) s (site_of v) m.alike ∙ ap (λ (t : Option (List ℕ)). flat_map causes_of (listed t)) e

  pub not-named : (s : Site) → Met v s → text_at ≡ None → identifier_causes s ≡ []
  not-named s m e = by-text s m None e

  pub rightly-named : (s : Site) → Met v s → (i : List ℕ) → text_at ≡ Some i → is_reference (split i) ≡ true → identifier_causes s ≡ []
  rightly-named s m i e right =
      by-text s m (Some i) e ∙ ap (λ (b : Bool). (if b then [] else bad_reference (place_in v.point.place) (invalid_uri i) ∷ []) ++ []) right

  pub wrongly-named : (s : Site) → Met v s → (i : List ℕ) → text_at ≡ Some i → is_reference (split i) ≡ false
      → In (bad_reference (place_in v.point.place) (invalid_uri i)) (identifier_causes s)
  wrongly-named s m i e wrong =
      let same = by-text s m (Some i) e ∙ ap (λ (b : Bool). (if b then [] else bad_reference (place_in v.point.place) (invalid_uri i) ∷ []) ++ []) wrong in
      subst (λ (cs : List BuildCause). In (bad_reference (place_in v.point.place) (invalid_uri i)) cs) (sym same) first
