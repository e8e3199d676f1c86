-- Sites reached in the two documents and in the one with the other inside: the same keywords stand there, so they answer alike.
use Rattle.std.proofs.Common.{◌≡◌, ◌++◌, ℕ, List, [], ◌∷◌, Bool, refl, sym, ap, subst}
use Rattle.std.specs.List.{AllByRecursion, AllZip}
use Rattle.serde_json.specs.Data.{Data}
use Rattle.json_values.specs.Parts.{Part}
use Rattle.schema_drafts.specs.declared.draft.Draft.{Draft}
use Rattle.schema_meaning.specs.Members.{In, first, later, Reordered, nothing_left, kept}
use Rattle.schema_meaning.specs.Keywords.{Shape}
use Rattle.schema_definitions.specs.Places.{SchemaPlace, entered}
use Rattle.schema_definitions.specs.Bearers.{Documents, meta}
use Rattle.schema_definitions.specs.DocumentCauses.{document_causes}
use Rattle.schema_definitions.specs.Scopes.{entered_scope}
use Rattle.schema_definitions.specs.Lookup.{Target}
use Rattle.schema_definitions.specs.Sites.{Site, within, below, target_site, root_site}
use Rattle.schema_definitions.specs.Rows.{BuildCause, Row, rows_at}
use Rattle.schema_definitions.specs.BuildCauses.{Reached, by_keyword, IsCauseOf}
use Rattle.schema_definitions.specs.Plain.{keywords_at, plain}
use Rattle.linked_meanings.specs.Related.{RelatedShape, AreRelated}
use Rattle.reading_laws.proofs.Asked.{Holds}
use Rattle.reading_laws.proofs.Reaching.{row_cause}
use Rattle.reading_laws.proofs.Reached.{shapes_led}
use Rattle.reading_laws.proofs.Elements.{each_laid_flat}
use Rattle.moved_documents.specs.Forms.{Pair, added, inside}
use Rattle.moved_documents.specs.Premises.{CanMove}
use Rattle.moved_documents.specs.Linked.{Near, unmoved, SamePlace, TargetAlike, SiteAlike, Correspond}
use Rattle.moved_documents.proofs.Twins.{Paths}
use Rattle.moved_documents.proofs.Walks.{PlacedAlike, entered_alike}
use Rattle.moved_documents.proofs.Told.{told, tell}
use Rattle.moved_documents.proofs.Lookups.{next_place, further_place, static_led, dynamic_led, recursive_led}
use Rattle.moved_documents.proofs.Rows.{elsewhere, LeadAlike}
use Rattle.moved_documents.proofs.NearRows.{NoneWrong, near_alike}
use Rattle.moved_documents.proofs.Joined.{all_joined}

-- ---- where nothing that is reached is wrong

module _ (docs : Documents) (makes : List ℕ → Bool) (root : Site) (right : (cause : BuildCause) → IsCauseOf docs makes root cause → ⊥) where
  none_wrong : (s : Site) → Reached docs makes root s → (row : Row) → In row (rows_at docs makes s) → row.causes ≡ []
  none_wrong s r row i = by row.causes refl
    where
      by : (cs : List BuildCause) → row.causes ≡ cs → cs ≡ []
      by [] is = refl
      by (c ∷ cs) is = absurd (right c (record { site = s; reached = r; wrong = row_cause docs makes s row c i (subst (λ xs. In c xs) (sym is) first) }))

  all_right : (s : Site) → Reached docs makes root s → (rows : List Row) → ((row : Row) → In row rows → In row (rows_at docs makes s)) → NoneWrong rows
  all_right s r [] h = tt
  all_right s r (w ∷ ws) h = (none_wrong s r w (h w first), all_right s r ws (λ x i. h x (later i)))

  pub nothing_wrong : (s : Site) → Reached docs makes root s → NoneWrong (rows_at docs makes s)
  nothing_wrong s r = all_right s r (rows_at docs makes s) (λ row i. i)

  -- the sites of keywords are reached
  pub keywords_reached : (s : Site) → Reached docs makes root s → AllByRecursion (Holds (Reached docs makes root) (Reached docs makes root)) (keywords_at docs makes s)
  keywords_reached s r =
      let IsReached : Site → Type 0 = Reached docs makes root in
      each_laid_flat (λ w. AllByRecursion (Holds (Reached docs makes root) (Reached docs makes root)) w.shapes) (Holds (Reached docs makes root) (Reached docs makes root)) (λ w. w.shapes)
      (λ w h. h) (rows_at docs makes s) (shapes_led docs makes s (Reached docs makes root) (λ row t i j. by_keyword row t r i j))

module _ (p : Pair) (draft : Draft) (whole : Data) (can : CanMove p draft whole) (accepted : document_causes (inside p whole) ≡ []) (makes : List ℕ → Bool) where
  abbrev old : Documents
  old = added p

  abbrev new : Documents
  new = inside p whole

  abbrev Like : Site → Site → Type 0
  Like s t = SiteAlike p s t

  module _ (s : Site) (document : List ℕ) (path : List Part) (contents : Data) (place : SamePlace p s.document s.path document path) where
    abbrev spelled : Paths
    spelled = record { along = λ path path'. SamePlace p s.document path document path'; next = λ part path path' h. next_place part h }

    abbrev second : Site
    second = elsewhere old new makes s document path contents

    within_like : (parts : List Part) (x y : SchemaPlace) → PlacedAlike p.fresh p.moved can.fresh (told p draft whole can) spelled x y → Like (within s parts x) (within second parts y)
    within_like parts x y a = record {
      place = a.along;
      contents = a.contents;
      base = a.base;
      scope = ap (λ (b : List ℕ). entered_scope b s.base s.scope) a.base;
      dialect = a.dialect;
      schema_path = refl;
    }

    below_like : (parts : List Part) (d : Data) → Like (below old s parts d) (below new second parts d)
    below_like parts d =
        subst (λ (x : SchemaPlace). Like (within s parts x) (below new second parts d)) (sym ((tell p draft whole can accepted).entry s.base s.dialect (parts ++ s.path) d))
        (within_like parts (entered (meta new) s.base s.dialect (parts ++ s.path) d) (entered (meta new) s.base s.dialect (parts ++ path) d)
        (entered_alike p.fresh p.moved can.fresh (told p draft whole can) spelled s.base s.dialect (parts ++ s.path) (parts ++ path) (further_place parts place) d d unmoved))

    target_like : (text : List ℕ) (x y : Target) → TargetAlike p x y → Like (target_site s text x) (target_site second text y)
    target_like text x y a = record {
      place = a.place;
      contents = a.contents;
      base = a.base;
      scope = ap (λ (b : List ℕ). entered_scope b s.base s.scope) a.base;
      dialect = a.dialect;
      schema_path = refl;
    }

    leads_like : LeadAlike old new makes s document path contents Like
    leads_like = record {
      below_alike = below_like;
      static_alike = λ text x y f g. target_like text x y (static_led p draft whole can accepted s.base text x y f g);
      dynamic_alike = λ text x y f g. target_like text x y (dynamic_led p draft whole can accepted s.base s.scope text x y f g);
      recursive_alike = λ text x y f g. target_like text x y (recursive_led p draft whole can accepted s.base s.scope x y f g);
    }

    keywords_like : Near p.fresh p.moved s.contents contents → NoneWrong (rows_at old makes s) → NoneWrong (rows_at new makes second)
        → AllZip (RelatedShape Like) (keywords_at old makes s) (keywords_at new makes second)
    unfolding rows_at
    keywords_like near h g = near_alike p.fresh p.moved can.fresh old new makes s document path contents Like leads_like s.contents contents near h g

  same_site : (s t : Site) → Like s t → elsewhere old new makes s t.document t.path t.contents ≡ t
  same_site s t a = rw (a.base, a.scope, a.dialect, a.schema_path) refl

  keywords_alike : (s t : Site) → Like s t → NoneWrong (rows_at old makes s) → NoneWrong (rows_at new makes t)
      → AllZip (RelatedShape Like) (keywords_at old makes s) (keywords_at new makes t)
  keywords_alike s t a h g =
      let same = same_site s t a in
      subst (λ (x : Site). AllZip (RelatedShape Like) (keywords_at old makes s) (keywords_at new makes x)) same
      (keywords_like s t.document t.path t.contents a.place a.contents h (subst (λ (x : Site). NoneWrong (rows_at new makes x)) (sym same) g))

  module _ (root other : Target) (right : (cause : BuildCause) → IsCauseOf old makes (root_site root) cause → ⊥)
      (right_too : (cause : BuildCause) → IsCauseOf new makes (root_site other) cause → ⊥) where
    abbrev Reach : Site → Site → Type 0
    Reach s t = Correspond p whole makes root other s t

    reached_alike : (s t : Site) → Reach s t → AllZip (RelatedShape Reach) (keywords_at old makes s) (keywords_at new makes t)
    reached_alike s t a =
        all_joined Like (Reached old makes (root_site root)) (Reached new makes (root_site other)) (keywords_at old makes s) (keywords_at new makes t)
        (keywords_alike s t a.0 (nothing_wrong old makes (root_site root) right s a.1) (nothing_wrong new makes (root_site other) right_too t a.2))
        (keywords_reached old makes (root_site root) right s a.1) (keywords_reached new makes (root_site other) right_too t a.2)

    same_order : (ks : List (Shape Site)) → Reordered ks ks
    same_order [] = nothing_left
    same_order (k ∷ ks) = kept (same_order ks)

    pub are_related : (matches : List ℕ → List ℕ → Bool) → AreRelated (plain old makes matches) (plain new makes matches) Reach
    are_related matches = record {
      matches = refl;
      keywords = λ s t a. record { order = keywords_at old makes s; reordered = same_order (keywords_at old makes s); same = reached_alike s t a };
      paths = λ s t a. a.0.schema_path;
    }
