-- In documents without a cause to be refused the base of each target of a reference is that of a schema place that bears it.
use Rattle.std.proofs.Common.{◌≡◌, ◌∙◌, ℕ, List, [], ◌∷◌, map, Bool, true, false, ◌&&◌, bytes_eq, Option, Some, None, is_some, IfOk, refl, sym, ap, subst}
use Rattle.std.proofs.lemmas.Slice.Eq.{bytes_eq-Decides}
use Rattle.std.specs.List.{flat_map, AllByRecursion}
use Rattle.serde_json.specs.Data.{Data, null, boolean, number, string, array, object, Items}
use Rattle.serde_json.specs.Find.{get_member, get_item, unescape}
use Rattle.json_values.specs.Parts.{name, index}
use Rattle.json_values.specs.Pointers.{index_of}
use Rattle.schema_meaning.specs.Members.{In, first, later}
use Rattle.schema_definitions.specs.Words.{result_map, ok_or}
use Rattle.schema_definitions.specs.Places.{SchemaPlace, children_in}
use Rattle.schema_definitions.specs.Bearers.{Document, Documents, document_name, Standing, standing_in, standings, last_standing, bearer, meta}
use Rattle.schema_definitions.specs.DocumentCauses.{document_causes}
use Rattle.schema_definitions.specs.Lookup.{LookupCause, pointer_to_nowhere, Target, Walk, Within, is_at_place, in_element, in_member, arrived, item_at, step_to, walk, ended}
use Rattle.document_laws.specs.TargetLaws.{IsTarget}
use Rattle.document_laws.proofs.Levels.{IsAmong, places_closed}
use Rattle.document_laws.proofs.Lists.{joined, of_last}
use Rattle.document_laws.proofs.LookedUp.{Holds, of_target}
use Rattle.document_laws.proofs.Passing.{Stands, stops_at, at_item, at_member, arrived_stands}
use Rattle.document_laws.proofs.Placing.{places_in, standing, is_listed}
use Rattle.document_laws.proofs.Reaching.{start}
use Rattle.document_laws.proofs.Results.{ok_next, ok_each}
use Rattle.document_laws.proofs.TargetsListed.{causeless_await_nothing}
use Rattle.added_documents.proofs.Bases.{base_borne}
use Rattle.moved_documents.proofs.Standings.{one_passes, found_last}

never_both : (b : Bool) → (b && false) ≡ false
never_both true = refl
never_both false = refl

module _ (docs : Documents) (accepted : document_causes docs ≡ []) where
  abbrev IsBorne : List ℕ → Type 0
  IsBorne base = is_some (bearer docs base) ≡ true

  -- ---- places

  abbrev has_base : List ℕ → Standing → Bool
  has_base base s = bytes_eq s.place.base base

  listed_borne : (s : Standing) → In s (standings (meta docs) docs) → IsBorne s.place.base
  listed_borne s i = by (last_standing (has_base s.place.base) (meta docs) docs) refl
    where
      by : (o : Option Standing) → last_standing (has_base s.place.base) (meta docs) docs ≡ o → IsBorne s.place.base
      by None is =
          let some = one_passes (has_base s.place.base) (standings (meta docs) docs) s i ((bytes_eq-Decides s.place.base s.place.base).1 refl) in
          let no : false ≡ true = sym (ap is_some is) ∙ some in absurd (cc)
      by (Some r) is =
          let last = found_last (has_base s.place.base) (standings (meta docs) docs) r is in
          let same : r.place.base ≡ s.place.base = (bytes_eq-Decides r.place.base s.place.base).0 last.passes in
          subst IsBorne same
          (base_borne (meta docs) (has_base s.place.base) docs r is (causeless_await_nothing docs accepted r last.among))

  -- ---- walks from a place of one of the documents

  module _ (d : Document) (i : In d docs) where
    abbrev Among : SchemaPlace → Type 0
    Among p = IsAmong (places_in (meta docs) d) p

    abbrev Stood : Walk → Type 0
    Stood w = Stands (meta docs) (IsAmong (places_in (meta docs) d)) w

    abbrev listed_as : SchemaPlace → Standing
    listed_as p = standing (document_name d) p

    place_borne : (p : SchemaPlace) → Among p → IsBorne p.base
    place_borne p j = listed_borne (listed_as p) (is_listed (meta docs) docs d p i j)

    never_stops : (p : SchemaPlace) (within : Within) → Among p → stops_at p within ≡ false
    never_stops p within j =
        ap (λ (o : Option (List ℕ)). is_at_place within && is_some o) (causeless_await_nothing docs accepted (listed_as p) (is_listed (meta docs) docs d p i j))
        ∙ never_both (is_at_place within)

    kept : (p : SchemaPlace) → Among p → is_some p.awaits ≡ false → AllByRecursion (IsAmong (places_in (meta docs) d)) (children_in (meta docs) p p.contents)
    kept p j goes = places_closed (meta docs) d.uri d.default d.contents p j goes

    if_found : (cause : LookupCause) (o : Option Data) (f : Data → Walk) → ((e : Data) → o ≡ Some e → Stood (f e)) → IfOk (result_map f (ok_or cause o)) Stood
    if_found cause None f each = tt
    if_found cause (Some e) f each = each e refl

    item_stands : (written token : List ℕ) (w : Walk) (ds : Items) (o : Option ℕ) → Stood w → w.contents ≡ array ds
        → IfOk (item_at (meta docs) written token w (array ds) o) Stood
    item_stands written token w ds None s is = tt
    item_stands written token w ds (Some n) s is =
        let h = in_element w.within in
        if_found (pointer_to_nowhere written) (get_item n ds) (arrived (meta docs) w h (index n))
        (λ e g. arrived_stands (meta docs) (IsAmong (places_in (meta docs) d)) w h (index n) e s.last
        (at_item (meta docs) (IsAmong (places_in (meta docs) d)) w.last w.path w.contents w.within ds n e s.here is g))

    step_stands : (written token : List ℕ) (w : Walk) (e : Data) → Stood w → w.contents ≡ e → IfOk (step_to (meta docs) written token w e) Stood
    step_stands written token w null s is = tt
    step_stands written token w (boolean b) s is = tt
    step_stands written token w (number n) s is = tt
    step_stands written token w (string t) s is = tt
    step_stands written token w (array ds) s is = item_stands written token w ds (index_of token) s is
    step_stands written token w (object ms) s is =
        let k = unescape token in
        let h = in_member w.last w.within k in
        if_found (pointer_to_nowhere written) (get_member k ms) (arrived (meta docs) w h (name k))
        (λ e g. arrived_stands (meta docs) (IsAmong (places_in (meta docs) d)) w h (name k) e s.last
        (at_member (meta docs) (IsAmong (places_in (meta docs) d)) kept w.last w.path w.contents w.within ms k e s.last (never_stops w.last w.within s.last) s.here is g))

    walk_stands : (written : List ℕ) (tokens : List (List ℕ)) (w : Walk) → Stood w → IfOk (walk (meta docs) written tokens w) Stood
    walk_stands written [] w s = s
    walk_stands written (token ∷ tokens) w s =
        ok_next Stood Stood (step_to (meta docs) written token w w.contents) (walk (meta docs) written tokens) (step_stands written token w w.contents s refl)
        (walk_stands written tokens)

  -- ---- targets

  -- a place of one of the documents
  record IsOfOne (s : Standing) : Type 0 where
    document : Document
    listed : In document docs
    among : In s.place (places_in (meta docs) document)

  abbrev BorneAt : Target → Type 0
  BorneAt t = IsBorne t.base

  of_document : (d : Document) → In d docs → (ps : List SchemaPlace) → ((p : SchemaPlace) → In p ps → In p (places_in (meta docs) d))
      → AllByRecursion IsOfOne (map (λ p. record { document = document_name d; place = p }) ps)
  of_document d i [] f = tt
  of_document d i (p ∷ ps) f = (record { document = d; listed = i; among = f p first }, of_document d i ps (λ q j. f q (later j)))

  of_documents : (ds : List Document) → ((d : Document) → In d ds → In d docs) → AllByRecursion IsOfOne (flat_map (standing_in (meta docs)) ds)
  of_documents [] f = tt
  of_documents (d ∷ ds) f =
      joined IsOfOne (standing_in (meta docs) d) (flat_map (standing_in (meta docs)) ds) (of_document d (f d first) (places_in (meta docs) d) (λ p i. i))
      (of_documents ds (λ e i. f e (later i)))

  all_of_one : AllByRecursion IsOfOne (standings (meta docs) docs)
  unfolding standings
  all_of_one = of_documents docs (λ d i. i)

  along_borne : (s : Standing) → IsOfOne s → (written : List ℕ) (tokens : List (List ℕ))
      → IfOk (walk (meta docs) written tokens (start s.place)) (λ w. BorneAt (ended s w))
  along_borne s o written tokens =
      ok_each (Stands (meta docs) (IsAmong (places_in (meta docs) o.document))) (λ w. BorneAt (ended s w)) (walk (meta docs) written tokens (start s.place))
      (walk_stands o.document o.listed written tokens (start s.place) (record { last = o.among; here = (refl, refl) }))
      (λ w h. place_borne o.document o.listed w.last h.last)

  all_borne : Holds docs (meta docs) IsOfOne BorneAt
  all_borne = record {
    last = λ test. of_last IsOfOne test (standings (meta docs) docs) all_of_one;
    along = along_borne;
    itself = λ s o. place_borne o.document o.listed s.place o.among;
  }

  pub target_borne : (t : Target) → IsTarget docs t → is_some (bearer docs t.base) ≡ true
  target_borne t i = of_target docs IsOfOne BorneAt all_borne t i
