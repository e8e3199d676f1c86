-- A target is a schema place where the list of schema places has it, and only there as long as no place above it awaits its meta-schema.
use Rattle.std.proofs.Common.{◌≡◌, ◌∙◌, ◌++◌, inl, inr, if◌then◌else◌, ℕ, suc, List, [], ◌∷◌, true, false, Option, Some, None, refl, sym, ap, subst, map}
use Rattle.std.specs.Cmp.{first_so, second_so}
use Rattle.std.specs.List.{flat_map, list_all}
use Rattle.std.specs.Prelude.{is_some}
use Rattle.serde_json.specs.Data.{Data}
use Rattle.json_values.specs.Parts.{Part}
use Rattle.schema_meaning.specs.Members.{In, first, later}
use Rattle.schema_definitions.specs.Words.{listed}
use Rattle.schema_definitions.specs.Places.{Dialect, SchemaPlace, by_schema, schema_in_force}
use Rattle.schema_definitions.specs.Bearers.{Document, Documents, document_name, Standing, standings, is_root, meta}
use Rattle.schema_definitions.specs.DocumentCauses.{DocumentCause, document_causes, place_causes, told_anew, awaited_cause, how_many_await, unless_reference}
use Rattle.schema_definitions.specs.Lookup.{Walk, Within, at_place, part_of, is_at_place, Target}
use Rattle.document_laws.specs.TargetLaws.{are_apart, contents_rise, IsTarget}
use Rattle.document_laws.specs.ListedLaws.{StandsAt, IsThere, StandsAbove, NoneAwaitsAbove, AgreesWithList, IsAsListed, TargetsAreListed, CauselessAwaitNothing}
use Rattle.document_laws.proofs.Depths.{placed_path}
use Rattle.document_laws.proofs.Results.{of_some}
use Rattle.document_laws.proofs.Told.{first_empty, second_empty}
use Rattle.document_laws.proofs.Levels.{IsAmong, root_among, places_closed}
use Rattle.document_laws.proofs.One.{same_document}
use Rattle.document_laws.proofs.Passing.{Here, Stands}
use Rattle.document_laws.proofs.Reaching.{start, reach, reach_stands, reach_path, none_behind, stopped}
use Rattle.document_laws.proofs.Placing.{places_in, from_root, standing, is_listed, placed_with}
use Rattle.document_laws.proofs.Pointed.{Behind, Met}
use Rattle.document_laws.proofs.LookedUp.{of_lookup, of_target}
use Rattle.document_laws.proofs.Finding.{target_at, Found, all_found}

-- ---- in one document

module _ (told : List ℕ → Option Dialect) (d : Document) where
  abbrev Stood : Walk → Type 0
  Stood w = Stands told (IsAmong (places_in told d)) w

  root_stands : Stood (from_root told d)
  root_stands = record { last = root_among told d.uri d.default d.contents; here = (refl, refl) }

  reached_stands : (path : List Part) (w : Walk) → reach told (from_root told d) path ≡ Some w → Stood w
  reached_stands path w e =
      of_some Stood (reach told (from_root told d) path) w
      (reach_stands told (IsAmong (places_in told d)) (places_closed told d.uri d.default d.contents) (from_root told d) root_stands path) e

  reached_at : (path : List Part) (w : Walk) → reach told (from_root told d) path ≡ Some w → w.path ≡ path
  reached_at path w e =
      reach_path told (from_root told d) (placed_path d.uri d.default [] d.contents (by_schema told d.default (schema_in_force d.default.siblings true d.contents))) path w e

  by_within : (p : SchemaPlace) (path : List Part) (e : Data) (w : Within) → is_at_place w ≡ true → Here told (IsAmong (places_in told d)) p path e w
      → (path ≡ p.path) × (e ≡ p.contents)
  by_within p path e at_place t h = h
  by_within p path e (part_of held) t h = (let no : false ≡ true = t in cc)

  -- a walk at a schema place is at one of the list
  pub record AtListed (w : Walk) : Type 0 where
    pub among : In w.last (places_in told d)
    pub path : w.path ≡ w.last.path
    pub contents : w.contents ≡ w.last.contents

  at_listed : (path : List Part) (w : Walk) → reach told (from_root told d) path ≡ Some w → is_at_place w.within ≡ true → AtListed w
  at_listed path w e t =
      let stood = reached_stands path w e in
      let here = by_within w.last w.path w.contents w.within t stood.here in
      record { among = stood.last; path = here.0; contents = here.1 }

-- ---- in documents

module _ (told : List ℕ → Option Dialect) (docs : Documents) where
  module _ (d : Document) (i : In d docs) (v : Walk) where
    listed_there : reach told (from_root told d) v.path ≡ Some v → is_at_place v.within ≡ true
        → (r : Standing) × In r (standings told docs) × IsThere (target_at (document_name d) v) r
    listed_there m place =
        let at = at_listed told d v.path v m place in (
          standing (document_name d) v.last,
          is_listed told docs d v.last i at.among,
          record { at = record { document = refl; path = sym at.path }; contents = sym at.contents; base = refl; dialect = refl },
        )

    -- a place that was passed and awaits its meta-schema stands above
    none_passed : Behind told (from_root told d) v → NoneAwaitsAbove told docs (document_name d) v.path → ⊥
    none_passed b none =
        let w = b.passed in
        let at = at_listed told d b.path w b.reached (first_so (is_at_place w.within) (is_some w.last.awaits) b.stopped) in
        let path : b.path ≡ w.last.path = sym (reached_at told d b.path w b.reached) ∙ at.path in
        let above : StandsAbove (document_name d) v.path (standing (document_name d) w.last) =
        record { document = refl; part = b.part; parts = b.parts; behind = b.behind ∙ ap (λ (q : List Part). b.parts ++ b.part ∷ q) path } in
        let awaits = none (standing (document_name d) w.last) (is_listed told docs d w.last i at.among) above in
        let no : false ≡ true = sym (ap is_some awaits) ∙ second_so (is_at_place w.within) (is_some w.last.awaits) b.stopped in cc

    pub stands_there : Met told (from_root told d) v → NoneAwaitsAbove told docs (document_name d) v.path → reach told (from_root told d) v.path ≡ Some v
    stands_there m none = elim m.met [ inl there ↦ there | inr b ↦ absurd (none_passed b none) ]

    is_the_place : (r : Standing) → StandsAt (document_name d) v.path r → v ≡ start r.place → (is_at_place v.within ≡ true) × IsThere (target_at (document_name d) v) r
    is_the_place r at same = (
      ap (λ (w : Walk). is_at_place w.within) same,
      record {
        at = at;
        contents = sym (ap (λ (w : Walk). w.contents) same);
        base = sym (ap (λ (w : Walk). w.last.base) same);
        dialect = sym (ap (λ (w : Walk). w.last.dialect) same);
      },
    )

    module _ (rise : list_all contents_rise docs ≡ true) (apart : are_apart docs ≡ true) (r : Standing) (j : In r (standings told docs)) (at : StandsAt (document_name d) v.path r) where
      place_reached : reach told (from_root told d) v.path ≡ Some (start r.place)
      place_reached = ap (reach told (from_root told d)) (sym at.path) ∙ placed_with told docs rise apart d i r j (sym at.document)

      met_place : reach told (from_root told d) v.path ≡ Some v → v ≡ start r.place
      met_place met = (let found : Some v ≡ Some (start r.place) = sym met ∙ place_reached in cc)

      not_behind : Behind told (from_root told d) v → ⊥
      not_behind b =
          let none = none_behind told (from_root told d) b.parts (b.part ∷ b.path) (stopped told (from_root told d) b.passed b.path b.reached b.stopped b.part) in
          let no : Some (start r.place) ≡ None = sym place_reached ∙ ap (reach told (from_root told d)) b.behind ∙ none in cc

      the_place : Met told (from_root told d) v → (is_at_place v.within ≡ true) × IsThere (target_at (document_name d) v) r
      the_place m = elim m.met [ inl met ↦ is_the_place r at (met_place met) | inr b ↦ absurd (not_behind b) ]

    agrees : list_all contents_rise docs ≡ true → Met told (from_root told d) v → AgreesWithList told docs (target_at (document_name d) v)
    agrees rise m = record {
      listed = λ place none. listed_there (stands_there m none) place;
      place = λ apart r j at. the_place rise apart r j at m;
    }

  pub found_agrees : list_all contents_rise docs ≡ true → (t : Target) → Found told docs t → AgreesWithList told docs t
  found_agrees rise t f = subst (λ u. AgreesWithList told docs u) (sym f.is) (agrees f.document f.among f.walk rise f.met)

  -- two at one path, above which nothing awaits
  pub found_one : are_apart docs ≡ true → ((s : Standing) → In s (standings told docs) → s.place.awaits ≡ None) → (t u : Target) → Found told docs t → Found told docs u
      → t.document ≡ u.document → t.path ≡ u.path → t ≡ u
  found_one apart none t u f g names paths =
      let named : document_name f.document ≡ document_name g.document = sym (ap (λ (x : Target). x.document) f.is) ∙ names ∙ ap (λ (x : Target). x.document) g.is in
      let one : f.document ≡ g.document = same_document docs apart f.document g.document f.among g.among named in
      let path : f.walk.path ≡ g.walk.path = sym (ap (λ (x : Target). x.path) f.is) ∙ paths ∙ ap (λ (x : Target). x.path) g.is in
      let left = stands_there f.document f.among f.walk f.met (λ s i above. none s i) in
      let right = stands_there g.document g.among g.walk g.met (λ s i above. none s i) in
      let moved : reach told (from_root told g.document) f.walk.path ≡ Some f.walk =
      subst (λ (d : Document). reach told (from_root told d) f.walk.path ≡ Some f.walk) one left in
      let both : Some f.walk ≡ Some g.walk = sym moved ∙ ap (reach told (from_root told g.document)) path ∙ right in
      let walks : f.walk ≡ g.walk = cc in
      f.is ∙ ap (λ (name : List ℕ). target_at name f.walk) named ∙ ap (target_at (document_name g.document)) walks ∙ sym g.is

-- ---- what awaits nothing

no_cause : (docs : Documents) (ss : List Standing) → flat_map (place_causes docs) ss ≡ [] → (s : Standing) → In s ss → place_causes docs s ≡ []
no_cause docs [] h s i = elim i [ ]
no_cause docs (r ∷ ss) h s first = first_empty (place_causes docs s) (flat_map (place_causes docs) ss) h
no_cause docs (r ∷ ss) h s (later i) = no_cause docs ss (second_empty (place_causes docs r) (flat_map (place_causes docs) ss) h) s i

awaits_none : (o : Option (List ℕ)) (cs ds : List DocumentCause) (f : List ℕ → DocumentCause) → cs ++ (if is_some o then map f (listed o) else ds) ≡ [] → o ≡ None
awaits_none None cs ds f h = refl
awaits_none (Some uri) cs ds f h = (let no : f uri ∷ [] ≡ [] = second_empty cs (f uri ∷ []) h in cc)

pub causeless_await_nothing : CauselessAwaitNothing
causeless_await_nothing docs h s i =
    let none = no_cause docs (standings (meta docs) docs) (second_empty (told_anew docs) (flat_map (place_causes docs) (standings (meta docs) docs)) h) s i in
    awaits_none s.place.awaits (flat_map unless_reference (listed (schema_in_force s.place.dialect.siblings (is_root s.place.path) s.place.contents)))
    _ (awaited_cause docs (suc (how_many_await docs))) none

-- ---- targets

module _ (docs : Documents) (rise : list_all contents_rise docs ≡ true) where
  found : (t : Target) → IsTarget docs t → Found (meta docs) docs t
  found t i = of_target docs (λ s. In s (standings (meta docs) docs)) (Found (meta docs) docs) (all_found (meta docs) docs rise) t i

  as_listed : document_causes docs ≡ [] → (t : Target) → IsTarget docs t → IsAsListed docs t
  as_listed causes t i =
      let agrees = found_agrees (meta docs) docs rise t (found t i) in
      record { listed = λ place. agrees.listed place (λ s j above. causeless_await_nothing docs causes s j); place = agrees.place }

pub targets_are_listed : TargetsAreListed
targets_are_listed docs rise = record {
  plain = λ told base reference t e.
      found_agrees told docs rise t
      (of_lookup docs (λ s. In s (standings told docs)) (Found told docs) told (all_found told docs rise) base reference t e);
  each = λ t i. found_agrees (meta docs) docs rise t (found docs rise t i);
  accepted = as_listed docs rise;
  one = λ causes apart t u i j.
      found_one (meta docs) docs apart (causeless_await_nothing docs causes) t u (found docs rise t i) (found docs rise u j);
}
