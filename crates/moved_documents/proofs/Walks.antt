-- A pointer is followed to corresponding places, in a value and in the same with the moved document inside.
use Rattle.std.proofs.Common.{◌≡◌, ◌∙◌, ℕ, List, [], ◌∷◌, Bool, true, false, if◌then◌else◌, bytes_eq, codes, Option, Some, None, Result, Ok, Err, refl, sym, ap, ap₂, subst}
use Rattle.std.proofs.lemmas.Slice.Eq.{bytes_eq-Decides}
use Rattle.serde_json.specs.Data.{Data, array, object, Items, Members}
use Rattle.serde_json.specs.Find.{get_member, get_item, unescape}
use Rattle.json_values.specs.Parts.{Part, name, index}
use Rattle.json_values.specs.Pointers.{index_of}
use Rattle.schema_drafts.specs.Subschemas.{Holds, nothing, one, several, one_or_several, by_name, held_by}
use Rattle.schema_definitions.specs.Words.{result_map, ok_or, and_then}
use Rattle.schema_definitions.specs.Identifiers.{is_hidden}
use Rattle.schema_definitions.specs.Places.{Dialect, SchemaPlace, Named, settled, awaited, by_schema, schema_in_force, placed, entered}
use Rattle.schema_definitions.specs.Lookup.{LookupCause, Walk, Within, at_place, part_of, holds_schema, in_element, in_member, arrived, item_at, step_to, walk}
use Rattle.moved_documents.specs.Premises.{IsFresh}
use Rattle.moved_documents.specs.Linked.{Extended, made, grown, Near, unmoved, at_definitions, at_root}
use Rattle.moved_documents.proofs.Near.{others_stay, is_there, near_schema}
use Rattle.moved_documents.proofs.Twins.{Paths}
use Rattle.moved_documents.proofs.NearTexts.{hidden_near, base_near, in_force_near}

-- a result that is right is made from one that is
pub record Came {X Y E : Type 0} (r : Result X E) (f : X → Result Y E) (y : Y) : Type 0 where
  pub from : X
  pub right : r ≡ Ok from
  pub is : f from ≡ Ok y

pub came : {X Y E : Type 0} (r : Result X E) (f : X → Result Y E) (y : Y) → and_then r f ≡ Ok y → Came r f y
came (Ok x) f y e = record { from = x; right = refl; is = e }
came (Err c) f y e = (let no : Err c ≡ Ok y = e in absurd (cc))

module _ (fresh : List ℕ) (moved : Data) (is_fresh : IsFresh fresh) where
  abbrev NearHere : Data → Data → Type 0
  NearHere d e = Near fresh moved d e

  -- ---- values inside

  by_name_apart : (k l : List ℕ) (d e : Data) (o q : Option Data) → (bytes_eq k l ≡ true → NearHere d e) → ((k ≡ l → ⊥) → q ≡ o) → o ≡ Some d → q ≡ Some e → NearHere d e
  by_name_apart k l d e o q same other f g = by (bytes_eq k l) refl
    where
      by : (b : Bool) → bytes_eq k l ≡ b → NearHere d e
      by true is = same is
      by false is =
          let stays : q ≡ o = other (λ x. (let no : true ≡ false = sym ((bytes_eq-Decides k l).1 x) ∙ is in absurd (cc))) in
          let value : Some d ≡ Some e = sym f ∙ sym stays ∙ g in
          let inner : d ≡ e = cc in
          subst (λ x. NearHere d x) inner unmoved

  definitions_at : (o : Option Data) (es : Members) (d : Data) → o ≡ Some d → Extended fresh moved o es → NearHere d (object es)
  definitions_at _ _ d e made = (let no : None ≡ Some d = e in absurd (cc))
  definitions_at _ es d e (grown {ds = ds} none change) = (let value : object ds ≡ d = cc in subst (λ x. NearHere x (object es)) value (at_definitions none change))

  pub member_near : (k : List ℕ) (ms ns : Members) → NearHere (object ms) (object ns) → (d e : Data) → get_member k ms ≡ Some d → get_member k ns ≡ Some e → NearHere d e
  member_near k ms _ unmoved d e f g = (let value : Some d ≡ Some e = sym f ∙ g in let inner : d ≡ e = cc in subst (λ x. NearHere d x) inner unmoved)
  member_near k _ _ (at_definitions {ds = ds} {es = es} none change) d e f g =
      by_name_apart k fresh d e (get_member k ds) (get_member k es)
      (λ is. (let no : None ≡ Some d = sym none ∙ ap (λ n. get_member n ds) (sym ((bytes_eq-Decides k fresh).0 is)) ∙ f in absurd (cc)))
      (others_stay change k) f g
  member_near k _ _ (at_root {o = o} {ms = ms} {ns = ns} {es = es} is extended change) d e f g =
      by_name_apart k (codes "$defs") d e (get_member k ms) (get_member k ns)
      (λ b.
      let same : k ≡ codes "$defs" = (bytes_eq-Decides k (codes "$defs")).0 b in
      let here : o ≡ Some d = sym is ∙ ap (λ n. get_member n ms) (sym same) ∙ f in
      let there : Some (object es) ≡ Some e = sym (is_there change) ∙ ap (λ n. get_member n ns) (sym same) ∙ g in
      let value : object es ≡ e = cc in
      subst (λ x. NearHere d x) value (definitions_at o es d here extended))
      (others_stay change k) f g

  module _ (told : List ℕ → Option Dialect) (r : Paths) where
    -- ---- a place that is entered

    pub record PlacedAlike (x y : SchemaPlace) : Type 0 where
      pub along : r.along x.path y.path
      pub base : x.base ≡ y.base
      pub dialect : x.dialect ≡ y.dialect
      pub contents : NearHere x.contents y.contents

    placed_alike : (outer : List ℕ) (around : Dialect) (path path' : List Part) → r.along path path' → (d e : Data) → NearHere d e → (n : Named)
        → PlacedAlike (placed outer around path d n) (placed outer around path' e n)
    placed_alike outer around path path' along d e near (settled dialect) = record { along = along; base = sym (base_near fresh moved is_fresh d e near outer dialect); dialect = refl; contents = near }
    placed_alike outer around path path' along d e near (awaited uri) = record { along = along; base = refl; dialect = refl; contents = near }

    pub entered_alike : (outer : List ℕ) (around : Dialect) (path path' : List Part) → r.along path path' → (d e : Data) → NearHere d e
        → PlacedAlike (entered told outer around path d) (entered told outer around path' e)
    entered_alike outer around path path' along d e near =
        subst (λ (o : Option (List ℕ)). PlacedAlike (entered told outer around path d) (placed outer around path' e (by_schema told around o)))
        (sym (in_force_near fresh moved is_fresh d e near around.siblings false))
        (placed_alike outer around path path' along d e near (by_schema told around (schema_in_force around.siblings false d)))

    -- ---- walks

    pub record WalkAlike (w v : Walk) : Type 0 where
      pub along : r.along w.path v.path
      pub within : w.within ≡ v.within
      pub near : NearHere w.contents v.contents
      pub last : PlacedAlike w.last v.last

    holds_same : (h : Holds) (d e : Data) → NearHere d e → holds_schema h e ≡ holds_schema h d
    holds_same nothing d e near = refl
    holds_same one d e near = near_schema fresh moved is_fresh d e near
    holds_same several d e near = refl
    holds_same one_or_several d e near = near_schema fresh moved is_fresh d e near
    holds_same by_name d e near = refl

    module _ (w v : Walk) (a : WalkAlike w v) where
      both_entered : (part : Part) (d e : Data) → NearHere d e
          → PlacedAlike (entered told w.last.base w.last.dialect (part ∷ w.path) d) (entered told v.last.base v.last.dialect (part ∷ v.path) e)
      both_entered part d e near =
          subst (λ (b : List ℕ). PlacedAlike (entered told w.last.base w.last.dialect (part ∷ w.path) d) (entered told b v.last.dialect (part ∷ v.path) e)) a.last.base
          (subst (λ (x : Dialect). PlacedAlike (entered told w.last.base w.last.dialect (part ∷ w.path) d) (entered told w.last.base x (part ∷ v.path) e)) a.last.dialect
          (entered_alike w.last.base w.last.dialect (part ∷ w.path) (part ∷ v.path) (r.next part w.path v.path a.along) d e near))

      arrived_by : (b : Bool) (h : Holds) (part : Part) (d e : Data) → NearHere d e
          → WalkAlike
          (if b then record { path = part ∷ w.path; contents = d; last = entered told w.last.base w.last.dialect (part ∷ w.path) d; within = at_place }
          else record { path = part ∷ w.path; contents = d; last = w.last; within = part_of h })
          (if b then record { path = part ∷ v.path; contents = e; last = entered told v.last.base v.last.dialect (part ∷ v.path) e; within = at_place }
          else record { path = part ∷ v.path; contents = e; last = v.last; within = part_of h })
      arrived_by true h part d e near = record { along = r.next part w.path v.path a.along; within = refl; near = near; last = both_entered part d e near }
      arrived_by false h part d e near = record { along = r.next part w.path v.path a.along; within = refl; near = near; last = a.last }

      arrived_alike : (h : Holds) (part : Part) (d e : Data) → NearHere d e → WalkAlike (arrived told w h part d) (arrived told v h part e)
      arrived_alike h part d e near =
          subst
          (λ (b : Bool).
          WalkAlike (arrived told w h part d)
          (if b then record { path = part ∷ v.path; contents = e; last = entered told v.last.base v.last.dialect (part ∷ v.path) e; within = at_place }
          else record { path = part ∷ v.path; contents = e; last = v.last; within = part_of h }))
          (sym (holds_same h d e near)) (arrived_by (holds_schema h d) h part d e near)

      -- where both lead somewhere
      abbrev Together : Result Walk LookupCause → Result Walk LookupCause → Type 0
      Together r q = (x y : Walk) → r ≡ Ok x → q ≡ Ok y → WalkAlike x y

      if_found : (cause : LookupCause) (h k : Holds) (part : Part) → h ≡ k → (o q : Option Data) → ((d e : Data) → o ≡ Some d → q ≡ Some e → NearHere d e)
          → Together (result_map (arrived told w h part) (ok_or cause o)) (result_map (arrived told v k part) (ok_or cause q))
      if_found cause h k part same None q near x y f g = absurd (cc)
      if_found cause h k part same (Some d) None near x y f g = absurd (cc)
      if_found cause h k part same (Some d) (Some e) near x y f g =
          let one : arrived told w h part d ≡ x = cc in
          let other : arrived told v h part e ≡ y = ap (λ n. arrived told v n part e) same ∙ cc in
          subst (λ z. WalkAlike x z) other (subst (λ z. WalkAlike z (arrived told v h part e)) one (arrived_alike h part d e (near d e refl refl)))

      member_by : (k : List ℕ) (i : Within) → in_member w.last i k ≡ in_member v.last i k
      member_by k at_place =
          ap₂ (λ (x : Dialect) (b : Bool). held_by x.draft b k) a.last.dialect
          (sym (hidden_near fresh moved is_fresh w.last.contents v.last.contents a.last.contents w.last.dialect) ∙ ap (λ (x : Dialect). is_hidden x v.last.contents) a.last.dialect)
      member_by k (part_of nothing) = refl
      member_by k (part_of one) = refl
      member_by k (part_of several) = refl
      member_by k (part_of one_or_several) = refl
      member_by k (part_of by_name) = refl

      member_same : (k : List ℕ) → in_member w.last w.within k ≡ in_member v.last v.within k
      member_same k = member_by k w.within ∙ ap (λ (i : Within). in_member v.last i k) a.within

      item_step : (written token : List ℕ) (ds : Items) (o : Option ℕ) → Together (item_at told written token w (array ds) o) (item_at told written token v (array ds) o)
      item_step written token ds None x y f g = absurd (cc)
      item_step written token ds (Some i) x y f g =
          if_found _ (in_element w.within) (in_element v.within) (index i) (ap in_element a.within) (get_item i ds) (get_item i ds)
          (λ d e f g. (let value : Some d ≡ Some e = sym f ∙ g in let inner : d ≡ e = cc in subst (λ x. NearHere d x) inner unmoved)) x y f g

      object_step : (written token : List ℕ) (ms ns : Members) → NearHere (object ms) (object ns)
          → Together (step_to told written token w (object ms)) (step_to told written token v (object ns))
      object_step written token ms ns near x y f g =
          let k = unescape token in
          if_found _ (in_member w.last w.within k) (in_member v.last v.within k) (name k) (member_same k) (get_member k ms) (get_member k ns) (member_near k ms ns near) x y f g

      itself_step : (written token : List ℕ) (d : Data) → Together (step_to told written token w d) (step_to told written token v d)
      itself_step written token (array ds) x y f g = item_step written token ds (index_of token) x y f g
      itself_step written token (object ms) x y f g = object_step written token ms ms unmoved x y f g
      itself_step written token d x y f g = absurd (cc)

      step_alike : (written token : List ℕ) (d e : Data) → NearHere d e → Together (step_to told written token w d) (step_to told written token v e)
      step_alike written token d _ unmoved x y f g = itself_step written token d x y f g
      step_alike written token _ _ (at_definitions {ds = ds} {es = es} none change) x y f g = object_step written token ds es (at_definitions none change) x y f g
      step_alike written token _ _ (at_root {ms = ms} {ns = ns} is extended change) x y f g = object_step written token ms ns (at_root is extended change) x y f g

    pub walk_alike : (written : List ℕ) (tokens : List (List ℕ)) (w v : Walk) → WalkAlike w v → (x y : Walk)
        → walk told written tokens w ≡ Ok x → walk told written tokens v ≡ Ok y → WalkAlike x y
    walk_alike written [] w v a x y f g =
        let one : w ≡ x = cc in
        let other : v ≡ y = cc in
        subst (λ z. WalkAlike x z) other (subst (λ z. WalkAlike z v) one a)
    walk_alike written (token ∷ tokens) w v a x y f g =
        let h = came (step_to told written token w w.contents) (walk told written tokens) x f in
        let k = came (step_to told written token v v.contents) (walk told written tokens) y g in
        walk_alike written tokens h.from k.from (step_alike w v a written token w.contents v.contents a.near h.from k.from h.right k.right) x y h.is k.is
