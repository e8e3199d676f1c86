-- A walk along a pointer stands where the path that it has gone is reached, as long as it has stood at no place that awaits its meta-schema.
use Rattle.std.proofs.Common.{◌≡◌, ◌∙◌, ◌++◌, ◌⊎◌, inl, inr, ℕ, List, [], ◌∷◌, Bool, true, false, Option, Some, None, IfOk, refl, ap}
use Rattle.std.specs.Prelude.{option_map}
use Rattle.serde_json.specs.Data.{Data, null, boolean, number, string, array, object, Items}
use Rattle.serde_json.specs.Find.{get_member, get_item, unescape}
use Rattle.json_values.specs.Parts.{Part, name, index}
use Rattle.json_values.specs.Pointers.{index_of, value_in}
use Rattle.schema_definitions.specs.Words.{result_map, ok_or}
use Rattle.schema_definitions.specs.Places.{Dialect}
use Rattle.schema_definitions.specs.Lookup.{LookupCause, pointer_to_nowhere, Walk, arrived, item_at, step_to, walk}
use Rattle.document_laws.proofs.Results.{ok_next}
use Rattle.document_laws.proofs.Reaching.{stops, held_in, onward, reach, onward_path, passed}

module _ (meta : List ℕ → Option Dialect) where
  -- one part further
  record Onward (w v : Walk) : Type 0 where
    part : Part
    is : onward meta w part ≡ Some v

  if_found : (w : Walk) (part : Part) (cause : LookupCause) (o : Option Data) → value_in part w.contents ≡ o
      → IfOk (result_map (arrived meta w (held_in w part) part) (ok_or cause o)) (Onward w)
  if_found w part cause None e = tt
  if_found w part cause (Some d) e = record { part = part; is = ap (option_map (arrived meta w (held_in w part) part)) e }

  item_onward : (written token : List ℕ) (w : Walk) (ds : Items) (i : Option ℕ) → w.contents ≡ array ds → IfOk (item_at meta written token w (array ds) i) (Onward w)
  item_onward written token w ds None is = tt
  item_onward written token w ds (Some i) is = if_found w (index i) (pointer_to_nowhere written) (get_item i ds) (ap (value_in (index i)) is)

  step_onward : (written token : List ℕ) (w : Walk) (d : Data) → w.contents ≡ d → IfOk (step_to meta written token w d) (Onward w)
  step_onward written token w null is = tt
  step_onward written token w (boolean b) is = tt
  step_onward written token w (number n) is = tt
  step_onward written token w (string s) is = tt
  step_onward written token w (array ds) is = item_onward written token w ds (index_of token) is
  step_onward written token w (object ms) is =
      let k = unescape token in
      if_found w (name k) (pointer_to_nowhere written) (get_member k ms) (ap (value_in (name k)) is)

  module _ (from : Walk) where
    -- it went on behind a place that awaits its meta-schema
    pub record Behind (v : Walk) : Type 0 where
      pub passed : Walk
      pub path : List Part
      pub reached : reach meta from path ≡ Some passed
      pub stopped : stops passed ≡ true
      pub part : Part
      pub parts : List Part
      pub behind : v.path ≡ parts ++ part ∷ path

    pub record Met (v : Walk) : Type 0 where
      pub met : (reach meta from v.path ≡ Some v) ⊎ Behind v

    goes_on : (w v : Walk) → reach meta from w.path ≡ Some w → Onward w v → (b : Bool) → stops w ≡ b → (reach meta from v.path ≡ Some v) ⊎ Behind v
    goes_on w v m o true s =
        inr (record { passed = w; path = w.path; reached = m; stopped = s; part = o.part; parts = []; behind = onward_path meta w o.part v o.is })
    goes_on w v m o false s = inl (ap (reach meta from) (onward_path meta w o.part v o.is) ∙ passed meta from w w.path m s o.part ∙ o.is)

    further_behind : (w v : Walk) → Behind w → Onward w v → Behind v
    further_behind w v b o = record {
      passed = b.passed;
      path = b.path;
      reached = b.reached;
      stopped = b.stopped;
      part = b.part;
      parts = o.part ∷ b.parts;
      behind = onward_path meta w o.part v o.is ∙ ap (λ (q : List Part). o.part ∷ q) b.behind;
    }

    next_met : (w v : Walk) → Met w → Onward w v → Met v
    next_met w v m o = record { met = elim m.met [ inl r ↦ goes_on w v r o (stops w) refl | inr b ↦ inr (further_behind w v b o) ] }

    pub walk_meets : (written : List ℕ) (tokens : List (List ℕ)) (w : Walk) → Met w → IfOk (walk meta written tokens w) Met
    walk_meets written [] w m = m
    walk_meets written (token ∷ tokens) w m =
        ok_next (Onward w) Met (step_to meta written token w w.contents) (walk meta written tokens)
        (step_onward written token w w.contents refl) (λ v o. walk_meets written tokens v (next_met w v m o))
