-- In the plain reading each reference that is followed has a key of the documents and the instance.
use Rattle.std.proofs.Common.{ℕ, List, [], Bool, map}
use Rattle.serde_json.specs.Data.{Data}
use Rattle.schema_meaning.specs.Members.{In}
use Rattle.schema_meaning.specs.Places.{Spot, SchemaPlace, Key, whole}
use Rattle.schema_meaning.specs.Questions.{Question, asked_at}
use Rattle.schema_meaning.specs.Circular.{Leads, starts, inside, follows}
use Rattle.schema_meaning.specs.Cut.{AreAll}
use Rattle.schema_definitions.specs.Bearers.{Documents}
use Rattle.schema_definitions.specs.Sites.{Site}
use Rattle.schema_definitions.specs.Plain.{plain}
use Rattle.schema_definitions.specs.AllKeys.{spots_in, places_of, keys_of}
use Rattle.reading_laws.specs.PlainLaws.{KeysAreAll}
use Rattle.document_laws.proofs.Listed.{in_map, in_flat_map}
use Rattle.reading_laws.proofs.Steps.{Seen, Inside, Keeps, first_spot}
use Rattle.reading_laws.proofs.Nested.{all_known}

-- the spot is a place of the instance, and so is every place of its value
pub record Within (d : Data) (w : Spot) : Type 0 where
  pub inside : Inside (spots_in w.path w.value) (spots_in [] d)
  pub here : In (w.path, w.called) (spots_in [] d)

next_within : (d : Data) (w : Spot) (q : Question Site) → Within d w → Keeps w.value q.step → Within d (asked_at w q)
next_within d w q h k = record {
  inside = λ x i. h.inside x (k.inside w.path x i);
  here = k.here (spots_in [] d) w.path w.called h.inside h.here;
}

in_keys : (docs : Documents) (d : Data) (place : SchemaPlace) (spot : Seen) → In place (places_of docs) → In spot (spots_in [] d)
    → In (record { target = place; path = spot.0; called = spot.1 }) (keys_of docs d)
in_keys docs d place spot i j =
    in_flat_map (λ p. map (λ s. record { target = p; path = s.0; called = s.1 }) (spots_in [] d)) place (places_of docs) (record { target = place; path = spot.0; called = spot.1 }) i
    (in_map (λ s. record { target = place; path = s.0; called = s.1 }) spot (spots_in [] d) j)

module _ (docs : Documents) (makes : List ℕ → Bool) (matches : List ℕ → List ℕ → Bool) (from : Site) (d : Data) where
  led_within : (keys : List Key) (s : Site) (w : Spot) → Leads (plain docs makes matches) from (whole d) keys s w → Within d w
  led_within keys s w starts = record { inside = λ x i. i; here = first_spot [] d }
  led_within keys s w (inside {s = t} {w = v} chain q a e) = next_within d v q (led_within _ t v chain) (all_known docs makes matches t v q a).step
  led_within keys s w (follows {keys = before} {s = t} {w = v} chain q a e) = next_within d v q (led_within before t v chain) (all_known docs makes matches t v q a).step

  pub all_keys : AreAll (plain docs makes matches) from (whole d) (keys_of docs d)
  all_keys = record {
    key = λ keys s w chain q a e.
        let next : Within d (asked_at w q) = next_within d w q (led_within keys s w chain) (all_known docs makes matches s w q a).step in
        in_keys docs d (record { document = q.site.document; path = q.site.path }) ((asked_at w q).path, (asked_at w q).called) ((all_known docs makes matches s w q a).led e).place next.here;
  }

pub keys_are_all : KeysAreAll
keys_are_all docs makes matches s d = all_keys docs makes matches s d
