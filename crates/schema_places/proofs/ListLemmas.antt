-- Indexes of 2^64 or more, which no list has.
use Rattle.std.proofs.Common.{◌≡◌, ℕ, zero, suc, ◌<◌, ◌≤◌, ◌^◌, List, Bool, true, false, None, Ok, Err, refl, ap, arith}
use Rattle.serde_json.specs.Data.{Data, Items, no_items, item}
use Rattle.serde_json.specs.Find.{get_item}
use Rattle.serde_json.specs.Events.{items_len}
use Rattle.json_values.specs.Pointers.{is_index, index_of, index_below, number_from, nowhere, found, item_at, step_from}
use Rattle.json_pointers.proofs.PointerLemmas.{index_below-None}
use Rattle.schema_places.specs.Held.{IsList}

past_all : (ds : Items) (i : ℕ) → items_len ds ≤ i → get_item i ds ≡ None
past_all no_items i h = refl
past_all (item d ds) zero h = absurd (omega arith)
past_all (item d ds) (suc i) h = past_all ds i (omega arith)

gone_in : (token : List ℕ) (ds : Items) (x : Data) (b : Bool) → is_index token ≡ b → index_below (2 ^ 64) token ≡ None → items_len ds < 2 ^ 64
    → Ok x ≡ item_at token (index_of token) ds → item_at token (index_of token) ds ≡ Err nowhere
gone_in token ds x true is none short e =
    let past = index_below-None token (2 ^ 64) is none in
    rw past.0 (ap found (past_all ds (number_from 0 token) (omega (arith, past.1, short))))
gone_in token ds x false is none short e = absurd (cc (rw is at e))

pub gone : (token : List ℕ) (d x : Data) → IsList d → index_below (2 ^ 64) token ≡ None → Ok x ≡ step_from d token → step_from d token ≡ Err nowhere
gone token d x list none e = rw list.1 (gone_in token list.0 x (is_index token) refl none list.2 (rw list.1 at e))
