-- What `contains` asks: each item, of a list and of no other value.
use Rattle.std.proofs.Common.{◌≡◌, ℕ, codes, Option, refl}
use Rattle.serde_json.specs.Data.{Data, null, boolean, number, string, array, object, no_items, item}
use Rattle.schema_meaning.specs.Questions.{each_item, items_of, items_from}
use Rattle.schema_meaning.specs.Rules.{asks}
use Rattle.schema_meaning.specs.Keywords.{counting}

pub contains_asks : {S : Type 0} (d : Data) (s : S) (least most : Option ℕ)
    → each_item (codes "contains") s 0 (items_from 0 (items_of d)) ≡ asks (counting d least most (each_item (codes "contains") s 0 (items_of d)))
contains_asks null s least most = refl
contains_asks (boolean b) s least most = refl
contains_asks (number n) s least most = refl
contains_asks (string t) s least most = refl
contains_asks (array no_items) s least most = refl
contains_asks (array (item d ds)) s least most = refl
contains_asks (object ms) s least most = refl
