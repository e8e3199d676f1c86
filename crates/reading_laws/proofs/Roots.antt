-- The plain reading from a root that a lookup found.
use Rattle.std.proofs.Common.{◌≡◌, ◌≤◌, ℕ, List, Bool, Ok, length}
use Rattle.schema_meaning.specs.Places.{whole}
use Rattle.schema_definitions.specs.Bearers.{Documents}
use Rattle.schema_definitions.specs.Lookup.{Target, lookup}
use Rattle.schema_definitions.specs.Sites.{Site, root_site}
use Rattle.schema_definitions.specs.Plain.{deepest, plain}
use Rattle.schema_definitions.specs.AllKeys.{keys_of}
use Rattle.document_laws.proofs.TargetsLooked.{lookups_lie}
use Rattle.meaning_laws.proofs.Decided.{cut_is_decided}
use Rattle.meaning_laws.proofs.Enough.{cut_is_enough}
use Rattle.reading_laws.specs.PlainLaws.{PlainIsDecided, PlainIsDeepEnough}
use Rattle.reading_laws.proofs.Nested.{nested}
use Rattle.reading_laws.proofs.PlainKeys.{all_keys}

-- the root nests no deeper than the documents do
root_shallow : (docs : Documents) (makes : List ℕ → Bool) (matches : List ℕ → List ℕ → Bool) (base reference : List ℕ) (root : Target)
    → lookup docs base reference ≡ Ok root → (nested docs makes matches).rank (root_site root) ≤ deepest docs
unfolding nested
root_shallow docs makes matches base reference root e = (lookups_lie docs base reference root e).shallow

pub plain_is_decided : (A : Type 0) → PlainIsDecided A
plain_is_decided A t docs makes matches base reference root d e straight = record {
  unfoldings = length (keys_of docs d);
  is = cut_is_decided Site A t (plain docs makes matches) (root_site root) (whole d) (keys_of docs d) (nested docs makes matches)
      (root_shallow docs makes matches base reference root e) (all_keys docs makes matches (root_site root) d) straight;
}

pub plain_is_deep_enough : (A : Type 0) → PlainIsDeepEnough A
plain_is_deep_enough A t docs makes matches base reference root d e n deep =
    cut_is_enough Site A t (plain docs makes matches) (root_site root) (whole d) (keys_of docs d) (nested docs makes matches)
    (root_shallow docs makes matches base reference root e) (all_keys docs makes matches (root_site root) d) n deep
