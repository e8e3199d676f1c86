-- Documents that name drafts alone.
use Rattle.std.proofs.Common.{◌≡◌, ℕ, List, [], ◌∷◌, true, Option, Some, None, is_some, codes}
use Rattle.std.specs.Prelude.{IfSome}
use Rattle.serde_json.specs.Data.{Data, null, boolean, number, string, array, object, Items, no_items, item, Members, no_members, member}
use Rattle.schema_drafts.specs.Drafts.{draft_named}
use Rattle.schema_drafts.specs.declared.draft.Draft.{Draft}
use Rattle.schema_definitions.specs.Words.{text_at}
use Rattle.schema_definitions.specs.Places.{Dialect, uri_named}
use Rattle.schema_definitions.specs.Bearers.{Documents}
use Rattle.added_documents.specs.Added.{EachNamed, EachNamedIn, EachNamedAmong, EachNamedBy, IsToldAlike, NamesDraft}
use Rattle.added_documents.specs.DocumentLaws.{DraftsAreToldAlike}

module _ (P Q : List ℕ → Type 0) (follows : (t : List ℕ) → P t → Q t) where
  if_named : (o : Option (List ℕ)) → IfSome o P → IfSome o Q
  if_named None h = tt
  if_named (Some t) h = follows t h

  mutual
    each_follows : (d : Data) → EachNamed P d → EachNamed Q d
    each_follows null h = tt
    each_follows (boolean b) h = tt
    each_follows (number n) h = tt
    each_follows (string s) h = tt
    each_follows (array ds) h = items_follow ds h
    each_follows (object ms) h = (if_named (text_at (codes "$schema") (object ms)) h.0, members_follow ms h.1)

    items_follow : (ds : Items) → EachNamedIn P ds → EachNamedIn Q ds
    items_follow no_items h = tt
    items_follow (item d ds) h = (each_follows d h.0, items_follow ds h.1)

    members_follow : (ms : Members) → EachNamedAmong P ms → EachNamedAmong Q ms
    members_follow no_members h = tt
    members_follow (member k d ms) h = (each_follows d h.0, members_follow ms h.1)

  pub all_follow : (docs : Documents) → EachNamedBy P docs → EachNamedBy Q docs
  all_follow [] h = tt
  all_follow (d ∷ docs) h = (each_follows d.contents h.0, all_follow docs h.1)

none_else : (told after : List ℕ → Option Dialect) (t : List ℕ) (o : Option Draft) → is_some o ≡ true
    → (uri : List ℕ) → uri_named t o ≡ Some uri → after uri ≡ told uri
none_else told after t None h uri e = cc
none_else told after t (Some draft) h uri e = cc

pub drafts_are_told_alike : DraftsAreToldAlike
drafts_are_told_alike told after docs = all_follow NamesDraft (IsToldAlike told after) (λ t h. none_else told after t (draft_named t) h) docs
