-- The values inside a value in which each `$schema` is of some kind.
use Rattle.std.proofs.Common.{◌≡◌, ℕ, zero, suc, List, inl, inr, Option, Some, None, codes, subst}
use Rattle.std.specs.Prelude.{IfSome}
use Rattle.serde_json.specs.Data.{Data, null, boolean, number, string, array, object, Items, no_items, item, Members, no_members, member}
use Rattle.serde_json.specs.Find.{get_member, get_item}
use Rattle.json_values.proofs.Names.{found_at}
use Rattle.schema_definitions.specs.Words.{text_at}
use Rattle.added_documents.specs.Added.{EachNamed, EachNamedIn, EachNamedAmong}

module _ (P : List ℕ → Type 0) where
  pub item_named : (i : ℕ) (ds : Items) (e : Data) → get_item i ds ≡ Some e → EachNamedIn P ds → EachNamed P e
  item_named i no_items e g h = (let no : None ≡ Some e = g in cc)
  item_named zero (item d ds) e g h = (let value : d ≡ e = cc in subst (EachNamed P) value h.0)
  item_named (suc i) (item d ds) e g h = item_named i ds e g h.1

  pub member_named : (k : List ℕ) (ms : Members) (e : Data) → get_member k ms ≡ Some e → EachNamedAmong P ms → EachNamed P e
  member_named k no_members e g h = (let no : None ≡ Some e = g in cc)
  member_named k (member l d ms) e g h =
      elim (found_at k l d ms e g) [
        | inl s ↦ subst (EachNamed P) s.1 h.0
        | inr s ↦ member_named k ms e s h.1
      ]

  -- where all are of the kind
  module _ (all : (t : List ℕ) → P t) where
    if_text : (o : Option (List ℕ)) → IfSome o P
    if_text None = tt
    if_text (Some t) = all t

    mutual
      pub all_named : (d : Data) → EachNamed P d
      all_named null = tt
      all_named (boolean b) = tt
      all_named (number n) = tt
      all_named (string s) = tt
      all_named (array ds) = all_items ds
      all_named (object ms) = (if_text (text_at (codes "$schema") (object ms)), all_members ms)

      all_items : (ds : Items) → EachNamedIn P ds
      all_items no_items = tt
      all_items (item d ds) = (all_named d, all_items ds)

      all_members : (ms : Members) → EachNamedAmong P ms
      all_members no_members = tt
      all_members (member k d ms) = (all_named d, all_members ms)
