-- The rule of each compiled keyword that applies subschemas, by how it combines and what it asks.
use Rattle.std.proofs.Common.{◌≡◌, ℕ, List, [], map, Bool, true, false, Option, Vec, Global, codes, refl, sym, ap}
use Rattle.serde_json.specs.Data.{Data, null, boolean, number, string, array, object, item}
use Rattle.serde_json.specs.Data as data_of
use Rattle.json_values.specs.Parts.{Part}
use Rattle.schema_meaning.specs.Faults.{Kind}
use Rattle.schema_meaning.specs.Keywords.{rule, unless}
use Rattle.schema_meaning.specs.Members.{is_empty}
use Rattle.schema_meaning.specs.Places.{Spot}
use Rattle.schema_meaning.specs.Questions.{at}
use Rattle.schema_meaning.specs.Rules.{own_faults}
use Rattle.schema_engine.specs.Refusals.{own_notes, IsRefusedUnder, IsNote, IsReason}
use Rattle.schema_engine.specs.Rules.{combination_of, is_right}
use Rattle.schema_engine.specs.declared.reason.Reason.{Reason}
use Rattle.compiled_keywords.specs.Applied.{name_of, combining_of, asks_of}
use Rattle.applicators.specs.Combining.{refused_under}
use Rattle.applicators.specs.Forms.{Form, each_from, of_condition, asked, noted, kind_in, value_in, counts_each, shape_by}
use Rattle.compiled_keywords.specs.declared.asks.Asks.TheVariants as asking
use Rattle.applicators.specs.declared.combining.Combining.{Combining}
use Rattle.applicators.specs.declared.combining.Combining.TheVariants as combining
use Rattle.applicators.proofs.FormLemmas.{IsKeyword, a_keyword, by_every, by_together, by_names, by_some, by_one, by_refusal, counted_items, chosen_by, each_counts, all_count, some_count, none_noted, nothing_noted as unnoted}
use Rattle.compiled_keywords.specs.Forms.{form_of, alone, asked_beside}
use Rattle.compiled_keywords.specs.declared.applicator.Applicator.{Applicator}
use Rattle.compiled_keywords.specs.declared.asks.Asks.{Asks}
use Rattle.compiled_keywords.specs.Rules.{combination_by}
use Rattle.compiled_keywords.specs.declared.subschemas.NamedDependency.{NamedDependency}
use Rattle.compiled_keywords.specs.Seen.{beside_in}

-- ---- each is a keyword of its name

pub is_keyword : (a : Applicator) → IsKeyword (name_of a) (combining_of a) (form_of (asks_of a))
is_keyword a = a_keyword (name_of a) (combining_of a) (form_of (asks_of a)) a.stands

-- ---- what its form says of it

-- every question counts, whatever is answered
counted_alone : (matches : List ℕ → List ℕ → Bool) (k : List ℕ) (d : Data) (f : Form ℕ) → counts_each f ≡ true → map alone (asked matches k d f) ≡ asked_beside matches k d f
counted_alone matches k d (of_condition s t e) h = absurd (cc)
counted_alone matches k d f h = refl

-- ---- its rule at a value

module _ (matches : List ℕ → List ℕ → Bool) where
  counted_so : (d : Data) (s : ℕ) (least most : Option ℕ) → combination_of (rule matches d (shape_by (codes "contains") (combining.Counted least most) (each_from 0 s))) ≡ combination_by (combining.Counted least most) d
  counted_so null s least most = refl
  counted_so (boolean b) s least most = refl
  counted_so (number n) s least most = refl
  counted_so (string t) s least most = refl
  counted_so (array ds) s least most = refl
  counted_so (object ms) s least most = refl

  pub combination_so : (d : Data) (k : List ℕ) (c : Combining) (f : Form ℕ) → IsKeyword k c f → combination_of (rule matches d (shape_by k c f)) ≡ combination_by c d
  combination_so d _ _ _ (by_every k f e) = refl
  combination_so d _ _ _ (by_together k f e) = refl
  combination_so d _ _ _ (by_names k s) = refl
  combination_so d _ _ _ (by_some k f e) = refl
  combination_so d _ _ _ (by_one k f e) = refl
  combination_so d _ _ _ (by_refusal k schema s) = refl
  combination_so d _ _ _ (counted_items least most s) = counted_so d s least most
  combination_so d _ _ _ (chosen_by s t e) = refl

  counted_right : (d : Data) (s : ℕ) (least most : Option ℕ) → is_right (rule matches d (shape_by (codes "contains") (combining.Counted least most) (each_from 0 s))) ≡ true
  counted_right null s least most = refl
  counted_right (boolean b) s least most = refl
  counted_right (number n) s least most = refl
  counted_right (string t) s least most = refl
  counted_right (array ds) s least most = refl
  counted_right (object ms) s least most = refl

  pub right_so : (d : Data) (k : List ℕ) (c : Combining) (f : Form ℕ) → IsKeyword k c f → is_right (rule matches d (shape_by k c f)) ≡ is_empty (noted f d)
  right_so d _ _ _ (by_every k f e) = refl
  right_so d _ _ _ (by_together k f e) = sym (ap is_empty (unnoted f d e))
  right_so d _ _ _ (by_names k s) = refl
  right_so d _ _ _ (by_some k f e) = sym (ap is_empty (none_noted f d e))
  right_so d _ _ _ (by_one k f e) = sym (ap is_empty (none_noted f d e))
  right_so d _ _ _ (by_refusal k schema s) = refl
  right_so d _ _ _ (counted_items least most s) = counted_right d s least most
  right_so d _ _ _ (chosen_by s t e) = refl

  counted_refused : (d : Data) (s : ℕ) (least most : Option ℕ) (n : ℕ)
      → IsRefusedUnder (rule matches d (shape_by (codes "contains") (combining.Counted least most) (each_from 0 s))) n (refused_under (codes "contains") (combining.Counted least most) n)
  counted_refused null s least most n = tt
  counted_refused (boolean b) s least most n = tt
  counted_refused (number m) s least most n = tt
  counted_refused (string t) s least most n = tt
  counted_refused (array ds) s least most n = refl
  counted_refused (object ms) s least most n = tt

  pub refused_so : (d : Data) (k : List ℕ) (c : Combining) (f : Form ℕ) (n : ℕ) → IsKeyword k c f → IsRefusedUnder (rule matches d (shape_by k c f)) n (refused_under k c n)
  refused_so d _ _ _ n (by_every k f e) = tt
  refused_so d _ _ _ n (by_together k f e) = refl
  refused_so d _ _ _ n (by_names k s) = tt
  refused_so d _ _ _ n (by_some k f e) = refl
  refused_so d _ _ _ n (by_one k f e) = refl
  refused_so d _ _ _ n (by_refusal k schema s) = refl
  refused_so d _ _ _ n (counted_items least most s) = counted_refused d s least most n
  refused_so d _ _ _ n (chosen_by s t e) = tt

  counted_notes : (d : Data) (s : ℕ) (least most : Option ℕ) (w : Spot) (above : List Part)
      → own_notes (rule matches d (shape_by (codes "contains") (combining.Counted least most) (each_from 0 s))) w above ≡ own_faults w above (at (codes "contains")) []
  counted_notes null s least most w above = refl
  counted_notes (boolean b) s least most w above = refl
  counted_notes (number n) s least most w above = refl
  counted_notes (string t) s least most w above = refl
  counted_notes (array ds) s least most w above = refl
  counted_notes (object ms) s least most w above = refl

  pub notes_so : (d : Data) (k : List ℕ) (c : Combining) (f : Form ℕ) (w : Spot) (above : List Part) → IsKeyword k c f
      → own_notes (rule matches d (shape_by k c f)) w above ≡ own_faults w above (at k) (noted f d)
  notes_so d _ _ _ w above (by_every k f e) = refl
  notes_so d _ _ _ w above (by_together k f e) = sym (ap (own_faults w above (at k)) (unnoted f d e))
  notes_so d _ _ _ w above (by_names k s) = refl
  notes_so d _ _ _ w above (by_some k f e) = sym (ap (own_faults w above (at k)) (none_noted f d e))
  notes_so d _ _ _ w above (by_one k f e) = sym (ap (own_faults w above (at k)) (none_noted f d e))
  notes_so d _ _ _ w above (by_refusal k schema s) = refl
  notes_so d _ _ _ w above (counted_items least most s) = counted_notes d s least most w above
  notes_so d _ _ _ w above (chosen_by s t e) = refl

  counted_reason : (d : Data) (s : ℕ) (least most : Option ℕ) (r : Reason) → IsReason (rule matches d (shape_by (codes "contains") (combining.Counted least most) (each_from 0 s))) d r
  counted_reason null s least most r = tt
  counted_reason (boolean b) s least most r = tt
  counted_reason (number n) s least most r = tt
  counted_reason (string t) s least most r = tt
  counted_reason (array ds) s least most r = tt
  counted_reason (object ms) s least most r = tt

  pub reason_so : (d : Data) (k : List ℕ) (c : Combining) (f : Form ℕ) (r : Reason) → IsKeyword k c f → IsNote r (record { kind = kind_in matches f d; value = value_in f d })
      → IsReason (rule matches d (shape_by k c f)) d r
  reason_so d _ _ _ r (by_every k f e) h = tt
  reason_so d _ _ _ r (by_together k f e) h = h
  reason_so d _ _ _ r (by_names k s) h = tt
  reason_so d _ _ _ r (by_some k f e) h = tt
  reason_so d _ _ _ r (by_one k f e) h = tt
  reason_so d _ _ _ r (by_refusal k schema s) h = h
  reason_so d _ _ _ r (counted_items least most s) h = counted_reason d s least most r
  reason_so d _ _ _ r (chosen_by s t e) h = tt

  counted_beside : (d : Data) (s : ℕ) (least most : Option ℕ)
      → beside_in (rule matches d (shape_by (codes "contains") (combining.Counted least most) (each_from 0 s))) ≡ asked_beside matches (codes "contains") d (each_from 0 s)
  counted_beside null s least most = refl
  counted_beside (boolean b) s least most = refl
  counted_beside (number n) s least most = refl
  counted_beside (string t) s least most = refl
  counted_beside (array data_of.no_items) s least most = refl
  counted_beside (array (item d ds)) s least most = refl
  counted_beside (object ms) s least most = refl

  pub beside_so : (d : Data) (k : List ℕ) (c : Combining) (f : Form ℕ) → IsKeyword k c f → beside_in (rule matches d (shape_by k c f)) ≡ asked_beside matches k d f
  beside_so d _ _ _ (by_every k f e) = counted_alone matches k d f (each_counts f e)
  beside_so d _ _ _ (by_together k f e) = counted_alone matches k d f (all_count f e)
  beside_so d _ _ _ (by_names k s) = refl
  beside_so d _ _ _ (by_some k f e) = counted_alone matches k d f (some_count f e)
  beside_so d _ _ _ (by_one k f e) = counted_alone matches k d f (some_count f e)
  beside_so d _ _ _ (by_refusal k schema s) = refl
  beside_so d _ _ _ (counted_items least most s) = counted_beside d s least most
  beside_so d _ _ _ (chosen_by s t e) = refl

pub right_unless : (b : Bool) (kind : Kind) (d : Data) → is_empty (unless b kind d) ≡ b
right_unless true kind d = refl
right_unless false kind d = refl

-- only `dependencies` notes something of the value itself
pub nothing_noted : (asks : Asks) (d : Data) → ((es : Vec NamedDependency Global) → asks ≡ asking.Dependencies es → ⊥) → noted (form_of asks) d ≡ []
nothing_noted (asking.Dependencies es) d other = absurd (other es refl)
nothing_noted asks d other = refl
