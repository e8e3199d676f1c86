-- Where chains of questions lead is reached.
use Rattle.std.proofs.Common.{ℕ, List, Bool, true, false}
use Rattle.std.specs.List.{AllByRecursion}
use Rattle.serde_json.specs.Data.{Data, boolean, object, Members, member}
use Rattle.schema_meaning.specs.Members.{In, first, later}
use Rattle.schema_meaning.specs.Places.{Spot, Key, whole}
use Rattle.schema_meaning.specs.Questions.{Question}
use Rattle.schema_meaning.specs.Readings.{Asks}
use Rattle.schema_meaning.specs.Circular.{Leads, starts, inside, follows}
use Rattle.schema_definitions.specs.Bearers.{Documents}
use Rattle.schema_definitions.specs.Sites.{Site}
use Rattle.schema_definitions.specs.Rows.{Row, Context, row_at, rows_of, rows_in, rows_at}
use Rattle.schema_definitions.specs.BuildCauses.{Reached, at_root, by_keyword}
use Rattle.schema_definitions.specs.Plain.{plain}
use Rattle.schema_patterns.specs.Texts.{texts_in}
use Rattle.document_laws.proofs.Inside.{HoldsMember, here, behind}
use Rattle.reading_laws.proofs.Asked.{Holds, Sound}
use Rattle.reading_laws.specs.AskedLaws.{LedIsReached}
use Rattle.reading_laws.proofs.KeywordRows.{shapes_hold}
use Rattle.reading_laws.proofs.Nested.{asked_sound}

row_among : (c : Context) (k : List ℕ) (d : Data) (ms : Members) → HoldsMember k d ms → In (row_at c k d) (rows_of c ms)
row_among c _ _ _ here = first
row_among c k d (member l e ms) (behind h) = later (row_among c k d ms h)

module _ (docs : Documents) (makes : List ℕ → Bool) (s : Site) (Q : Site → Type 0) where
  abbrev context : Members → Context
  context ms = record { documents = docs; makes = makes; site = s; members = ms }

  shapes_in : (d : Data) → ((row : Row) (t : Site) → In row (rows_in s context d) → In t row.leads → Q t)
      → AllByRecursion (λ r. AllByRecursion (Holds Q Q) r.shapes) (rows_in s context d)
  shapes_in (boolean true) led = tt
  shapes_in (boolean false) led = ((tt, tt), tt)
  shapes_in (object ms) led =
      let by : (k : List ℕ) (d : Data) → HoldsMember k d ms → (t : Site) → In t (row_at (context ms) k d).leads → Q t =
      λ k d h t i. led (row_at (context ms) k d) t (row_among (context ms) k d ms h) i in
      shapes_hold (context ms) Q Q (λ k d h t i b. by k d h t i) (λ k d h t i b. by k d h t i) ms (λ k d h. h)
  shapes_in d led = (tt, tt)

  -- the sites of shapes are among those that the rows lead to
  pub shapes_led : ((row : Row) (t : Site) → In row (rows_at docs makes s) → In t row.leads → Q t)
      → AllByRecursion (λ r. AllByRecursion (Holds Q Q) r.shapes) (rows_at docs makes s)
  unfolding rows_at
  shapes_led led = shapes_in s.contents led

module _ (docs : Documents) (makes : List ℕ → Bool) (matches : List ℕ → List ℕ → Bool) (root : Site) where
  abbrev IsReached : Site → Type 0
  IsReached s = Reached docs makes root s

  abbrev IsFine : Data → Question Site → Type 0
  IsFine d q = Sound IsReached IsReached d q

  asked_fine : (s : Site) (w : Spot) (q : Question Site) → IsReached s → Asks (plain docs makes matches) s w q → IsFine w.value q
  asked_fine s w q r a = asked_sound docs makes matches IsReached IsReached s (shapes_led docs makes s IsReached (λ row t i j. by_keyword row t r i j)) w q a

  led : (at : Spot) (keys : List Key) (s : Site) (w : Spot) → Leads (plain docs makes matches) root at keys s w → IsReached s
  led at keys s w starts = at_root
  led at keys s w (inside {s = t} {w = v} chain q a e) = (asked_fine t v q (led at _ t v chain) a).within e
  led at keys s w (follows {keys = before} {s = t} {w = v} chain q a e) = (asked_fine t v q (led at before t v chain) a).led e

  -- and the texts there are texts of the whole
  pub led_texts : (d : Data) (keys : List Key) (s : Site) (w : Spot) → Leads (plain docs makes matches) root (whole d) keys s w → (t : List ℕ) → In t (texts_in w.value) → In t (texts_in d)
  led_texts d keys s w starts text i = i
  led_texts d keys s w (inside {s = t} {w = v} chain q a e) text i =
      led_texts d _ t v chain text ((asked_fine t v q (led (whole d) _ t v chain) a).step.texts text i)
  led_texts d keys s w (follows {keys = before} {s = t} {w = v} chain q a e) text i =
      led_texts d before t v chain text ((asked_fine t v q (led (whole d) before t v chain) a).step.texts text i)

pub led_is_reached : LedIsReached
led_is_reached docs makes matches root at keys s w chain = led docs makes matches root at keys s w chain
