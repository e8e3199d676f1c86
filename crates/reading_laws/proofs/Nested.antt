-- In the plain reading subschemas nest.
use Rattle.std.proofs.Common.{◌≤◌, ◌<◌, ℕ, List, ◌++◌, Bool, true, false, refl, sym, subst, arith}
use Rattle.std.specs.List.{AllByRecursion}
use Rattle.serde_json.specs.Data.{Data, boolean, object, depth}
use Rattle.schema_meaning.specs.Members.{In}
use Rattle.schema_meaning.specs.Places.{Spot}
use Rattle.schema_meaning.specs.Questions.{Question}
use Rattle.schema_meaning.specs.Rules.{asks}
use Rattle.schema_meaning.specs.Keywords.{rule}
use Rattle.schema_meaning.specs.Readings.{rules, Asks, IsNested}
use Rattle.schema_definitions.specs.Places.{by_schema, schema_in_force}
use Rattle.schema_definitions.specs.Bearers.{Documents, meta}
use Rattle.schema_definitions.specs.Sites.{Site}
use Rattle.schema_definitions.specs.Rows.{Row, Context, at, rows_in, rows_at}
use Rattle.schema_definitions.specs.Plain.{deepest, keywords_at, plain}
use Rattle.schema_definitions.specs.AllKeys.{places_of}
use Rattle.document_laws.proofs.Depths.{placed_contents}
use Rattle.document_laws.proofs.Inside.{HoldsMember, member_shallow}
use Rattle.document_laws.proofs.Origins.{comes_lies}
use Rattle.document_laws.proofs.TargetsLooked.{target_comes_of}
use Rattle.reading_laws.specs.PlainLaws.{PlainNests}
use Rattle.reading_laws.proofs.Elements.{each_in, each_mapped, each_laid_flat}
use Rattle.reading_laws.proofs.Asked.{Holds, Sound, all_sound}
use Rattle.reading_laws.proofs.Parts.{part_shallow}
use Rattle.reading_laws.proofs.KeywordRows.{IsBelow, is_below, IsLed, is_led, shapes_hold}

-- the schema at the site is less deep than n
pub record Under (n : ℕ) (s : Site) : Type 0 where
  pub is : depth s.contents < n

-- the site is a target's
pub record Led (docs : Documents) (s : Site) : Type 0 where
  pub place : In (record { document = s.document; path = s.path }) (places_of docs)
  pub shallow : depth s.contents ≤ deepest docs

-- what a schema asks is known as its shapes are
pub asked_sound : (docs : Documents) (makes : List ℕ → Bool) (matches : List ℕ → List ℕ → Bool) (P R : Site → Type 0) (s : Site)
    → AllByRecursion (λ r. AllByRecursion (Holds P R) r.shapes) (rows_at docs makes s)
    → (w : Spot) (q : Question Site) → Asks (plain docs makes matches) s w q → Sound P R w.value q
asked_sound docs makes matches P R s h w q a =
    each_in (Sound P R w.value) (asks a.keyword)
    (each_in (λ k. AllByRecursion (Sound P R w.value) (asks k)) (rules (plain docs makes matches) s w.value)
    (each_mapped (Holds P R) (λ k. AllByRecursion (Sound P R w.value) (asks k)) (rule matches w.value) (λ k g. all_sound P R matches w.value k g) (keywords_at docs makes s)
    (each_laid_flat (λ r. AllByRecursion (Holds P R) r.shapes) (Holds P R) (λ r. r.shapes) (λ r g. g) (rows_at docs makes s) h))
    a.keyword a.stands)
    q a.asked

below_under : (c : Context) (k : List ℕ) (d : Data) → HoldsMember k d c.members → (x : Site) → IsBelow c k d x → Under (depth (object c.members)) x
below_under c k d h _ (is_below added e p) =
    let inner = part_shallow d (at k) added e p in
    let outer = member_shallow k d c.members h in
    record {
      is =
          subst (λ (x : Data). depth x < depth (object c.members))
          (sym (placed_contents c.site.base c.site.dialect (added ++ c.site.path) e (by_schema (meta c.documents) c.site.dialect (schema_in_force c.site.dialect.siblings false e))))
          (omega (arith, inner, outer));
    }

target_led : (c : Context) (x : Site) → IsLed c x → Led c.documents x
target_led c _ (is_led text t is) =
    let l = comes_lies c.documents t (target_comes_of c.documents t is) in
    record { place = l.place; shallow = l.shallow }

module _ (docs : Documents) (makes : List ℕ → Bool) (matches : List ℕ → List ℕ → Bool) where
  -- what is known of the shapes of a row, at a site whose schema is so deep
  abbrev KnownRow : ℕ → Row → Type 0
  KnownRow n r = AllByRecursion (Holds (Under n) (Led docs)) r.shapes

  known_in : (s : Site) (d : Data) → AllByRecursion (KnownRow (depth d)) (rows_in s (λ ms. record { documents = docs; makes = makes; site = s; members = ms }) d)
  known_in s (boolean true) = tt
  known_in s (boolean false) = ((tt, tt), tt)
  known_in s (object ms) =
      let c : Context = record { documents = docs; makes = makes; site = s; members = ms } in
      shapes_hold c (Under (depth (object ms))) (Led docs) (λ k d h x i b. below_under c k d h x b) (λ k d h x i l. target_led c x l) ms (λ k d h. h)
  known_in s d = (tt, tt)

  known_at : (s : Site) → AllByRecursion (KnownRow (depth s.contents)) (rows_at docs makes s)
  unfolding rows_at
  known_at s = known_in s s.contents

  -- what the schema at the site asks is known
  abbrev pub Known : Site → Data → Question Site → Type 0
  Known s d q = Sound (Under (depth s.contents)) (Led docs) d q

  pub all_known : (s : Site) (w : Spot) (q : Question Site) → Asks (plain docs makes matches) s w q → Known s w.value q
  all_known s w q a = asked_sound docs makes matches (Under (depth s.contents)) (Led docs) s (known_at s) w q a

  unfoldable pub nested : IsNested (plain docs makes matches)
  nested = record {
    rank = λ s. depth s.contents;
    shallow = λ s w q a e. ((all_known s w q a).led e).shallow;
    falls = λ s w q a e. ((all_known s w q a).within e).is;
  }

pub plain_nests : PlainNests
unfolding nested
plain_nests docs makes matches = (nested docs makes matches, λ s. refl)
