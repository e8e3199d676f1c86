-- What a schema that was read leads to.
use Rattle.std.proofs.Common.{◌≡◌, ◌∙◌, ℕ, List, [], Bool, false, Option, Some, None, option_map, is_some, refl, ap, ap₂}
use Rattle.serde_json.specs.Data.{Data, null, boolean, number, string, array, object, Members}
use Rattle.serde_json.specs.Find.{as_object, as_bool}
use Rattle.serde_json.specs.View.{view}
use Rattle.schema_definitions.specs.Bearers.{Documents}
use Rattle.schema_definitions.specs.Sites.{Site}
use Rattle.schema_definitions.specs.Rows.{rows_at, rows_in, no_schema}
use Rattle.schema_sites.specs.Seen.{documents_at}
use Rattle.reading_laws.specs.SiteLaws.{AreAlike}
use Rattle.reached_sites.specs.Patterns.{written, written_in, written_members}
use Rattle.reached_sites.specs.Visits.{site_of, Met}
use Rattle.reached_sites.specs.declared.visit.Visit.{Visit}
use Rattle.reached_sites.proofs.Walking.{contexts}

-- neither a boolean nor an object
abbrev pub IsOther : Data → Type 0
IsOther null = Unit {0}
IsOther (boolean b) = ⊥
IsOther (number n) = Unit {0}
IsOther (string t) = Unit {0}
IsOther (array ds) = Unit {0}
IsOther (object ms) = ⊥

pub other-rows : (docs : Documents) (makes : List ℕ → Bool) (s : Site) (d : Data) → s.contents ≡ d → IsOther d → rows_at docs makes s ≡ no_schema s
unfolding rows_at
other-rows docs makes s null e o = ap (rows_in s (contexts docs makes s)) e
other-rows docs makes s (boolean b) e o = absurd o
other-rows docs makes s (number n) e o = ap (rows_in s (contexts docs makes s)) e
other-rows docs makes s (string t) e o = ap (rows_in s (contexts docs makes s)) e
other-rows docs makes s (array ds) e o = ap (rows_in s (contexts docs makes s)) e
other-rows docs makes s (object ms) e o = absurd o

-- ---- by what the code asks of a value

pub gone : {X Y : Type 0} (f : X → Y) (o : Option X) → ((x : X) → o ≡ Some x → ⊥) → option_map f o ≡ None
gone f None h = refl
gone f (Some x) h = absurd (h x refl)

pub object-of : (d : Data) (ms : Members) → as_object d ≡ Some ms → d ≡ object ms
object-of null ms e = absurd (cc (e))
object-of (boolean b) ms e = absurd (cc (e))
object-of (number n) ms e = absurd (cc (e))
object-of (string t) ms e = absurd (cc (e))
object-of (array ds) ms e = absurd (cc (e))
object-of (object all) ms e = (let same : all ≡ ms = cc in ap object same)

pub other-of : (d : Data) → as_object d ≡ None → is_some (as_bool d) ≡ false → IsOther d
other-of null e f = tt
other-of (boolean b) e f = absurd (cc (f))
other-of (number n) e f = tt
other-of (string t) e f = tt
other-of (array ds) e f = tt
other-of (object ms) e f = absurd (cc (e))

-- ---- the patterns that are written

pub written-alike : (docs : Documents) (s t : Site) → AreAlike docs s t → written s ≡ written t
written-alike docs s t a = ap₂ written_in a.dialect a.contents

pub written-object : (v : Visit) (s : Site) (ms : Members) → Met v s → view v.site.contents.now ≡ object ms → written s ≡ written_members (site_of v).dialect ms ms
written-object v s ms m e = written-alike (documents_at v.site) s (site_of v) m.alike ∙ ap (written_in (site_of v).dialect) e

pub written-boolean : (v : Visit) (s : Site) (b : Bool) → Met v s → view v.site.contents.now ≡ boolean b → written s ≡ []
written-boolean v s b m e = written-alike (documents_at v.site) s (site_of v) m.alike ∙ ap (written_in (site_of v).dialect) e
