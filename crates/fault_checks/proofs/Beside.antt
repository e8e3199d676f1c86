-- The schemas of `then` and `else` beside `if`: nothing is wrong below them where nothing is at the site.
use Rattle.std.proofs.Common.{◌≡◌, ℕ, List, [], ◌∷◌, true, false, Option, Some, refl, sym, subst}
use Rattle.serde_json.specs.Data.{Data, null, boolean, number, string, array, object, Members, no_members, member}
use Rattle.schema_meaning.specs.Members.{In, first, later}
use Rattle.schema_meaning.specs.Questions.{listed_members}
use Rattle.schema_meaning.specs.Keywords.{never, condition}
use Rattle.schema_definitions.specs.Sites.{Site}
use Rattle.schema_definitions.specs.Rows.{Row, reads, refused, BuildCause, Context, row_at, rows_of, rows_in, rows_at}
use Rattle.certificate_laws.proofs.BesideLed.{IsChoice, LedBy, then_led, else_led}
use Rattle.certificate_laws.proofs.Begun.{context, rows_there, member_row}
use Rattle.fault_checks.specs.Scenes.{Scene, IsRight}
use Rattle.fault_checks.proofs.Right.{right_on}

-- the row of `if`
abbrev choice_row : Site → Option Site → Option Site → Row
choice_row c t e = reads (c ∷ []) (condition c t e ∷ [])

-- the rows of a schema are those of its members
row_listed : (x : Context) (ms : Members) (row : Row) → In row (rows_of x ms) → (k : List ℕ) × (v : Data) × In (k, v) (listed_members ms) × (row ≡ row_at x k v)
row_listed x no_members row i = elim i [ ]
row_listed x (member k v ms) row first = (k, v, first, refl)
row_listed x (member k v ms) row (later i) = let w = row_listed x ms row i in (w.0, w.1, later w.2, w.3)

module _ (x : Scene) (s : Site) (right : IsRight x s) (c : Site) (t e : Option Site) where
  abbrev in_it : Members → Context
  in_it ms = context x.documents x.makes x.matches s ms

  not_refused : (causes : List BuildCause) → In (choice_row c t e) (refused causes ∷ []) → ⊥
  not_refused causes i = by (choice_row c t e) i refl
    where
      by : (row : Row) → In row (refused causes ∷ []) → row.shapes ≡ condition c t e ∷ [] → ⊥
      by _ first same = cc
      by row (later i) same = elim i [ ]

  not_never : In (choice_row c t e) (reads [] (never ∷ []) ∷ []) → ⊥
  not_never i = by (choice_row c t e) i refl
    where
      by : (row : Row) → In row (reads [] (never ∷ []) ∷ []) → row.shapes ≡ condition c t e ∷ [] → ⊥
      by _ first same = cc
      by row (later i) same = elim i [ ]

  -- the schema is an object, and the row that of a member
  record IsMember : Type 0 where
    members : Members
    is : s.contents ≡ object members
    name : List ℕ
    value : Data
    choice : IsChoice (in_it members) name value c t e

  of_member : (ms : Members) → s.contents ≡ object ms → In (choice_row c t e) (rows_of (in_it ms) ms) → IsMember
  of_member ms is i =
      let w = row_listed (in_it ms) ms (choice_row c t e) i in
      record { members = ms; is = is; name = w.0; value = w.1; choice = record { listed = w.2; row = sym w.3 } }

  module _ (stands : In (choice_row c t e) (rows_at x.documents x.makes s)) where
    the_member : IsMember
    the_member = by s.contents refl
      where
        there : (d : Data) → s.contents ≡ d → In (choice_row c t e) (rows_in s (λ ms. in_it ms) d)
        there d is = subst (λ rs. In (choice_row c t e) rs) (rows_there x.documents x.makes x.matches s d is) stands

        by : (d : Data) → s.contents ≡ d → IsMember
        by null is = absurd (not_refused _ (there null is))
        by (boolean true) is = elim (there (boolean true) is) [ ]
        by (boolean false) is = absurd (not_never (there (boolean false) is))
        by (number n) is = absurd (not_refused _ (there (number n) is))
        by (string r) is = absurd (not_refused _ (there (string r) is))
        by (array ds) is = absurd (not_refused _ (there (array ds) is))
        by (object ms) is = of_member ms is (there (object ms) is)

    led_right : (u : Site) → LedBy (in_it the_member.members) u → IsRight x u
    led_right u led =
        right_on x s (row_at (in_it the_member.members) led.name led.value) u right
        (member_row x.documents x.makes x.matches s the_member.members led.name led.value the_member.is led.listed) led.leads

    pub then_right : (u : Site) → t ≡ Some u → IsRight x u
    then_right u is = led_right u (then_led (in_it the_member.members) the_member.name the_member.value c t e the_member.choice u is)

    pub else_right : (u : Site) → e ≡ Some u → IsRight x u
    else_right u is = led_right u (else_led (in_it the_member.members) the_member.name the_member.value c t e the_member.choice u is)
