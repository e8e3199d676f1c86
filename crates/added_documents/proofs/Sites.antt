-- The sites reached from a root of documents to which others are added.
use Rattle.std.proofs.Common.{◌≡◌, ◌∙◌, ℕ, List, [], ◌∷◌, ◌++◌, Bool, true, false, bytes_eq, refl, sym, ap, subst}
use Rattle.std.specs.List.{AllByRecursion, AllZip, flat_map}
use Rattle.std.specs.Prelude.{if◌then◌else◌}
use Rattle.serde_json.specs.Data.{Data, boolean, object, Members}
use Rattle.schema_meaning.specs.Members.{In, first, later}
use Rattle.schema_definitions.specs.Bearers.{Documents, meta}
use Rattle.schema_definitions.specs.Lookup.{Target}
use Rattle.schema_definitions.specs.Sites.{Site, root_site}
use Rattle.schema_definitions.specs.Rows.{BuildCause, Row, Context, rows_of, rows_in, rows_at, identifier_causes}
use Rattle.schema_definitions.specs.BuildCauses.{Reached, at_root, by_keyword}
use Rattle.reading_laws.proofs.Elements.{each_in}
use Rattle.reading_laws.proofs.Reaching.{row_cause}
use Rattle.added_documents.specs.Added.{EachNamedAmong, IsToldAlike, IsFree, LeftAlone}
use Rattle.added_documents.specs.ReadingLaws.{StandsAlone, SitesStay}
use Rattle.added_documents.proofs.Targets.{Known, static_same}
use Rattle.added_documents.proofs.Rows.{KnownAt, Same, all_same}

module _ (old more new : Documents) (alone : LeftAlone old more new) (makes : List ℕ → Bool) (s : Site) (frees : AllByRecursion (IsFree more new) s.scope) where
  abbrev reader : Documents → Members → Context
  reader docs ms = record { documents = docs; makes = makes; site = s; members = ms }

  pub record ReadSame (d : Data) : Type 0 where
    pub same : AllByRecursion (λ r. r.causes ≡ []) (rows_in s (reader old) d) → rows_in s (reader new) d ≡ rows_in s (reader old) d
    pub leads : AllByRecursion (λ r. AllByRecursion (KnownAt old more new alone s) r.leads) (rows_in s (reader old) d)

  module _ (ms : Members) (inside : EachNamedAmong (IsToldAlike (meta old) (meta new)) ms) where
    abbrev one : Context
    one = reader old ms

    abbrev SameHere : Row → Row → Type 0
    SameHere r q = Same old more new alone makes s ms frees inside r q

    zipped : AllZip SameHere (rows_of one ms) (rows_of (reader new ms) ms)
    zipped =
        all_same old more new alone makes s ms frees inside ms inside

    zip_same : (rs qs : List Row) → AllZip SameHere rs qs → AllByRecursion (λ r. r.causes ≡ []) rs → qs ≡ rs
    zip_same [] [] z h = refl
    zip_same [] (q ∷ qs) z h = absurd z
    zip_same (r ∷ rs) [] z h = absurd z
    zip_same (r ∷ rs) (q ∷ qs) z h = ap (λ (x : Row). x ∷ qs) (z.0.same h.0) ∙ ap (λ (xs : List Row). r ∷ xs) (zip_same rs qs z.1 h.1)

    zip_leads : (rs qs : List Row) → AllZip SameHere rs qs → AllByRecursion (λ r. AllByRecursion (KnownAt old more new alone s) r.leads) rs
    zip_leads [] [] z = tt
    zip_leads [] (q ∷ qs) z = absurd z
    zip_leads (r ∷ rs) [] z = absurd z
    zip_leads (r ∷ rs) (q ∷ qs) z = (z.0.leads, zip_leads rs qs z.1)

    members_same : ReadSame (object ms)
    members_same = record {
      same = zip_same (rows_of one ms) (rows_of (reader new ms) ms) zipped;
      leads = zip_leads (rows_of one ms) (rows_of (reader new ms) ms) zipped;
    }

  pub in_same : (d : Data) → Known old more new alone d → ReadSame d
  in_same (boolean true) h = record { same = λ e. refl; leads = tt }
  in_same (object ms) h = members_same ms h.1
  in_same d h = record { same = λ e. refl; leads = (tt, tt) }

-- ---- what is reached

module _ (old more new : Documents) (makes : List ℕ → Bool) (base reference : List ℕ) (root : Target) (a : StandsAlone old more new makes base reference root) where
  abbrev IsReached : Site → Type 0
  IsReached s = Reached old makes (root_site root) s

  -- what is known of each
  record Fits (s : Site) : Type 0 where
    known : Known old more new a.alone s.contents
    frees : AllByRecursion (IsFree more new) s.scope

  here_same : (s : Site) → IsReached s → (f : Fits s) → ReadSame old more new a.alone makes s f.frees s.contents
  unfolding rows_at
  here_same s r f = in_same old more new a.alone makes s f.frees s.contents f.known

  entered_free : (b : Bool) (u : List ℕ) (us : List (List ℕ)) → IsFree more new u → AllByRecursion (IsFree more new) us → AllByRecursion (IsFree more new) (if b then us else u ∷ us)
  entered_free true u us f fs = fs
  entered_free false u us f fs = (f, fs)

  reached_fits : (s : Site) → IsReached s → Fits s
  unfolding rows_at
  reached_fits _ at_root = record { known = (static_same old more new a.alone base reference root a.builds.found).known; frees = (a.free (root_site root) at_root, tt) }
  reached_fits _ (by_keyword {s = s} row t r i j) =
      let f = reached_fits s r in
      let k =
      each_in (KnownAt old more new a.alone s) row.leads
      (each_in (λ w. AllByRecursion (KnownAt old more new a.alone s) w.leads) (rows_at old makes s) (here_same s r f).leads row i) t j in
      record {
        known = k.is;
        frees =
            subst (λ (us : List (List ℕ)). AllByRecursion (IsFree more new) us) (sym k.scope)
            (entered_free (bytes_eq t.base s.base) t.base s.scope (a.free t (by_keyword row t r i j)) f.frees);
      }

  none_wrong : (s : Site) → IsReached s → (row : Row) → In row (rows_at old makes s) → row.causes ≡ []
  none_wrong s r row i = by row.causes refl
    where
      by : (cs : List BuildCause) → row.causes ≡ cs → cs ≡ []
      by [] is = refl
      by (c ∷ cs) is = absurd (a.builds.right c (record { site = s; reached = r; wrong = row_cause old makes s row c i (subst (λ xs. In c xs) (sym is) first) }))

  all_right : (s : Site) → IsReached s → (rows : List Row) → ((row : Row) → In row rows → In row (rows_at old makes s)) → AllByRecursion (λ w. w.causes ≡ []) rows
  all_right s r [] h = tt
  all_right s r (w ∷ ws) h = (none_wrong s r w (h w first), all_right s r ws (λ x i. h x (later i)))

  pub rows_stay : (s : Site) → IsReached s → rows_at new makes s ≡ rows_at old makes s
  unfolding rows_at
  rows_stay s r =
      (here_same s r (reached_fits s r)).same (all_right s r (rows_at old makes s) (λ row i. i))

  forth : (s : Site) → IsReached s → Reached new makes (root_site root) s
  forth _ at_root = at_root
  forth _ (by_keyword {s = s} row t r i j) = by_keyword row t (forth s r) (subst (λ rows. In row rows) (sym (rows_stay s r)) i) j

  back : (s : Site) → Reached new makes (root_site root) s → IsReached s
  back _ at_root = at_root
  back _ (by_keyword {s = s} row t r i j) = (let h = back s r in by_keyword row t h (subst (λ rows. In row rows) (rows_stay s h) i) j)

pub sites_stay : SitesStay
sites_stay old more new makes base reference root a = record {
  builds = record {
    found = (static_same old more new a.alone base reference root a.builds.found).same;
    right = λ cause w.
        let r = back old more new makes base reference root a w.site w.reached in
        a.builds.right cause (record {
          site = w.site;
          reached = r;
          wrong = subst (λ (rows : List Row). In cause (identifier_causes w.site ++ flat_map (λ (x : Row). x.causes) rows)) (rows_stay old more new makes base reference root a w.site r) w.wrong;
        });
  };
  reached = forth old more new makes base reference root a;
  no_more = back old more new makes base reference root a;
  rows = rows_stay old more new makes base reference root a;
}
