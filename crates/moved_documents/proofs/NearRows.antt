-- What stands at two sites of which the one has the moved document inside its contents, where nothing is wrong.
use Rattle.std.proofs.Common.{◌≡◌, ℕ, List, [], ◌++◌, Bool, true, false, if◌then◌else◌, bytes_eq, codes, Option, refl, sym, ap, subst}
use Rattle.std.specs.List.{AllByRecursion, AllZip, flat_map}
use Rattle.serde_json.specs.Data.{Data, boolean, object, Members, no_members, member}
use Rattle.serde_json.specs.Find.{get_member}
use Rattle.json_values.specs.Parts.{Part}
use Rattle.schema_meaning.specs.Keywords.{Shape}
use Rattle.schema_definitions.specs.Bearers.{Documents}
use Rattle.schema_definitions.specs.Sites.{Site}
use Rattle.schema_definitions.specs.Rows.{Row, nothing_read, Context, counts_here, readers, read_among, row_at, rows_of, rows_in}
use Rattle.linked_meanings.specs.Related.{RelatedShape, related_never}
use Rattle.reading_laws.proofs.Results.{zip_append}
use Rattle.moved_documents.specs.Premises.{IsFresh}
use Rattle.moved_documents.specs.Linked.{Changed, set_new, set_again, further, Near, unmoved, at_definitions, at_root}
use Rattle.moved_documents.proofs.Near.{is_looked, looked_same, never_keyword}
use Rattle.moved_documents.proofs.Rows.{elsewhere, LeadAlike, row_alike}

-- a member that is no keyword has no shapes
abbrev IsSilent : List ℕ → Type 0
IsSilent k = (c : Context) (d : Data) → (row_at c k d).shapes ≡ []

definitions_silent : IsSilent (codes "$defs")
definitions_silent c d = by (counts_here c (codes "$defs"))
  where
    by : (b : Bool) → (if b then read_among readers c (codes "$defs") d else nothing_read).shapes ≡ []
    by true = refl
    by false = refl

fresh_silent : (fresh : List ℕ) → IsFresh fresh → IsSilent fresh
fresh_silent fresh is c d =
    let not_counted : counts_here c fresh ≡ false = rw (never_keyword fresh d is c.site.dialect.draft) refl in
    ap (λ (b : Bool). (if b then read_among readers c fresh d else nothing_read).shapes) not_counted

abbrev shapes_of : List Row → List (Shape Site)
shapes_of rows = flat_map (λ r. r.shapes) rows

abbrev pub NoneWrong : List Row → Type 0
NoneWrong rows = AllByRecursion (λ r. r.causes ≡ []) rows

module _ (fresh : List ℕ) (moved : Data) (is_fresh : IsFresh fresh)
    (docs docs' : Documents) (makes : List ℕ → Bool) (s : Site) (document : List ℕ) (path : List Part) (contents : Data)
    (like : Site → Site → Type 0) (led : LeadAlike docs docs' makes s document path contents like) where
  abbrev Alike : List (Shape Site) → List (Shape Site) → Type 0
  Alike ks hs = AllZip (RelatedShape like) ks hs

  abbrev second : Site
  second = elsewhere docs docs' makes s document path contents

  abbrev first_context : Members → Context
  first_context ms = record { documents = docs; makes = makes; site = s; members = ms }

  abbrev second_context : Members → Context
  second_context ms = record { documents = docs'; makes = makes; site = second; members = ms }

  module _ (ms ns : Members) (near : (j : List ℕ) → is_looked j ≡ true → bytes_eq j (codes "$defs") ≡ false → get_member j ns ≡ get_member j ms) where
    abbrev c : Context
    c = first_context ms

    abbrev c' : Context
    c' = second_context ns

    one_alike : (k : List ℕ) (d : Data) → (row_at c k d).causes ≡ [] → (row_at c' k d).causes ≡ [] → Alike (row_at c k d).shapes (row_at c' k d).shapes
    one_alike k d = row_alike docs docs' makes s document path contents like led ms ns near k d

    put_before : (ks hs : List (Shape Site)) (us vs : List (Shape Site)) → Alike ks hs → Alike us vs → Alike (ks ++ us) (hs ++ vs)
    put_before ks hs us vs z w = zip_append (RelatedShape like) ks hs us vs z w

    all_alike : (xs : Members) → NoneWrong (rows_of c xs) → NoneWrong (rows_of c' xs) → Alike (shapes_of (rows_of c xs)) (shapes_of (rows_of c' xs))
    all_alike no_members h g = tt
    all_alike (member k d xs) h g =
        put_before (row_at c k d).shapes (row_at c' k d).shapes (shapes_of (rows_of c xs)) (shapes_of (rows_of c' xs)) (one_alike k d h.0 g.0) (all_alike xs h.1 g.1)

    silent_alike : (ks hs us vs : List (Shape Site)) → ks ≡ [] → hs ≡ [] → Alike us vs → Alike (ks ++ us) (hs ++ vs)
    silent_alike ks hs us vs e f z =
        put_before ks hs us vs (subst (λ xs. Alike xs hs) (sym e) (subst (λ xs. Alike [] xs) (sym f) tt)) z

    changed_alike : (k : List ℕ) → IsSilent k → {e : Data} {o : Option Data} {xs ys : Members} → Changed k e o xs ys
        → NoneWrong (rows_of c xs) → NoneWrong (rows_of c' ys) → Alike (shapes_of (rows_of c xs)) (shapes_of (rows_of c' ys))
    changed_alike k quiet {e = e} (set_new {ms = xs}) h g =
        silent_alike [] (row_at c' k e).shapes (shapes_of (rows_of c xs)) (shapes_of (rows_of c' xs)) refl (quiet c' e) (all_alike xs h g.1)
    changed_alike k quiet {e = e} (set_again {d = d} {ms = xs}) h g =
        silent_alike (row_at c k d).shapes (row_at c' k e).shapes (shapes_of (rows_of c xs)) (shapes_of (rows_of c' xs)) (quiet c d) (quiet c' e) (all_alike xs h.1 g.1)
    changed_alike k quiet (further {l = l} {d = d} {ms = xs} {ns = ys} x more) h g =
        put_before (row_at c l d).shapes (row_at c' l d).shapes (shapes_of (rows_of c xs)) (shapes_of (rows_of c' ys)) (one_alike l d h.0 g.0)
        (changed_alike k quiet more h.1 g.1)

  itself_alike : (d : Data) → NoneWrong (rows_in s first_context d) → NoneWrong (rows_in second second_context d)
      → Alike (shapes_of (rows_in s first_context d)) (shapes_of (rows_in second second_context d))
  itself_alike (boolean true) h g = tt
  itself_alike (boolean false) h g = (related_never, tt)
  itself_alike (object ms) h g = all_alike ms ms (λ j known apart. refl) ms h g
  itself_alike d h g = tt

  pub near_alike : (d e : Data) → Near fresh moved d e → NoneWrong (rows_in s first_context d) → NoneWrong (rows_in second second_context e)
      → Alike (shapes_of (rows_in s first_context d)) (shapes_of (rows_in second second_context e))
  near_alike d _ unmoved h g = itself_alike d h g
  near_alike _ _ (at_definitions {ds = ds} {es = es} none change) h g =
      changed_alike ds es (λ j known apart. looked_same fresh moved is_fresh j known apart (object ds) (object es) (at_definitions none change)) fresh (fresh_silent fresh is_fresh) change h g
  near_alike _ _ (at_root {ms = ms} {ns = ns} is extended change) h g =
      changed_alike ms ns (λ j known apart. looked_same fresh moved is_fresh j known apart (object ms) (object ns) (at_root is extended change)) (codes "$defs") definitions_silent change h g
