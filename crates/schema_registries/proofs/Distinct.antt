-- The pointers of a document's schema places are distinct.
use Rattle.std.proofs.Common.{◌≡◌, ◌∙◌, ◌++◌, ℕ, suc, List, [], ◌∷◌, true, false, Option, Some, None, option_and_then, All, map, reverse, refl, sym, ap}
use Rattle.std.proofs.lemmas.Fmt.{decimal_injective}
use Rattle.std.proofs.lemmas.Bool.{false_from_ne_true}
use Rattle.std.proofs.lemmas.List.{reverse-reverse}
use Rattle.std.proofs.lemmas.List.Elements.{All-head, All-tail}
use Rattle.std.proofs.lemmas.Slice.Eq.{bytes_eq-Decides}
use Rattle.std.specs.List.{AllByRecursion, IsDistinct}
use Rattle.std.specs.Prelude.{bytes_eq}
use Rattle.serde_json.specs.Data.{Data, null, boolean, number, string, array, object, depth}
use Rattle.serde_json.specs.Find.{unescape}
use Rattle.json_values.specs.Parts.{Part, name, index}
use Rattle.json_values.specs.Pointers.{escape, part_text, pointer_text, value_in, value_at, PartFits, PathFits}
use Rattle.json_pointers.proofs.EscapeLemmas.{unescape-escape}
use Rattle.schema_definitions.specs.Places.{Dialect, SchemaPlace, Named, settled, awaited, by_schema, schema_in_force, placed, root_place, children, places}
use Rattle.schema_definitions.specs.Bearers.{Document}
use Rattle.certificate_laws.proofs.Cuts.{NotSlash, escape_no_slash, index_no_slash, rest_of, cuts_first, cut_is}
use Rattle.json_values.specs.Rising.{rises}
use Rattle.document_laws.specs.PlaceLaws.{Leads}
use Rattle.document_laws.proofs.Leading.{places_lead}
use Rattle.schema_registries.specs.Pointers.{pointer_of, pointers_under}
use Rattle.schema_registries.proofs.Levels.{PathsDiffer, PathsDistinct, levels_distinct}
use Rattle.schema_registries.proofs.Children.{path_of, Rises, all_inside, all_apart}

-- ---- the paths

root_rises : (uri : List ℕ) (default : Dialect) (d : Data) (n : Named) → rises d ≡ true → Rises (placed uri default [] d n)
root_rises uri default d (settled dialect) r = record { rising = r }
root_rises uri default d (awaited other) r = record { rising = r }

paths_distinct : (meta : List ℕ → Option Dialect) (uri : List ℕ) (default : Dialect) (d : Data) → rises d ≡ true → PathsDistinct path_of (places meta uri default d)
unfolding places
paths_distinct meta uri default d r =
    levels_distinct path_of Rises (children meta) (all_inside meta) (all_apart meta) (suc (depth d)) (root_place meta uri default d ∷ [])
    (root_rises uri default d (by_schema meta default (schema_in_force default.siblings true d)) r, tt) (tt, tt)

-- ---- the texts of paths that lead somewhere

behind : (ps : List Part) (o : Option Data) (x : Data) → option_and_then (value_at ps) o ≡ Some x → (d : Data) × (o ≡ Some d) × (value_at ps d ≡ Some x)
behind ps None x h = absurd (let no : None ≡ Some x = h in cc)
behind ps (Some d) x h = (d, refl, h)

one_name : (k l : List ℕ) → escape k ≡ escape l → k ≡ l
one_name k l e = sym (unescape-escape k) ∙ ap unescape e ∙ unescape-escape l

no_value : (d : Data) {A : Type 0} → None ≡ Some d → A
no_value d h = absurd (cc h)

-- a name leads from an object alone, and an index from an array alone
one_part : (p q : Part) (d x y : Data) → value_in p d ≡ Some x → value_in q d ≡ Some y → PartFits p → PartFits q → part_text p ≡ part_text q → p ≡ q
one_part (name k) (name l) d x y h g f e t = ap name (one_name k l t)
one_part (index m) (index n) d x y h g f e t = ap index (decimal_injective m n f e t)
one_part (name k) (index n) null x y h g f e t = no_value x h
one_part (name k) (index n) (boolean b) x y h g f e t = no_value x h
one_part (name k) (index n) (number z) x y h g f e t = no_value x h
one_part (name k) (index n) (string s) x y h g f e t = no_value x h
one_part (name k) (index n) (array ds) x y h g f e t = no_value x h
one_part (name k) (index n) (object ms) x y h g f e t = no_value y g
one_part (index m) (name l) null x y h g f e t = no_value x h
one_part (index m) (name l) (boolean b) x y h g f e t = no_value x h
one_part (index m) (name l) (number z) x y h g f e t = no_value x h
one_part (index m) (name l) (string s) x y h g f e t = no_value x h
one_part (index m) (name l) (array ds) x y h g f e t = no_value y g
one_part (index m) (name l) (object ms) x y h g f e t = no_value x h

clean : (p : Part) → PartFits p → All NotSlash (part_text p)
clean (name k) f = escape_no_slash k
clean (index n) f = index_no_slash n f

one_path : (ps qs : List Part) (d x y : Data) → value_at ps d ≡ Some x → value_at qs d ≡ Some y → PathFits ps → PathFits qs
    → pointer_text ps ≡ pointer_text qs → ps ≡ qs
one_path [] [] d x y h g f e t = refl
one_path [] (q ∷ qs) d x y h g f e t = absurd (cc t)
one_path (p ∷ ps) [] d x y h g f e t = absurd (cc t)
one_path (p ∷ ps) (q ∷ qs) d x y h g f e t =
    let texts : part_text p ++ pointer_text ps ≡ part_text q ++ pointer_text qs = cc in
    let cut = cut_is (part_text p ++ pointer_text ps) (part_text p) (pointer_text ps) (part_text q) (pointer_text qs)
    (cuts_first (part_text p) (pointer_text ps) (clean p f.0) (rest_of ps)) (rest_of ps) (clean q e.0) (rest_of qs) texts in
    let a = behind ps (value_in p d) x h in
    let b = behind qs (value_in q d) y g in
    let part : p ≡ q = one_part p q d a.0 b.0 a.1 b.1 f.0 e.0 cut.0 in
    let value : a.0 ≡ b.0 = (let both : Some a.0 ≡ Some b.0 = sym a.1 ∙ ap (λ r. value_in r d) part ∙ b.1 in cc) in
    let rest : ps ≡ qs = one_path ps qs a.0 x y a.2 (ap (value_at qs) value ∙ b.2) f.1 e.1 cut.1 in
    cc

-- ---- the pointers

-- a place whose path leads to its contents, with indexes that fit
record Led (d : Data) (p : SchemaPlace) : Type 0 where
  leads : Leads d p
  fits : PathFits (reverse p.path)

differ : (d : Data) (p q : SchemaPlace) → Led d p → Led d q → PathsDiffer path_of p q → bytes_eq (pointer_of p) (pointer_of q) ≡ false
differ d p q a b h =
    false_from_ne_true (bytes_eq (pointer_of p) (pointer_of q)) (λ same.
    let texts : pointer_of p ≡ pointer_of q = (bytes_eq-Decides (pointer_of p) (pointer_of q)).0 same in
    let paths = one_path (reverse p.path) (reverse q.path) d p.contents q.contents a.leads b.leads a.fits b.fits texts in
    h.differ (sym (reverse-reverse p.path) ∙ ap reverse paths ∙ reverse-reverse q.path))

differ_each : (d : Data) (p : SchemaPlace) (ps : List SchemaPlace) → Led d p → AllByRecursion (Led d) ps → AllByRecursion (PathsDiffer path_of p) ps
    → AllByRecursion (λ t. bytes_eq (pointer_of p) t ≡ false) (map pointer_of ps)
differ_each d p [] a b h = tt
differ_each d p (q ∷ ps) a b h = (differ d p q a b.0 h.0, differ_each d p ps a b.1 h.1)

texts_distinct : (d : Data) (ps : List SchemaPlace) → AllByRecursion (Led d) ps → PathsDistinct path_of ps → IsDistinct bytes_eq (map pointer_of ps)
unfolding IsDistinct
texts_distinct d [] a h = tt
texts_distinct d (p ∷ ps) a h = (differ_each d p ps a.0 a.1 h.0, texts_distinct d ps a.1 h.1)

all_led : (d : Data) (ps : List SchemaPlace) → All (Leads d) ps → All (λ p. PathFits (reverse p.path)) ps → AllByRecursion (Led d) ps
all_led d [] a f = tt
all_led d (p ∷ ps) a f = (
  record { leads = All-head (Leads d) p ps a; fits = All-head (λ q. PathFits (reverse q.path)) p ps f },
  all_led d ps (All-tail (Leads d) p ps a) (All-tail (λ q. PathFits (reverse q.path)) p ps f),
)

-- where its names rise and its indexes fit
pub pointers_distinct : (told : List ℕ → Option Dialect) (d : Document) → rises d.contents ≡ true
    → All (λ p. PathFits (reverse p.path)) (places told d.uri d.default d.contents) → IsDistinct bytes_eq (pointers_under told d)
pointers_distinct told d r f =
    let ps = places told d.uri d.default d.contents in
    texts_distinct d.contents ps (all_led d.contents ps (places_lead d.contents r told d.uri d.default) f) (paths_distinct told d.uri d.default d.contents r)
