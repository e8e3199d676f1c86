-- The same keyword over related sites: where the sites are related by more too, and over sites that are related through others.
use Rattle.std.proofs.Common.{◌∙◌, ℕ, List, [], ◌∷◌, Option, Some, None}
use Rattle.std.specs.List.{AllZip}
use Rattle.schema_meaning.specs.Keywords.{Dependency, Form, Shape}
use Rattle.linked_meanings.specs.Related.{RelatedBeside, RelatedIfAny, RelatedDependency, related_needs, related_applies, RelatedEntry, RelatedForm, related_each_from, related_by_index, related_by_name, related_by_pattern, related_of_others, related_of_members, related_of_names, related_of_triggered, related_of_dependencies, related_of_branches, related_of_value, related_of_condition, RelatedShape, related_never, related_asserts, related_every, related_together, related_names, related_some, related_one, related_no, related_contains, related_condition, related_reference}
use Rattle.linked_meanings.proofs.LinkedPairs.{zipped}

-- ---- related by more

module _ {S T : Type 0} (P Q : S → T → Type 0) (more : (s : S) (t : T) → P s t → Q s t) where
  if_any_so : (x : Option S) (y : Option T) → RelatedIfAny P x y → RelatedIfAny Q x y
  if_any_so None None h = tt
  if_any_so None (Some t) h = absurd h
  if_any_so (Some s) None h = absurd h
  if_any_so (Some s) (Some t) h = more s t h

  entry_so : (p : List ℕ × Dependency S) (q : List ℕ × Dependency T) → RelatedEntry P p q → RelatedEntry Q p q
  entry_so p q h = (h.0, by p.1 q.1 h.1)
    where
      by : (x : Dependency S) (y : Dependency T) → RelatedDependency P x y → RelatedDependency Q x y
      by x y related_needs = related_needs
      by x y (related_applies {s} {t} l) = related_applies (more s t l)

  sites_so : (ss : List S) (ts : List T) → AllZip P ss ts → AllZip Q ss ts
  sites_so = zipped P Q more

  named_so : (ps : List (List ℕ × S)) (qs : List (List ℕ × T)) → AllZip (RelatedBeside P) ps qs → AllZip (RelatedBeside Q) ps qs
  named_so = zipped (RelatedBeside P) (RelatedBeside Q) (λ p q h. (h.0, more p.1 q.1 h.1))

  entries_so : (ps : List (List ℕ × Dependency S)) (qs : List (List ℕ × Dependency T)) → AllZip (RelatedEntry P) ps qs → AllZip (RelatedEntry Q) ps qs
  entries_so = zipped (RelatedEntry P) (RelatedEntry Q) entry_so

  form_so : (f : Form S) (g : Form T) → RelatedForm P f g → RelatedForm Q f g
  form_so f g (related_each_from {s} {t} l) = related_each_from (more s t l)
  form_so f g (related_by_index {ss} {ts} l) = related_by_index (sites_so ss ts l)
  form_so f g (related_by_name {ps} {qs} l) = related_by_name (named_so ps qs l)
  form_so f g (related_by_pattern {ps} {qs} l) = related_by_pattern (named_so ps qs l)
  form_so f g (related_of_others {s} {t} l) = related_of_others (more s t l)
  form_so f g (related_of_members {s} {t} l) = related_of_members (more s t l)
  form_so f g (related_of_names {s} {t} l) = related_of_names (more s t l)
  form_so f g (related_of_triggered {ps} {qs} l) = related_of_triggered (named_so ps qs l)
  form_so f g (related_of_dependencies {ps} {qs} l) = related_of_dependencies (entries_so ps qs l)
  form_so f g (related_of_branches {ss} {ts} l) = related_of_branches (sites_so ss ts l)
  form_so f g (related_of_value {s} {t} l) = related_of_value (more s t l)
  form_so f g (related_of_condition {s} {t} {a} {c} {b} {d} l x y) = related_of_condition (more s t l) (if_any_so a b x) (if_any_so c d y)

  pub shape_so : (k : Shape S) (h : Shape T) → RelatedShape P k h → RelatedShape Q k h
  shape_so k h related_never = related_never
  shape_so k h related_asserts = related_asserts
  shape_so k h (related_every {f} {g} l) = related_every (form_so f g l)
  shape_so k h (related_together {f} {g} l) = related_together (form_so f g l)
  shape_so k h (related_names {s} {t} l) = related_names (more s t l)
  shape_so k h (related_some {f} {g} l) = related_some (form_so f g l)
  shape_so k h (related_one {f} {g} l) = related_one (form_so f g l)
  shape_so k h (related_no {s} {t} l) = related_no (more s t l)
  shape_so k h (related_contains {s} {t} l) = related_contains (more s t l)
  shape_so k h (related_condition {s} {t} {a} {c} {b} {d} l x y) = related_condition (more s t l) (if_any_so a b x) (if_any_so c d y)
  shape_so k h (related_reference {s} {t} l) = related_reference (more s t l)

  pub shapes_so : (ks : List (Shape S)) (hs : List (Shape T)) → AllZip (RelatedShape P) ks hs → AllZip (RelatedShape Q) ks hs
  shapes_so = zipped (RelatedShape P) (RelatedShape Q) shape_so

-- ---- related through others

pub zip_through : {X Y Z : Type 0} (P : X → Y → Type 0) (Q : Y → Z → Type 0) (R : X → Z → Type 0) → ((x : X) (y : Y) (z : Z) → P x y → Q y z → R x z)
    → (xs : List X) (ys : List Y) (zs : List Z) → AllZip P xs ys → AllZip Q ys zs → AllZip R xs zs
zip_through P Q R f [] [] [] h g = tt
zip_through P Q R f [] [] (z ∷ zs) h g = absurd g
zip_through P Q R f [] (y ∷ ys) zs h g = absurd h
zip_through P Q R f (x ∷ xs) [] zs h g = absurd h
zip_through P Q R f (x ∷ xs) (y ∷ ys) [] h g = absurd g
zip_through P Q R f (x ∷ xs) (y ∷ ys) (z ∷ zs) h g = (f x y z h.0 g.0, zip_through P Q R f xs ys zs h.1 g.1)

module _ {S T U : Type 0} (P : S → T → Type 0) (Q : T → U → Type 0) (R : S → U → Type 0) (through : (s : S) (t : T) (u : U) → P s t → Q t u → R s u) where
  if_any_through : (x : Option S) (y : Option T) (z : Option U) → RelatedIfAny P x y → RelatedIfAny Q y z → RelatedIfAny R x z
  if_any_through None None None h g = tt
  if_any_through None None (Some u) h g = absurd g
  if_any_through None (Some t) z h g = absurd h
  if_any_through (Some s) None z h g = absurd h
  if_any_through (Some s) (Some t) None h g = absurd g
  if_any_through (Some s) (Some t) (Some u) h g = through s t u h g

  entry_through : (p : List ℕ × Dependency S) (q : List ℕ × Dependency T) (r : List ℕ × Dependency U) → RelatedEntry P p q → RelatedEntry Q q r → RelatedEntry R p r
  entry_through p q r h g = (h.0 ∙ g.0, by p.1 q.1 r.1 h.1 g.1)
    where
      by : (x : Dependency S) (y : Dependency T) (z : Dependency U) → RelatedDependency P x y → RelatedDependency Q y z → RelatedDependency R x z
      by x y z related_needs related_needs = related_needs
      by x y z (related_applies {s} {t} l) (related_applies {t = u} m) = related_applies (through s t u l m)

  sites_through : (ss : List S) (ts : List T) (us : List U) → AllZip P ss ts → AllZip Q ts us → AllZip R ss us
  sites_through = zip_through P Q R through

  named_through : (ps : List (List ℕ × S)) (qs : List (List ℕ × T)) (rs : List (List ℕ × U)) → AllZip (RelatedBeside P) ps qs → AllZip (RelatedBeside Q) qs rs
      → AllZip (RelatedBeside R) ps rs
  named_through = zip_through (RelatedBeside P) (RelatedBeside Q) (RelatedBeside R) (λ p q r h g. (h.0 ∙ g.0, through p.1 q.1 r.1 h.1 g.1))

  entries_through : (ps : List (List ℕ × Dependency S)) (qs : List (List ℕ × Dependency T)) (rs : List (List ℕ × Dependency U))
      → AllZip (RelatedEntry P) ps qs → AllZip (RelatedEntry Q) qs rs → AllZip (RelatedEntry R) ps rs
  entries_through = zip_through (RelatedEntry P) (RelatedEntry Q) (RelatedEntry R) entry_through

  form_through : (e : Form S) (f : Form T) (g : Form U) → RelatedForm P e f → RelatedForm Q f g → RelatedForm R e g
  form_through e f g (related_each_from {s} {t} l) (related_each_from {t = u} m) = related_each_from (through s t u l m)
  form_through e f g (related_by_index {ss} {ts} l) (related_by_index {ts = us} m) = related_by_index (sites_through ss ts us l m)
  form_through e f g (related_by_name {ps} {qs} l) (related_by_name {qs = rs} m) = related_by_name (named_through ps qs rs l m)
  form_through e f g (related_by_pattern {ps} {qs} l) (related_by_pattern {qs = rs} m) = related_by_pattern (named_through ps qs rs l m)
  form_through e f g (related_of_others {s} {t} l) (related_of_others {t = u} m) = related_of_others (through s t u l m)
  form_through e f g (related_of_members {s} {t} l) (related_of_members {t = u} m) = related_of_members (through s t u l m)
  form_through e f g (related_of_names {s} {t} l) (related_of_names {t = u} m) = related_of_names (through s t u l m)
  form_through e f g (related_of_triggered {ps} {qs} l) (related_of_triggered {qs = rs} m) = related_of_triggered (named_through ps qs rs l m)
  form_through e f g (related_of_dependencies {ps} {qs} l) (related_of_dependencies {qs = rs} m) = related_of_dependencies (entries_through ps qs rs l m)
  form_through e f g (related_of_branches {ss} {ts} l) (related_of_branches {ts = us} m) = related_of_branches (sites_through ss ts us l m)
  form_through e f g (related_of_value {s} {t} l) (related_of_value {t = u} m) = related_of_value (through s t u l m)
  form_through e f g (related_of_condition {s} {t} {a} {c} {b} {d} l x y) (related_of_condition {t = u} {b = i} {d = j} m v w) =
      related_of_condition (through s t u l m) (if_any_through a b i x v) (if_any_through c d j y w)

  pub shape_through : (k : Shape S) (h : Shape T) (g : Shape U) → RelatedShape P k h → RelatedShape Q h g → RelatedShape R k g
  shape_through k h g related_never related_never = related_never
  shape_through k h g related_asserts related_asserts = related_asserts
  shape_through k h g (related_every {f = e} {g = f} l) (related_every {g = i} m) = related_every (form_through e f i l m)
  shape_through k h g (related_together {f = e} {g = f} l) (related_together {g = i} m) = related_together (form_through e f i l m)
  shape_through k h g (related_names {s} {t} l) (related_names {t = u} m) = related_names (through s t u l m)
  shape_through k h g (related_some {f = e} {g = f} l) (related_some {g = i} m) = related_some (form_through e f i l m)
  shape_through k h g (related_one {f = e} {g = f} l) (related_one {g = i} m) = related_one (form_through e f i l m)
  shape_through k h g (related_no {s} {t} l) (related_no {t = u} m) = related_no (through s t u l m)
  shape_through k h g (related_contains {s} {t} l) (related_contains {t = u} m) = related_contains (through s t u l m)
  shape_through k h g (related_condition {s} {t} {a} {c} {b} {d} l x y) (related_condition {t = u} {b = e} {d = f} m v w) =
      related_condition (through s t u l m) (if_any_through a b e x v) (if_any_through c d f y w)
  shape_through k h g (related_reference {s} {t} l) (related_reference {t = u} m) = related_reference (through s t u l m)

  pub shapes_through : (ks : List (Shape S)) (hs : List (Shape T)) (gs : List (Shape U)) → AllZip (RelatedShape P) ks hs → AllZip (RelatedShape Q) hs gs
      → AllZip (RelatedShape R) ks gs
  shapes_through = zip_through (RelatedShape P) (RelatedShape Q) (RelatedShape R) shape_through
