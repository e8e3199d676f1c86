-- A relation turned around: what is related by it is related the other way by the turned one.
use Rattle.std.proofs.Common.{ℕ, List, [], ◌∷◌, Option, Some, None, sym}
use Rattle.std.specs.List.{AllZip}
use Rattle.schema_meaning.specs.Members.{Reordered, nothing_left, kept, exchanged, in_turn}
use Rattle.schema_meaning.specs.Keywords.{Dependency, Form, Shape}
use Rattle.schema_meaning.specs.Readings.{Reading}
use Rattle.linked_meanings.specs.Related.{RelatedBeside, RelatedIfAny, RelatedDependency, related_needs, related_applies, RelatedEntry, AreRelatedButForPaths, RelatedForm, related_each_from, related_by_index, related_by_name, related_by_pattern, related_of_others, related_of_members, related_of_names, related_of_triggered, related_of_dependencies, related_of_branches, related_of_value, related_of_condition, RelatedShape, related_never, related_asserts, related_every, related_together, related_names, related_some, related_one, related_no, related_contains, related_condition, related_reference}

abbrev pub turned : {S T : Type 0} → (S → T → Type 0) → T → S → Type 0
turned like t s = like s t

zip_turned : {X Y : Type 0} (P : X → Y → Type 0) (Q : Y → X → Type 0) → ((x : X) (y : Y) → P x y → Q y x) → (xs : List X) (ys : List Y) → AllZip P xs ys → AllZip Q ys xs
zip_turned P Q f [] [] h = tt
zip_turned P Q f [] (y ∷ ys) h = absurd h
zip_turned P Q f (x ∷ xs) [] h = absurd h
zip_turned P Q f (x ∷ xs) (y ∷ ys) h = (f x y h.0, zip_turned P Q f xs ys h.1)

-- what stands beside the elements of a list stands, in another order, beside the list in another order
pulled : {X Y : Type 0} (P : X → Y → Type 0) (xs ys : List X) → Reordered xs ys → (zs : List Y) → AllZip P ys zs → (us : List Y) × AllZip P xs us × Reordered zs us
pulled P xs ys nothing_left [] h = ([], tt, nothing_left)
pulled P xs ys nothing_left (z ∷ zs) h = absurd h
pulled P xs ys (kept r) [] h = absurd h
pulled P xs ys (kept {x} {xs = ns} {ys = ms} r) (z ∷ zs) h = let p = pulled P ns ms r zs h.1 in (z ∷ p.0, (h.0, p.1), kept p.2)
pulled P xs ys exchanged [] h = absurd h
pulled P xs ys exchanged (z ∷ []) h = absurd h.1
pulled P xs ys exchanged (y ∷ z ∷ zs) h = (z ∷ y ∷ zs, (h.1.0, (h.0, h.1.1)), exchanged)
pulled P xs ys (in_turn {ys = ms} r s) zs h =
    let a = pulled P ms ys s zs h in
    let b = pulled P xs ms r a.0 a.1 in (b.0, b.1, in_turn a.2 b.2)

module _ {S T : Type 0} (like : S → T → Type 0) where
  sites : (ss : List S) (ts : List T) → AllZip like ss ts → AllZip (turned like) ts ss
  sites = zip_turned like (turned like) (λ s t h. h)

  entries : (ps : List (List ℕ × S)) (qs : List (List ℕ × T)) → AllZip (RelatedBeside like) ps qs → AllZip (RelatedBeside (turned like)) qs ps
  entries = zip_turned (RelatedBeside like) (RelatedBeside (turned like)) (λ p q h. (sym h.0, h.1))

  if_any : (x : Option S) (y : Option T) → RelatedIfAny like x y → RelatedIfAny (turned like) y x
  if_any None None h = tt
  if_any None (Some t) h = absurd h
  if_any (Some s) None h = absurd h
  if_any (Some s) (Some t) h = h

  dependency : (x : Dependency S) (y : Dependency T) → RelatedDependency like x y → RelatedDependency (turned like) y x
  dependency x y related_needs = related_needs
  dependency x y (related_applies h) = related_applies h

  form : (f : Form S) (g : Form T) → RelatedForm like f g → RelatedForm (turned like) g f
  form f g (related_each_from l) = related_each_from l
  form f g (related_by_index {ss} {ts} l) = related_by_index (sites ss ts l)
  form f g (related_by_name {ps} {qs} l) = related_by_name (entries ps qs l)
  form f g (related_by_pattern {ps} {qs} l) = related_by_pattern (entries ps qs l)
  form f g (related_of_others l) = related_of_others l
  form f g (related_of_members l) = related_of_members l
  form f g (related_of_names l) = related_of_names l
  form f g (related_of_triggered {ps} {qs} l) = related_of_triggered (entries ps qs l)
  form f g (related_of_dependencies {ps} {qs} l) =
      related_of_dependencies (zip_turned (RelatedEntry like) (RelatedEntry (turned like)) (λ p q e. (sym e.0, dependency p.1 q.1 e.1)) ps qs l)
  form f g (related_of_branches {ss} {ts} l) = related_of_branches (sites ss ts l)
  form f g (related_of_value l) = related_of_value l
  form f g (related_of_condition {a} {c} {b} {d} l x y) = related_of_condition l (if_any a b x) (if_any c d y)

  shape : (k : Shape S) (h : Shape T) → RelatedShape like k h → RelatedShape (turned like) h k
  shape k h related_never = related_never
  shape k h related_asserts = related_asserts
  shape k h (related_every {f} {g} l) = related_every (form f g l)
  shape k h (related_together {f} {g} l) = related_together (form f g l)
  shape k h (related_names l) = related_names l
  shape k h (related_some {f} {g} l) = related_some (form f g l)
  shape k h (related_one {f} {g} l) = related_one (form f g l)
  shape k h (related_no l) = related_no l
  shape k h (related_contains l) = related_contains l
  shape k h (related_condition {a} {c} {b} {d} l x y) = related_condition l (if_any a b x) (if_any c d y)
  shape k h (related_reference l) = related_reference l

pub turned_related : {S T : Type 0} (r : Reading S) (u : Reading T) (like : S → T → Type 0) → AreRelatedButForPaths r u like → AreRelatedButForPaths u r (turned like)
turned_related r u like related = record {
  matches = sym related.matches;
  keywords = λ t s h.
      let same = related.keywords s t h in
      let p = pulled (RelatedShape like) (r.keywords s) same.order same.reordered (u.keywords t) same.same in record {
        order = p.0;
        reordered = p.2;
        same = zip_turned (RelatedShape like) (RelatedShape (turned like)) (shape like) (r.keywords s) p.0 p.1;
      };
}
