-- Keywords over sites that are related, of which more is known.
use Rattle.std.proofs.Common.{ℕ, List, [], ◌∷◌, Option, Some, None, IfSome}
use Rattle.std.specs.List.{AllByRecursion, AllZip}
use Rattle.schema_meaning.specs.Keywords.{Dependency, Form, Shape}
use Rattle.schema_meaning.specs.Linked.{RelatedBeside, RelatedIfAny, RelatedDependency, related_needs, related_applies, RelatedEntry, RelatedForm, related_each_from, related_by_index, related_by_name, related_by_pattern, related_of_others, related_of_members, related_of_names, related_of_triggered, related_of_dependencies, related_of_branches, related_of_value, related_of_condition, RelatedShape, related_never, related_asserts, related_every, related_together, related_names, related_some, related_one, related_no, related_contains, related_condition, related_reference}
use Rattle.reading_laws.proofs.Asked.{IsApplied, HoldsIn, Holds}

module _ {S T : Type 0} (like : S → T → Type 0) (P : S → Type 0) (Q : T → Type 0) where
  abbrev pub Both : S → T → Type 0
  Both s t = like s t × P s × Q t

  lists : (ss : List S) (ts : List T) → AllZip like ss ts → AllByRecursion P ss → AllByRecursion Q ts → AllZip Both ss ts
  lists [] [] z h g = tt
  lists [] (t ∷ ts) z h g = absurd z
  lists (s ∷ ss) [] z h g = absurd z
  lists (s ∷ ss) (t ∷ ts) z h g = ((z.0, h.0, g.0), lists ss ts z.1 h.1 g.1)

  named : (ps : List (List ℕ × S)) (qs : List (List ℕ × T)) → AllZip (RelatedBeside like) ps qs → AllByRecursion (λ p. P p.1) ps → AllByRecursion (λ q. Q q.1) qs
      → AllZip (RelatedBeside Both) ps qs
  named [] [] z h g = tt
  named [] (q ∷ qs) z h g = absurd z
  named (p ∷ ps) [] z h g = absurd z
  named (p ∷ ps) (q ∷ qs) z h g = ((z.0.0, (z.0.1, h.0, g.0)), named ps qs z.1 h.1 g.1)

  dependency : (x : Dependency S) (y : Dependency T) → RelatedDependency like x y → IsApplied P x → IsApplied Q y → RelatedDependency Both x y
  dependency _ _ related_needs h g = related_needs
  dependency _ _ (related_applies l) h g = related_applies (l, h, g)

  entries : (ps : List (List ℕ × Dependency S)) (qs : List (List ℕ × Dependency T)) → AllZip (RelatedEntry like) ps qs
      → AllByRecursion (λ p. IsApplied P p.1) ps → AllByRecursion (λ q. IsApplied Q q.1) qs → AllZip (RelatedEntry Both) ps qs
  entries [] [] z h g = tt
  entries [] (q ∷ qs) z h g = absurd z
  entries (p ∷ ps) [] z h g = absurd z
  entries (p ∷ ps) (q ∷ qs) z h g = ((z.0.0, dependency p.1 q.1 z.0.1 h.0 g.0), entries ps qs z.1 h.1 g.1)

  if_any : (a : Option S) (b : Option T) → RelatedIfAny like a b → IfSome a P → IfSome b Q → RelatedIfAny Both a b
  if_any None None l h g = tt
  if_any None (Some t) l h g = absurd l
  if_any (Some s) None l h g = absurd l
  if_any (Some s) (Some t) l h g = (l, h, g)

  forms : (f : Form S) (g : Form T) → RelatedForm like f g → HoldsIn P f → HoldsIn Q g → RelatedForm Both f g
  forms _ _ (related_each_from l) h g = related_each_from (l, h, g)
  forms _ _ (related_by_index {ss = ss} {ts = ts} z) h g = related_by_index (lists ss ts z h g)
  forms _ _ (related_by_name {ps = ps} {qs = qs} z) h g = related_by_name (named ps qs z h g)
  forms _ _ (related_by_pattern {ps = ps} {qs = qs} z) h g = related_by_pattern (named ps qs z h g)
  forms _ _ (related_of_others l) h g = related_of_others (l, h, g)
  forms _ _ (related_of_members l) h g = related_of_members (l, h, g)
  forms _ _ (related_of_names l) h g = related_of_names (l, h, g)
  forms _ _ (related_of_triggered {ps = ps} {qs = qs} z) h g = related_of_triggered (named ps qs z h g)
  forms _ _ (related_of_dependencies {ps = ps} {qs = qs} z) h g = related_of_dependencies (entries ps qs z h g)
  forms _ _ (related_of_branches {ss = ss} {ts = ts} z) h g = related_of_branches (lists ss ts z h g)
  forms _ _ (related_of_value l) h g = related_of_value (l, h, g)
  forms _ _ (related_of_condition {a = a} {c = c} {b = b} {d = d} l x y) h g =
      related_of_condition (l, h.0, g.0) (if_any a b x h.1 g.1) (if_any c d y h.2 g.2)

  pub joined : (k : Shape S) (m : Shape T) → RelatedShape like k m → Holds P P k → Holds Q Q m → RelatedShape Both k m
  joined _ _ related_never h g = related_never
  joined _ _ related_asserts h g = related_asserts
  joined _ _ (related_every {f = f} {g = f'} r) h g = related_every (forms f f' r h g)
  joined _ _ (related_together {f = f} {g = f'} r) h g = related_together (forms f f' r h g)
  joined _ _ (related_names l) h g = related_names (l, h, g)
  joined _ _ (related_some {f = f} {g = f'} r) h g = related_some (forms f f' r h g)
  joined _ _ (related_one {f = f} {g = f'} r) h g = related_one (forms f f' r h g)
  joined _ _ (related_no l) h g = related_no (l, h, g)
  joined _ _ (related_contains l) h g = related_contains (l, h, g)
  joined _ _ (related_condition {a = a} {c = c} {b = b} {d = d} l x y) h g = related_condition (l, h.0, g.0) (if_any a b x h.1 g.1) (if_any c d y h.2 g.2)
  joined _ _ (related_reference l) h g = related_reference (l, h, g)

  pub all_joined : (ks : List (Shape S)) (ms : List (Shape T)) → AllZip (RelatedShape like) ks ms → AllByRecursion (Holds P P) ks → AllByRecursion (Holds Q Q) ms
      → AllZip (RelatedShape Both) ks ms
  all_joined [] [] z h g = tt
  all_joined [] (m ∷ ms) z h g = absurd z
  all_joined (k ∷ ks) [] z h g = absurd z
  all_joined (k ∷ ks) (m ∷ ms) z h g = (joined k m z.0 h.0 g.0, all_joined ks ms z.1 h.1 g.1)
