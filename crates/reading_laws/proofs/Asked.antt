-- What is known of a shape's sites is known of the sites that it asks.
use Rattle.std.proofs.Common.{◌≡◌, ℕ, suc, List, [], ◌∷◌, ◌++◌, Bool, true, false, map, not, IfSome, Option, Some, None, codes, refl}
use Rattle.std.specs.List.{filter, AllByRecursion}
use Rattle.std.specs.Prelude.{⊤}
use Rattle.serde_json.specs.Data.{Data, null, boolean, number, string, array, object, Items, no_items, item}
use Rattle.serde_json.specs.Find.{get}
use Rattle.json_values.specs.Parts.{Part}
use Rattle.json_values.specs.Patterns.{matched}
use Rattle.schema_meaning.specs.Places.{Step, stay, to_item, to_member, to_name}
use Rattle.schema_meaning.specs.Questions.{Question, question, at, at_name, at_index, each_branch, items_of, items_from, each_item, item_by_item, members_of, if_member, each_declared, each_matching, Declared, is_declared, other_members, each_member, each_name, each_triggered}
use Rattle.schema_meaning.specs.Rules.{asks, consequents}
use Rattle.schema_meaning.specs.Keywords.{Dependency, needs, applies, applied, consequent, counting, Form, each_from, by_index, by_name, by_pattern, of_others, of_members, of_names, of_triggered, of_dependencies, of_branches, of_value, of_condition, Shape, never, asserts, asks_every, asks_together, asks_names, asks_some, asks_one, asks_no, contains, condition, reference, each_dependency, asked, rule}
use Rattle.document_laws.proofs.Lists.{joined}
use Rattle.reading_laws.proofs.Elements.{each_mapped, each_laid_flat, each_kept}
use Rattle.reading_laws.proofs.Steps.{Keeps, stay_keeps, ItemsLie, first_item, next_items, all_items, items_lie, MemberLies, members_lie, found_keeps}

abbrev pub IsApplied : {S : Type 0} → (S → Type 0) → Dependency S → Type 0
IsApplied P (needs names) = ⊤
IsApplied P (applies s) = P s

-- P holds of each site of a subschema in what is asked
abbrev pub HoldsIn : {S : Type 0} → (S → Type 0) → Form S → Type 0
HoldsIn P (each_from start s) = P s
HoldsIn P (by_index ss) = AllByRecursion P ss
HoldsIn P (by_name ps) = AllByRecursion (λ p. P p.1) ps
HoldsIn P (by_pattern ps) = AllByRecursion (λ p. P p.1) ps
HoldsIn P (of_others declared s) = P s
HoldsIn P (of_members s) = P s
HoldsIn P (of_names s) = P s
HoldsIn P (of_triggered ps) = AllByRecursion (λ p. P p.1) ps
HoldsIn P (of_dependencies ps) = AllByRecursion (λ p. IsApplied P p.1) ps
HoldsIn P (of_branches ss) = AllByRecursion P ss
HoldsIn P (of_value schema s) = P s
HoldsIn P (of_condition s t e) = P s × IfSome t P × IfSome e P

-- P holds of each site of a subschema in the shape, R of a target
abbrev pub Holds : {S : Type 0} → (S → Type 0) → (S → Type 0) → Shape S → Type 0
Holds P R never = ⊤
Holds P R (asserts a) = ⊤
Holds P R (asks_every k form) = HoldsIn P form
Holds P R (asks_together k form) = HoldsIn P form
Holds P R (asks_names k s) = P s
Holds P R (asks_some k form) = HoldsIn P form
Holds P R (asks_one k form) = HoldsIn P form
Holds P R (asks_no k schema s) = P s
Holds P R (contains s least most) = P s
Holds P R (condition s t e) = P s × IfSome t P × IfSome e P
Holds P R (reference r s) = R s

-- the same of a question's site, and its step leads to places of the value
pub record Sound {S : Type 0} (P R : S → Type 0) (d : Data) (q : Question S) : Type 0 where
  pub within : q.follows ≡ false → P q.site
  pub led : q.follows ≡ true → R q.site
  pub step : Keeps d q.step

module _ {S : Type 0} (P R : S → Type 0) where
  sound : (d : Data) (s : S) (step : Step) (added : List Part) → P s → Keeps d step → Sound P R d (question s step added)
  sound d s step added p k = record { within = λ e. p; led = λ e. cc; step = k }

  sound_here : (d : Data) (s : S) (added : List Part) → P s → Sound P R d (question s stay added)
  sound_here d s added p = sound d s stay added p (stay_keeps d)

  branches : (keyword : List ℕ) (d : Data) (i : ℕ) (ss : List S) → AllByRecursion P ss → AllByRecursion (Sound P R d) (each_branch keyword i ss)
  branches keyword d i [] h = tt
  branches keyword d i (s ∷ ss) h = (sound_here d s (at_index keyword i) h.0, branches keyword d (suc i) ss h.1)

  by_one : (keyword : List ℕ) (d : Data) (s : S) → P s → (i : ℕ) (ds : Items) → ItemsLie d i ds → AllByRecursion (Sound P R d) (each_item keyword s i ds)
  by_one keyword d s p i no_items h = tt
  by_one keyword d s p i (item e ds) h = (sound d s (to_item i e) (at keyword) p (first_item d e i ds h), by_one keyword d s p (suc i) ds (next_items d e i ds h))

  each_by_index : (keyword : List ℕ) (d : Data) (ss : List S) (i : ℕ) (ds : Items) → AllByRecursion P ss → ItemsLie d i ds → AllByRecursion (Sound P R d) (item_by_item keyword ss i ds)
  each_by_index keyword d [] i ds p h = tt
  each_by_index keyword d (s ∷ ss) i no_items p h = tt
  each_by_index keyword d (s ∷ ss) i (item e ds) p h =
      (sound d s (to_item i e) (at_index keyword i) p.0 (first_item d e i ds h), each_by_index keyword d ss (suc i) ds p.1 (next_items d e i ds h))

  from_start : (keyword : List ℕ) (d : Data) (s : S) (start : ℕ) → P s → AllByRecursion (Sound P R d) (each_item keyword s start (items_from start (items_of d)))
  from_start keyword d s start p = by_one keyword d s p start (items_from start (items_of d)) (items_lie d start)

  if_found : (d : Data) (k : List ℕ) (s : S) (added : List Part) (step : Data → Step) → P s → ((e : Data) → get k d ≡ Some e → Keeps d (step e))
      → (o : Option Data) → get k d ≡ o → AllByRecursion (Sound P R d) (if_member o (λ e. question s (step e) added ∷ []))
  if_found d k s added step p h None is = tt
  if_found d k s added step p h (Some e) is = (sound d s (step e) added p (h e is), tt)

  declared : (keyword : List ℕ) (d : Data) (ps : List (List ℕ × S)) → AllByRecursion (λ p. P p.1) ps → AllByRecursion (Sound P R d) (each_declared keyword d ps)
  declared keyword d ps h =
      each_laid_flat (λ p. P p.1) (Sound P R d) (λ p. if_member (get p.0 d) (λ e. question p.1 (to_member p.0 e) (at_name keyword p.0) ∷ []))
      (λ p g. if_found d p.0 p.1 (at_name keyword p.0) (to_member p.0) g (λ e is. found_keeps p.0 d e is) (get p.0 d) refl) ps h

  triggered : (keyword : List ℕ) (d : Data) (ps : List (List ℕ × S)) → AllByRecursion (λ p. P p.1) ps → AllByRecursion (Sound P R d) (each_triggered keyword d ps)
  triggered keyword d ps h =
      each_laid_flat (λ p. P p.1) (Sound P R d) (λ p. if_member (get p.0 d) (λ e. question p.1 stay (at_name keyword p.0) ∷ []))
      (λ p g. if_found d p.0 p.1 (at_name keyword p.0) (λ e. stay) g (λ e is. stay_keeps d) (get p.0 d) refl) ps h

  each_of_members : (d : Data) (s : S) (added : List Part) → P s → (ms : List (List ℕ × Data)) → AllByRecursion (MemberLies d) ms
      → AllByRecursion (Sound P R d) (map (λ m. question s (to_member m.0 m.1) added) ms)
  each_of_members d s added p ms h =
      each_mapped (MemberLies d) (Sound P R d) (λ m. question s (to_member m.0 m.1) added) (λ m l. sound d s (to_member m.0 m.1) added p l.value) ms h

  matching : (matches : List ℕ → List ℕ → Bool) (keyword : List ℕ) (d : Data) (ps : List (List ℕ × S)) → AllByRecursion (λ p. P p.1) ps
      → AllByRecursion (Sound P R d) (each_matching matches keyword d ps)
  matching matches keyword d ps h =
      each_laid_flat (λ p. P p.1) (Sound P R d)
      (λ p. map (λ m. question p.1 (to_member m.0 m.1) (at_name keyword p.0)) (filter (λ m. matched matches p.0 m.0) (members_of d)))
      (λ p g. each_of_members d p.1 (at_name keyword p.0) g (filter (λ m. matched matches p.0 m.0) (members_of d))
      (each_kept (MemberLies d) (λ m. matched matches p.0 m.0) (members_of d) (members_lie d))) ps h

  others : (matches : List ℕ → List ℕ → Bool) (keyword : List ℕ) (among : Declared) (d : Data) (s : S) → P s
      → AllByRecursion (Sound P R d) (each_member keyword s (other_members matches among d))
  others matches keyword among d s p =
      each_of_members d s (at keyword) p (other_members matches among d)
      (each_kept (MemberLies d) (λ m. not (is_declared matches among m.0)) (members_of d) (members_lie d))

  each_of_names : (added : List Part) (d : Data) (s : S) → P s → (ms : List (List ℕ × Data)) → AllByRecursion (MemberLies d) ms
      → AllByRecursion (Sound P R d) (each_name added s (map (λ m. m.0) ms))
  each_of_names added d s p [] h = tt
  each_of_names added d s p (m ∷ ms) h = (sound d s (to_name m.0) added p h.0.called, each_of_names added d s p ms h.1)

  if_applied : (keyword : List ℕ) (d : Data) (k : List ℕ) (x : Dependency S) → IsApplied P x → AllByRecursion (Sound P R d) (applied keyword k x)
  if_applied keyword d k (needs names) p = tt
  if_applied keyword d k (applies s) p = (sound_here d s (at_name keyword k) p, tt)

  if_there : (keyword : List ℕ) (d : Data) (k : List ℕ) (x : Dependency S) → IsApplied P x → (o : Option Data)
      → AllByRecursion (Sound P R d) (if_member o (λ e. applied keyword k x))
  if_there keyword d k x p None = tt
  if_there keyword d k x p (Some e) = if_applied keyword d k x p

  depended : (keyword : List ℕ) (d : Data) (ps : List (List ℕ × Dependency S)) → AllByRecursion (λ p. IsApplied P p.1) ps
      → AllByRecursion (Sound P R d) (each_dependency keyword d ps)
  depended keyword d ps h =
      each_laid_flat (λ p. IsApplied P p.1) (Sound P R d) (λ p. if_member (get p.0 d) (λ e. applied keyword p.0 p.1))
      (λ p g. if_there keyword d p.0 p.1 g (get p.0 d)) ps h

  counted_items : (d e : Data) (least most : Option ℕ) (qs : List (Question S)) → AllByRecursion (Sound P R e) qs → AllByRecursion (Sound P R e) (asks (counting d least most qs))
  counted_items null e least most qs h = tt
  counted_items (boolean b) e least most qs h = tt
  counted_items (number n) e least most qs h = tt
  counted_items (string s) e least most qs h = tt
  counted_items (array ds) e least most qs h = h
  counted_items (object ms) e least most qs h = tt

  chosen_one : (d : Data) (b : Bool) (keyword : List ℕ) (o : Option S) → IfSome o P → AllByRecursion (λ c. Sound P R d c.1) (consequent b keyword o)
  chosen_one d b keyword None h = tt
  chosen_one d b keyword (Some s) h = (sound_here d s (at keyword) h, tt)

  conditioned : (d : Data) (t e : Option S) → IfSome t P → IfSome e P
      → AllByRecursion (Sound P R d) (consequents (consequent true (codes "then") t ++ consequent false (codes "else") e))
  conditioned d t e g h =
      each_mapped (λ c. Sound P R d c.1) (Sound P R d) (λ c. c.1) (λ c s. s) (consequent true (codes "then") t ++ consequent false (codes "else") e)
      (joined (λ c. Sound P R d c.1) (consequent true (codes "then") t) (consequent false (codes "else") e)
      (chosen_one d true (codes "then") t g) (chosen_one d false (codes "else") e h))

  form_sound : (matches : List ℕ → List ℕ → Bool) (k : List ℕ) (d : Data) (form : Form S) → HoldsIn P form → AllByRecursion (Sound P R d) (asked matches k d form)
  form_sound matches k d (each_from start s) h = from_start k d s start h
  form_sound matches k d (by_index ss) h = each_by_index k d ss 0 (items_of d) h (all_items d)
  form_sound matches k d (by_name ps) h = declared k d ps h
  form_sound matches k d (by_pattern ps) h = matching matches k d ps h
  form_sound matches k d (of_others among s) h = others matches k among d s h
  form_sound matches k d (of_members s) h = each_of_members d s (at k) h (members_of d) (members_lie d)
  form_sound matches k d (of_names s) h = each_of_names (at k) d s h (members_of d) (members_lie d)
  form_sound matches k d (of_triggered ps) h = triggered k d ps h
  form_sound matches k d (of_dependencies ps) h = depended k d ps h
  form_sound matches k d (of_branches ss) h = branches k d 0 ss h
  form_sound matches k d (of_value schema s) h = (sound_here d s (at k) h, tt)
  form_sound matches k d (of_condition s t e) h = (sound_here d s (at k) h.0, conditioned d t e h.1 h.2)

  pub all_sound : (matches : List ℕ → List ℕ → Bool) (d : Data) (k : Shape S) → Holds P R k → AllByRecursion (Sound P R d) (asks (rule matches d k))
  all_sound matches d never h = tt
  all_sound matches d (asserts a) h = tt
  all_sound matches d (asks_every k form) h = form_sound matches k d form h
  all_sound matches d (asks_together k form) h = form_sound matches k d form h
  all_sound matches d (asks_names k s) h = each_of_names (at k) d s h (members_of d) (members_lie d)
  all_sound matches d (asks_some k form) h = form_sound matches k d form h
  all_sound matches d (asks_one k form) h = form_sound matches k d form h
  all_sound matches d (asks_no k schema s) h = (sound_here d s (at k) h, tt)
  all_sound matches d (contains s least most) h =
      counted_items d d least most (each_item (codes "contains") s 0 (items_of d)) (by_one (codes "contains") d s h 0 (items_of d) (all_items d))
  all_sound matches d (condition s t e) h = (sound_here d s (at (codes "if")) h.0, conditioned d t e h.1 h.2)
  all_sound matches d (reference r s) h = (record { within = λ e. cc; led = λ e. h; step = stay_keeps d }, tt)
