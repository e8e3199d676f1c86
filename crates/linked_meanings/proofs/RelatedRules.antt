-- The same keyword over related sites follows the same rule over related questions.
use Rattle.std.proofs.Common.{◌≡◌, ◌++◌, ℕ, suc, codes, List, [], ◌∷◌, Bool, true, false, map, Option, Some, None, refl, ap₂, subst}
use Rattle.std.specs.List.{AllZip, flat_map, filter}
use Rattle.serde_json.specs.Data.{Data, null, boolean, number, string, array, object, Items, no_items, item}
use Rattle.serde_json.specs.Find.{get}
use Rattle.json_values.specs.Patterns.{matched}
use Rattle.json_values.specs.Parts.{Part}
use Rattle.schema_meaning.specs.Places.{Step, stay, to_member}
use Rattle.schema_meaning.specs.Questions.{Question, question, at, at_name, each_branch, items_of, items_from, each_item, item_by_item, members_of, if_member, other_members, names_of}
use Rattle.schema_meaning.specs.Rules.{Note, Rule, every, together, each_named, some_branch, one_branch, refusal, counted, conditional, asks, consequents}
use Rattle.schema_meaning.specs.Keywords.{Form, Shape, asks_every, asks_together, Dependency, needed, applied, consequent, counting, asked, noted, kind_in, value_in, rule}
use Rattle.linked_meanings.specs.Related.{RelatedBeside, RelatedIfAny, RelatedDependency, related_needs, related_applies, RelatedEntry, RelatedForm, related_each_from, related_by_index, related_by_name, related_by_pattern, related_of_others, related_of_members, related_of_names, related_of_triggered, related_of_dependencies, related_of_branches, related_of_value, related_of_condition, RelatedShape, related_never, related_asserts, related_every, related_together, related_names, related_some, related_one, related_no, related_contains, related_condition, related_reference}

-- the same question of related sites
pub data SameQuestion {S T : Type 0} (like : S → T → Type 0) : Question S → Question T → Type 0 where
  same_question : {s : S} {t : T} {step : Step} {added : List Part} {b : Bool} → like s t
      → SameQuestion like (record { site = s; step = step; added = added; follows = b }) (record { site = t; step = step; added = added; follows = b })

pub data SameSide {S T : Type 0} (like : S → T → Type 0) : Bool × Question S → Bool × Question T → Type 0 where
  same_side : {b : Bool} {q : Question S} {r : Question T} → SameQuestion like q r → SameSide like (b, q) (b, r)

pub data SameRule {S T : Type 0} (like : S → T → Type 0) : Rule S → Rule T → Type 0 where
  same_every : {p : List Part} {notes : List Note} {qs : List (Question S)} {rs : List (Question T)} → AllZip (SameQuestion like) qs rs → SameRule like (every p notes qs) (every p notes rs)
  same_together : {p : List Part} {note : Note} {qs : List (Question S)} {rs : List (Question T)} → AllZip (SameQuestion like) qs rs → SameRule like (together p note qs) (together p note rs)
  same_each_named : {p : List Part} {s : S} {t : T} {names : List (List ℕ)} → like s t → SameRule like (each_named p s names) (each_named p t names)
  same_some_branch : {p : List Part} {qs : List (Question S)} {rs : List (Question T)} → AllZip (SameQuestion like) qs rs → SameRule like (some_branch p qs) (some_branch p rs)
  same_one_branch : {p : List Part} {qs : List (Question S)} {rs : List (Question T)} → AllZip (SameQuestion like) qs rs → SameRule like (one_branch p qs) (one_branch p rs)
  same_refusal : {p : List Part} {d : Data} {q : Question S} {r : Question T} → SameQuestion like q r → SameRule like (refusal p d q) (refusal p d r)
  same_counted : {least most : Option ℕ} {qs : List (Question S)} {rs : List (Question T)} → AllZip (SameQuestion like) qs rs → SameRule like (counted least most qs) (counted least most rs)
  same_conditional : {q : Question S} {r : Question T} {cs : List (Bool × Question S)} {es : List (Bool × Question T)} → SameQuestion like q r → AllZip (SameSide like) cs es
      → SameRule like (conditional q cs) (conditional r es)

module _ {S T : Type 0} (like : S → T → Type 0) where
  zip_append : {X Y : Type 0} (P : X → Y → Type 0) (xs : List X) (ys : List Y) (us : List X) (vs : List Y) → AllZip P xs ys → AllZip P us vs → AllZip P (xs ++ us) (ys ++ vs)
  zip_append P [] [] us vs h k = k
  zip_append P [] (y ∷ ys) us vs h k = absurd h
  zip_append P (x ∷ xs) [] us vs h k = absurd h
  zip_append P (x ∷ xs) (y ∷ ys) us vs h k = (h.0, zip_append P xs ys us vs h.1 k)

  branches_related : (keyword : List ℕ) (i : ℕ) (ss : List S) (ts : List T) → AllZip like ss ts → AllZip (SameQuestion like) (each_branch keyword i ss) (each_branch keyword i ts)
  branches_related keyword i [] [] h = tt
  branches_related keyword i [] (t ∷ ts) h = absurd h
  branches_related keyword i (s ∷ ss) [] h = absurd h
  branches_related keyword i (s ∷ ss) (t ∷ ts) h = (same_question h.0, branches_related keyword (suc i) ss ts h.1)

  items_related : (keyword : List ℕ) (s : S) (t : T) → like s t → (i : ℕ) (ds : Items) → AllZip (SameQuestion like) (each_item keyword s i ds) (each_item keyword t i ds)
  items_related keyword s t h i no_items = tt
  items_related keyword s t h i (item d ds) = (same_question h, items_related keyword s t h (suc i) ds)

  by_item_related : (keyword : List ℕ) (ss : List S) (ts : List T) → AllZip like ss ts → (i : ℕ) (ds : Items)
      → AllZip (SameQuestion like) (item_by_item keyword ss i ds) (item_by_item keyword ts i ds)
  by_item_related keyword [] [] h i ds = tt
  by_item_related keyword [] (t ∷ ts) h i ds = absurd h
  by_item_related keyword (s ∷ ss) [] h i ds = absurd h
  by_item_related keyword (s ∷ ss) (t ∷ ts) h i no_items = tt
  by_item_related keyword (s ∷ ss) (t ∷ ts) h i (item d ds) = (same_question h.0, by_item_related keyword ss ts h.1 (suc i) ds)

  -- what is made of each entry of a list is related where it is for related entries
  entries_related : {X Y : Type 0} (P : X → Y → Type 0) (f : X → List (Question S)) (g : Y → List (Question T)) → ((x : X) (y : Y) → P x y → AllZip (SameQuestion like) (f x) (g y))
      → (xs : List X) (ys : List Y) → AllZip P xs ys → AllZip (SameQuestion like) (flat_map f xs) (flat_map g ys)
  entries_related P f g e [] [] h = tt
  entries_related P f g e [] (y ∷ ys) h = absurd h
  entries_related P f g e (x ∷ xs) [] h = absurd h
  entries_related P f g e (x ∷ xs) (y ∷ ys) h = zip_append (SameQuestion like) (f x) (g y) _ _ (e x y h.0) (entries_related P f g e xs ys h.1)

  mapped_related : {X : Type 0} (f : X → Question S) (g : X → Question T) → ((x : X) → SameQuestion like (f x) (g x)) → (xs : List X) → AllZip (SameQuestion like) (map f xs) (map g xs)
  mapped_related f g e [] = tt
  mapped_related f g e (x ∷ xs) = (e x, mapped_related f g e xs)

  if_member_related : (o : Option Data) (f : Data → List (Question S)) (g : Data → List (Question T)) → ((e : Data) → AllZip (SameQuestion like) (f e) (g e))
      → AllZip (SameQuestion like) (if_member o f) (if_member o g)
  if_member_related None f g h = tt
  if_member_related (Some e) f g h = h e

  declared_related : (keyword : List ℕ) (d : Data) (p : List ℕ × S) (q : List ℕ × T) → RelatedBeside like p q
      → AllZip (SameQuestion like) (if_member (get p.0 d) (λ e. question p.1 (to_member p.0 e) (at_name keyword p.0) ∷ [])) (if_member (get q.0 d) (λ e. question q.1 (to_member q.0 e) (at_name keyword q.0) ∷ []))
  declared_related keyword d p q h =
      let P : List ℕ → Type 0 = λ k. AllZip (SameQuestion like) (if_member (get p.0 d) (λ e. question p.1 (to_member p.0 e) (at_name keyword p.0) ∷ [])) (if_member (get k d) (λ e. question q.1 (to_member k e) (at_name keyword k) ∷ [])) in
      subst P h.0 (if_member_related (get p.0 d) _ _ (λ e. (same_question h.1, tt)))

  triggered_related : (keyword : List ℕ) (d : Data) (p : List ℕ × S) (q : List ℕ × T) → RelatedBeside like p q
      → AllZip (SameQuestion like) (if_member (get p.0 d) (λ e. question p.1 stay (at_name keyword p.0) ∷ [])) (if_member (get q.0 d) (λ e. question q.1 stay (at_name keyword q.0) ∷ []))
  triggered_related keyword d p q h =
      let P : List ℕ → Type 0 = λ k. AllZip (SameQuestion like) (if_member (get p.0 d) (λ e. question p.1 stay (at_name keyword p.0) ∷ [])) (if_member (get k d) (λ e. question q.1 stay (at_name keyword k) ∷ [])) in
      subst P h.0 (if_member_related (get p.0 d) _ _ (λ e. (same_question h.1, tt)))

  matching_related : (matches : List ℕ → List ℕ → Bool) (keyword : List ℕ) (d : Data) (p : List ℕ × S) (q : List ℕ × T) → RelatedBeside like p q
      → AllZip (SameQuestion like) (map (λ m. question p.1 (to_member m.0 m.1) (at_name keyword p.0)) (filter (λ m. matched matches p.0 m.0) (members_of d)))
      (map (λ m. question q.1 (to_member m.0 m.1) (at_name keyword q.0)) (filter (λ m. matched matches q.0 m.0) (members_of d)))
  matching_related matches keyword d p q h =
      let P : List ℕ → Type 0 = λ k. AllZip (SameQuestion like) (map (λ m. question p.1 (to_member m.0 m.1) (at_name keyword p.0)) (filter (λ m. matched matches p.0 m.0) (members_of d)))
      (map (λ m. question q.1 (to_member m.0 m.1) (at_name keyword k)) (filter (λ m. matched matches k m.0) (members_of d))) in
      subst P h.0 (mapped_related _ _ (λ m. same_question h.1) (filter (λ m. matched matches p.0 m.0) (members_of d)))

  applied_related : (keyword k : List ℕ) (x : Dependency S) (y : Dependency T) → RelatedDependency like x y → AllZip (SameQuestion like) (applied keyword k x) (applied keyword k y)
  applied_related keyword k x y related_needs = tt
  applied_related keyword k x y (related_applies h) = (same_question h, tt)

  entry_related : (keyword : List ℕ) (d : Data) (p : List ℕ × Dependency S) (q : List ℕ × Dependency T) → RelatedEntry like p q
      → AllZip (SameQuestion like) (if_member (get p.0 d) (λ e. applied keyword p.0 p.1)) (if_member (get q.0 d) (λ e. applied keyword q.0 q.1))
  entry_related keyword d p q h =
      let P : List ℕ → Type 0 = λ k. AllZip (SameQuestion like) (if_member (get p.0 d) (λ e. applied keyword p.0 p.1)) (if_member (get k d) (λ e. applied keyword k q.1)) in
      subst P h.0 (if_member_related (get p.0 d) _ _ (λ e. applied_related keyword p.0 p.1 q.1 h.1))

  needed_same : (d : Data) (x : Dependency S) (y : Dependency T) → RelatedDependency like x y → needed d x ≡ needed d y
  needed_same d x y related_needs = refl
  needed_same d x y (related_applies h) = refl

  notes_same : (d : Data) (ps : List (List ℕ × Dependency S)) (qs : List (List ℕ × Dependency T)) → AllZip (RelatedEntry like) ps qs
      → flat_map (λ p. if_member (get p.0 d) (λ e. needed d p.1)) ps ≡ flat_map (λ q. if_member (get q.0 d) (λ e. needed d q.1)) qs
  notes_same d [] [] h = refl
  notes_same d [] (q ∷ qs) h = absurd h
  notes_same d (p ∷ ps) [] h = absurd h
  notes_same d (p ∷ ps) (q ∷ qs) h =
      ap₂ (λ xs ys. xs ++ ys) (ap₂ (λ k n. if_member (get k d) (λ e. n)) h.0.0 (needed_same d p.1 q.1 h.0.1)) (notes_same d ps qs h.1)

  consequent_related : (b : Bool) (keyword : List ℕ) (x : Option S) (y : Option T) → RelatedIfAny like x y → AllZip (SameSide like) (consequent b keyword x) (consequent b keyword y)
  consequent_related b keyword None None h = tt
  consequent_related b keyword None (Some t) h = absurd h
  consequent_related b keyword (Some s) None h = absurd h
  consequent_related b keyword (Some s) (Some t) h = (same_side (same_question h), tt)

  sides_related : (a c : Option S) (b d : Option T) → RelatedIfAny like a b → RelatedIfAny like c d
      → AllZip (SameSide like) (consequent true (codes "then") a ++ consequent false (codes "else") c) (consequent true (codes "then") b ++ consequent false (codes "else") d)
  sides_related a c b d x y = zip_append (SameSide like) _ _ _ _ (consequent_related true (codes "then") a b x) (consequent_related false (codes "else") c d y)

  pub consequents_related : (cs : List (Bool × Question S)) (es : List (Bool × Question T)) → AllZip (SameSide like) cs es → AllZip (SameQuestion like) (consequents cs) (consequents es)
  consequents_related [] [] h = tt
  consequents_related [] (e ∷ es) h = absurd h
  consequents_related (c ∷ cs) [] h = absurd h
  consequents_related (c ∷ cs) (e ∷ es) h = (question_of c e h.0, consequents_related cs es h.1)
    where
      question_of : (c : Bool × Question S) (e : Bool × Question T) → SameSide like c e → SameQuestion like c.1 e.1
      question_of c e (same_side q) = q

  counting_related : (d : Data) (least most : Option ℕ) (qs : List (Question S)) (rs : List (Question T)) → AllZip (SameQuestion like) qs rs → SameRule like (counting d least most qs) (counting d least most rs)
  counting_related null least most qs rs h = same_every tt
  counting_related (boolean b) least most qs rs h = same_every tt
  counting_related (number n) least most qs rs h = same_every tt
  counting_related (string s) least most qs rs h = same_every tt
  counting_related (array ds) least most qs rs h = same_counted h
  counting_related (object ms) least most qs rs h = same_every tt

  -- ---- of each form: the same questions of related sites, and the same notes

  asked_related : (matches : List ℕ → List ℕ → Bool) (k : List ℕ) (d : Data) (f : Form S) (g : Form T) → RelatedForm like f g
      → AllZip (SameQuestion like) (asked matches k d f) (asked matches k d g)
  asked_related matches k d f g (related_each_from {n} {s} {t} l) = items_related k s t l n (items_from n (items_of d))
  asked_related matches k d f g (related_by_index {ss} {ts} l) = by_item_related k ss ts l 0 (items_of d)
  asked_related matches k d f g (related_by_name {ps} {qs} l) = entries_related (RelatedBeside like) _ _ (declared_related k d) ps qs l
  asked_related matches k d f g (related_by_pattern {ps} {qs} l) = entries_related (RelatedBeside like) _ _ (matching_related matches k d) ps qs l
  asked_related matches k d f g (related_of_others {declared} l) = mapped_related _ _ (λ m. same_question l) (other_members matches declared d)
  asked_related matches k d f g (related_of_members l) = mapped_related _ _ (λ m. same_question l) (members_of d)
  asked_related matches k d f g (related_of_names l) = mapped_related _ _ (λ n. same_question l) (names_of d)
  asked_related matches k d f g (related_of_triggered {ps} {qs} l) = entries_related (RelatedBeside like) _ _ (triggered_related k d) ps qs l
  asked_related matches k d f g (related_of_dependencies {ps} {qs} l) = entries_related (RelatedEntry like) _ _ (entry_related k d) ps qs l
  asked_related matches k d f g (related_of_branches {ss} {ts} l) = branches_related k 0 ss ts l
  asked_related matches k d f g (related_of_value l) = (same_question l, tt)
  asked_related matches k d f g (related_of_condition {a} {c} {b} {d = e} l x y) = (same_question l, consequents_related _ _ (sides_related a c b e x y))

  noted_same : (d : Data) (f : Form S) (g : Form T) → RelatedForm like f g → noted f d ≡ noted g d
  noted_same d f g (related_each_from l) = refl
  noted_same d f g (related_by_index l) = refl
  noted_same d f g (related_by_name l) = refl
  noted_same d f g (related_by_pattern l) = refl
  noted_same d f g (related_of_others l) = refl
  noted_same d f g (related_of_members l) = refl
  noted_same d f g (related_of_names l) = refl
  noted_same d f g (related_of_triggered l) = refl
  noted_same d f g (related_of_dependencies {ps} {qs} l) = notes_same d ps qs l
  noted_same d f g (related_of_branches l) = refl
  noted_same d f g (related_of_value l) = refl
  noted_same d f g (related_of_condition l x y) = refl

  -- the one note that speaks for all
  abbrev spoken : {U : Type 0} → (List ℕ → List ℕ → Bool) → Data → Form U → Note
  spoken matches d form = record { kind = kind_in matches form d; value = value_in form d }

  spoken_same : (matches : List ℕ → List ℕ → Bool) (d : Data) (f : Form S) (g : Form T) → RelatedForm like f g → spoken matches d f ≡ spoken matches d g
  spoken_same matches d f g (related_each_from l) = refl
  spoken_same matches d f g (related_by_index l) = refl
  spoken_same matches d f g (related_by_name l) = refl
  spoken_same matches d f g (related_by_pattern l) = refl
  spoken_same matches d f g (related_of_others l) = refl
  spoken_same matches d f g (related_of_members l) = refl
  spoken_same matches d f g (related_of_names l) = refl
  spoken_same matches d f g (related_of_triggered l) = refl
  spoken_same matches d f g (related_of_dependencies l) = refl
  spoken_same matches d f g (related_of_branches l) = refl
  spoken_same matches d f g (related_of_value l) = refl
  spoken_same matches d f g (related_of_condition l x y) = refl

  pub rule_related : (matches : List ℕ → List ℕ → Bool) (d : Data) (k : Shape S) (h : Shape T) → RelatedShape like k h → SameRule like (rule matches d k) (rule matches d h)
  rule_related matches d k h related_never = same_every tt
  rule_related matches d k h related_asserts = same_every tt
  rule_related matches d k h (related_every {k = keyword} {f} {g} l) =
      subst (λ ns. SameRule like (rule matches d (asks_every keyword f)) (every (at keyword) ns (asked matches keyword d g))) (noted_same d f g l)
      (same_every (asked_related matches keyword d f g l))
  rule_related matches d k h (related_together {k = keyword} {f} {g} l) =
      subst (λ note. SameRule like (rule matches d (asks_together keyword f)) (together (at keyword) note (asked matches keyword d g))) (spoken_same matches d f g l)
      (same_together (asked_related matches keyword d f g l))
  rule_related matches d k h (related_names l) = same_each_named l
  rule_related matches d k h (related_some {k = keyword} {f} {g} l) = same_some_branch (asked_related matches keyword d f g l)
  rule_related matches d k h (related_one {k = keyword} {f} {g} l) = same_one_branch (asked_related matches keyword d f g l)
  rule_related matches d k h (related_no l) = same_refusal (same_question l)
  rule_related matches d k h (related_contains {s} {t} {least} {most} l) = counting_related d least most _ _ (items_related (codes "contains") s t l 0 (items_of d))
  rule_related matches d k h (related_condition {a} {c} {b} {d = e} l x y) = same_conditional (same_question l) (sides_related a c b e x y)
  rule_related matches d k h (related_reference l) = same_every (same_question l, tt)

  pub asks_related : (k : Rule S) (h : Rule T) → SameRule like k h → AllZip (SameQuestion like) (asks k) (asks h)
  asks_related k h (same_every l) = l
  asks_related k h (same_together l) = l
  asks_related k h (same_each_named {p} {s} {t} {names} l) = mapped_related _ _ (λ n. same_question l) names
  asks_related k h (same_some_branch l) = l
  asks_related k h (same_one_branch l) = l
  asks_related k h (same_refusal l) = (l, tt)
  asks_related k h (same_counted l) = l
  asks_related k h (same_conditional {q} {r} {cs} {es} l m) = (l, consequents_related cs es m)
