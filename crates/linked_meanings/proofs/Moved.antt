-- The same faults with their schema paths moved: what related readings tell where the one's schema paths are moved to the other's.
use Rattle.std.proofs.Common.{◌≡◌, ◌==◌, ◌++◌, ℕ, zero, suc, List, [], ◌∷◌, Bool, true, false, not, ◌&&◌, map, Option, Some, None, option_map, refl, sym, ap, ap₂, ◌∙◌, subst}
use Rattle.std.specs.List.{filter, flat_map}
use Rattle.serde_json.specs.Data.{Data, null, boolean, number, string, array, object}
use Rattle.serde_json.specs.Find.{get}
use Rattle.json_values.specs.Parts.{Part, name, index}
use Rattle.schema_meaning.specs.Members.{all_true, some_true, count_true, known_too, all_known}
use Rattle.schema_meaning.specs.Places.{Spot}
use Rattle.schema_meaning.specs.Faults.{Fault, fault, Kind, AnyOf, Contains, Not, Required, Faults, none, also, joined, join, is_none, Branches, branch, branches_of}
use Rattle.schema_meaning.specs.Questions.{Question, asked_at, at, if_member}
use Rattle.schema_meaning.specs.Rules.{Note, Rule, every, together, each_named, some_branch, one_branch, refusal, counted, conditional, asks, faults, own_fault, own_faults, one_fault, of_object, each_of_object, one_of_kind, is_enough, is_few, count_refused_at, chosen}
use Rattle.schema_meaning.specs.Keywords.{Assertion, types, constant, enumeration, multiple_of, maximum, exclusive_maximum, minimum, exclusive_minimum, maximum_of_draft_4, minimum_of_draft_4, max_length, min_length, pattern, max_items, min_items, unique_items, max_properties, min_properties, required, dependent_required, Form, each_from, by_index, by_name, by_pattern, of_others, of_members, of_names, of_triggered, of_dependencies, of_branches, of_value, of_condition, Shape, never, asserts, asks_every, asks_together, asks_names, asks_some, asks_one, asks_no, contains, condition, reference, Dependency, needs, applies, unless, if_object, none_there, missing, missing_beside, wrong, needed, counting, noted, kind_in, rule}
use Rattle.schema_meaning.specs.Readings.{Reading, rules, bags, tell_one, unfolded}
use Rattle.schema_meaning.specs.Order.{SameOrOut}
use Rattle.meaning_laws.proofs.Known.{all_known-through, option_map-twice, option_map-same}
use Rattle.meaning_laws.proofs.Verdicts.{chosen-map}
use Rattle.linked_meanings.specs.Moved.{moved_fault, moved_kind, moved, moved_branches}
use Rattle.linked_meanings.specs.Laws.{AnswerAlikeMoved}
use Rattle.linked_meanings.proofs.RelatedAnswers.{related_alike}

-- ---- what is wrong by the value itself holds no faults

module _ (f : List Part → List Part) where
  abbrev AllStay : List Note → Type 0
  AllStay [] = Unit {0}
  AllStay (note ∷ notes) = (moved_kind f note.kind ≡ note.kind) × AllStay notes

  both_stay : (ms ns : List Note) → AllStay ms → AllStay ns → AllStay (ms ++ ns)
  both_stay [] ns h k = k
  both_stay (m ∷ ms) ns h k = (h.0, both_stay ms ns h.1 k)

  unless_stays : (b : Bool) (k : Kind) (d : Data) → moved_kind f k ≡ k → AllStay (unless b k d)
  unless_stays true k d h = tt
  unless_stays false k d h = (h, tt)

  required_stay : (d : Data) (names : List (List ℕ)) → AllStay (map (λ k. record { kind = Required k; value = d }) names)
  required_stay d [] = tt
  required_stay d (k ∷ names) = (refl, required_stay d names)

  if_object_stays : (d : Data) (notes : List Note) → AllStay notes → AllStay (if_object d notes)
  if_object_stays null notes h = tt
  if_object_stays (boolean b) notes h = tt
  if_object_stays (number n) notes h = tt
  if_object_stays (string s) notes h = tt
  if_object_stays (array ds) notes h = tt
  if_object_stays (object ms) notes h = h

  missing_stay : (names : List (List ℕ)) (d : Data) → AllStay (missing names d)
  missing_stay names d = if_object_stays d _ (required_stay d (filter (λ k. none_there (get k d)) names))

  if_member_stays : (o : Option Data) (notes : List Note) → AllStay notes → AllStay (if_member o (λ e. notes))
  if_member_stays None notes h = tt
  if_member_stays (Some e) notes h = h

  beside_stay : (d : Data) (ps : List (List ℕ × List (List ℕ))) → AllStay (missing_beside ps d)
  beside_stay d [] = tt
  beside_stay d (p ∷ ps) = both_stay _ _ (if_member_stays (get p.0 d) (missing p.1 d) (missing_stay p.1 d)) (beside_stay d ps)

  wrong_stays : (matches : List ℕ → List ℕ → Bool) (a : Assertion) (d : Data) → AllStay (wrong matches a d)
  wrong_stays matches (types ts) d = unless_stays _ _ d refl
  wrong_stays matches (constant e) d = unless_stays _ _ d refl
  wrong_stays matches (enumeration ds) d = unless_stays _ _ d refl
  wrong_stays matches (multiple_of n) d = unless_stays _ _ d refl
  wrong_stays matches (maximum z) d = unless_stays _ _ d refl
  wrong_stays matches (exclusive_maximum z) d = unless_stays _ _ d refl
  wrong_stays matches (minimum z) d = unless_stays _ _ d refl
  wrong_stays matches (exclusive_minimum z) d = unless_stays _ _ d refl
  wrong_stays matches (maximum_of_draft_4 z false) d = unless_stays _ _ d refl
  wrong_stays matches (maximum_of_draft_4 z true) d = unless_stays _ _ d refl
  wrong_stays matches (minimum_of_draft_4 z false) d = unless_stays _ _ d refl
  wrong_stays matches (minimum_of_draft_4 z true) d = unless_stays _ _ d refl
  wrong_stays matches (max_length n) d = unless_stays _ _ d refl
  wrong_stays matches (min_length n) d = unless_stays _ _ d refl
  wrong_stays matches (pattern p) d = unless_stays _ _ d refl
  wrong_stays matches (max_items n) d = unless_stays _ _ d refl
  wrong_stays matches (min_items n) d = unless_stays _ _ d refl
  wrong_stays matches unique_items d = unless_stays _ _ d refl
  wrong_stays matches (max_properties n) d = unless_stays _ _ d refl
  wrong_stays matches (min_properties n) d = unless_stays _ _ d refl
  wrong_stays matches (required names) d = missing_stay names d
  wrong_stays matches (dependent_required ps) d = beside_stay d ps

  -- a keyword's own steps are names
  abbrev AreNames : List Part → Type 0
  AreNames [] = Unit {0}
  AreNames (name k ∷ steps) = AreNames steps
  AreNames (index i ∷ steps) = ⊥

  module _ {S : Type 0} where
    abbrev RuleStays : Rule S → Type 0
    RuleStays (every p notes qs) = AreNames p × AllStay notes
    RuleStays (together p note qs) = AreNames p × (moved_kind f note.kind ≡ note.kind)
    RuleStays (each_named p s names) = Unit {0}
    RuleStays (some_branch p qs) = AreNames p
    RuleStays (one_branch p qs) = AreNames p
    RuleStays (refusal p schema q) = AreNames p
    RuleStays (counted least most qs) = Unit {0}
    RuleStays (conditional q cs) = Unit {0}

    counting_stays : (d : Data) (least most : Option ℕ) (qs : List (Question S)) → RuleStays (counting d least most qs)
    counting_stays null least most qs = (tt, tt)
    counting_stays (boolean b) least most qs = (tt, tt)
    counting_stays (number n) least most qs = (tt, tt)
    counting_stays (string s) least most qs = (tt, tt)
    counting_stays (array ds) least most qs = tt
    counting_stays (object ms) least most qs = (tt, tt)

    needed_stay : (d : Data) (x : Dependency S) → AllStay (needed d x)
    needed_stay d (needs names) = missing_stay names d
    needed_stay d (applies s) = tt

    entries_stay : (d : Data) (ps : List (List ℕ × Dependency S)) → AllStay (flat_map (λ p. if_member (get p.0 d) (λ e. needed d p.1)) ps)
    entries_stay d [] = tt
    entries_stay d (p ∷ ps) = both_stay _ _ (if_member_stays (get p.0 d) (needed d p.1) (needed_stay d p.1)) (entries_stay d ps)

    noted_stay : (d : Data) (form : Form S) → AllStay (noted form d)
    noted_stay d (each_from n s) = tt
    noted_stay d (by_index ss) = tt
    noted_stay d (by_name ps) = tt
    noted_stay d (by_pattern ps) = tt
    noted_stay d (of_others declared s) = tt
    noted_stay d (of_members s) = tt
    noted_stay d (of_names s) = tt
    noted_stay d (of_triggered ps) = tt
    noted_stay d (of_dependencies ps) = entries_stay d ps
    noted_stay d (of_branches ss) = tt
    noted_stay d (of_value e s) = tt
    noted_stay d (of_condition s a c) = tt

    kind_stays : (matches : List ℕ → List ℕ → Bool) (d : Data) (form : Form S) → moved_kind f (kind_in matches form d) ≡ kind_in matches form d
    kind_stays matches d (each_from n s) = refl
    kind_stays matches d (by_index ss) = refl
    kind_stays matches d (by_name ps) = refl
    kind_stays matches d (by_pattern ps) = refl
    kind_stays matches d (of_others declared s) = refl
    kind_stays matches d (of_members s) = refl
    kind_stays matches d (of_names s) = refl
    kind_stays matches d (of_triggered ps) = refl
    kind_stays matches d (of_dependencies ps) = refl
    kind_stays matches d (of_branches ss) = refl
    kind_stays matches d (of_value e s) = refl
    kind_stays matches d (of_condition s a c) = refl

    rule_stays : (matches : List ℕ → List ℕ → Bool) (d : Data) (k : Shape S) → RuleStays (rule matches d k)
    rule_stays matches d never = (tt, (refl, tt))
    rule_stays matches d (asserts a) = (tt, wrong_stays matches a d)
    rule_stays matches d (asks_every k form) = (tt, noted_stay d form)
    rule_stays matches d (asks_together k form) = (tt, kind_stays matches d form)
    rule_stays matches d (asks_names k s) = tt
    rule_stays matches d (asks_some k form) = tt
    rule_stays matches d (asks_one k form) = tt
    rule_stays matches d (asks_no k e s) = tt
    rule_stays matches d (contains s least most) = counting_stays d least most _
    rule_stays matches d (condition s a c) = tt
    rule_stays matches d (reference k s) = (tt, tt)

-- ---- what is told of moved answers

module _ (f : List Part → List Part) where
  moved_joined : (fs gs : Faults) → moved f (joined fs gs) ≡ joined (moved f fs) (moved f gs)
  moved_joined none gs = refl
  moved_joined (also x fs) gs = ap (also (moved_fault f x)) (moved_joined fs gs)

  moved_join : (xs : List Faults) → moved f (join xs) ≡ join (map (moved f) xs)
  moved_join [] = refl
  moved_join (x ∷ xs) = moved_joined x (join xs) ∙ ap (joined (moved f x)) (moved_join xs)

  moved_none : (fs : Faults) → is_none fs ≡ is_none (moved f fs)
  moved_none none = refl
  moved_none (also x fs) = refl

  moved_verdicts : (xs : List Faults) → map is_none xs ≡ map is_none (map (moved f) xs)
  moved_verdicts [] = refl
  moved_verdicts (x ∷ xs) = ap₂ (λ b bs. b ∷ bs) (moved_none x) (moved_verdicts xs)

  branches_moved : (xs : List Faults) → moved_branches f (branches_of xs) ≡ branches_of (map (moved f) xs)
  branches_moved [] = refl
  branches_moved (x ∷ xs) = ap (branch (moved f x)) (branches_moved xs)

  moved_one : (b : Bool) (x : Fault) → moved f (one_fault b x) ≡ one_fault b (moved_fault f x)
  moved_one true x = refl
  moved_one false x = refl

  moved_object : (w : Spot) (x : Fault) → moved_fault f (of_object w x) ≡ of_object w (moved_fault f x)
  moved_object w (fault k d i s e) = refl

  moved_each : (w : Spot) (fs : Faults) → moved f (each_of_object w fs) ≡ each_of_object w (moved f fs)
  moved_each w none = refl
  moved_each w (also x fs) = ap₂ also (moved_object w x) (moved_each w fs)

  one_of_moved : (n : ℕ) (bs : Branches) → moved_kind f (one_of_kind n bs) ≡ one_of_kind n (moved_branches f bs)
  one_of_moved zero bs = refl
  one_of_moved (suc n) bs = refl

  module _ (under : (k : List ℕ) (p : List Part) → f (name k ∷ p) ≡ name k ∷ f p) where
    under_names : (steps p : List Part) → AreNames f steps → f (steps ++ p) ≡ steps ++ f p
    under_names [] p h = refl
    under_names (name k ∷ steps) p h = under k (steps ++ p) ∙ ap (λ q. name k ∷ q) (under_names steps p h)
    under_names (index i ∷ steps) p h = absurd h

    own_moved : (w : Spot) (p steps : List Part) (k l : Kind) (d : Data) → AreNames f steps → moved_kind f k ≡ l
        → moved_fault f (own_fault w p steps (record { kind = k; value = d })) ≡ own_fault w (f p) steps (record { kind = l; value = d })
    own_moved w p steps k l d names h = ap₂ (λ x s. fault x d w.path s (steps ++ w.road)) h (under_names steps p names)

    notes_moved : (w : Spot) (p steps : List Part) → AreNames f steps → (notes : List Note) → AllStay f notes → moved f (own_faults w p steps notes) ≡ own_faults w (f p) steps notes
    notes_moved w p steps names [] h = refl
    notes_moved w p steps names (note ∷ notes) h = ap₂ also (own_moved w p steps note.kind note.kind note.value names h.0) (notes_moved w p steps names notes h.1)

    one_moved : (b c : Bool) (x y : Fault) → b ≡ c → moved_fault f x ≡ y → moved f (one_fault b x) ≡ one_fault c y
    one_moved b c x y e h = moved_one b x ∙ ap₂ one_fault e h

    rule_moved : {S : Type 0} (k : Rule S) → RuleStays f k → (w : Spot) (p : List Part) (xs : List Faults) → moved f (faults k w p xs) ≡ faults k w (f p) (map (moved f) xs)
    rule_moved (every steps notes qs) h w p xs = moved_joined _ (join xs) ∙ ap₂ joined (notes_moved w p steps h.0 notes h.1) (moved_join xs)
    rule_moved (together steps note qs) h w p xs = one_moved _ _ _ _ (ap all_true (moved_verdicts xs)) (own_moved w p steps note.kind note.kind note.value h.0 h.1)
    rule_moved (each_named steps s names) h w p xs = moved_each w (join xs) ∙ ap (each_of_object w) (moved_join xs)
    rule_moved (some_branch steps qs) h w p xs =
        one_moved _ _ _ _ (ap some_true (moved_verdicts xs)) (own_moved w p steps (AnyOf (branches_of xs)) (AnyOf (branches_of (map (moved f) xs))) w.value h (ap AnyOf (branches_moved xs)))
    rule_moved (one_branch steps qs) h w p xs =
        let n = ap count_true (moved_verdicts xs) in
        one_moved _ _ _ _ (ap (λ i. i == 1) n) (own_moved w p steps (one_of_kind (count_true (map is_none xs)) (branches_of xs))
        (one_of_kind (count_true (map is_none (map (moved f) xs))) (branches_of (map (moved f) xs))) w.value h
        (one_of_moved (count_true (map is_none xs)) (branches_of xs) ∙ ap₂ one_of_kind n (branches_moved xs)))
    rule_moved (refusal steps schema q) h w p xs =
        one_moved _ _ _ _ (ap (λ bs. not (all_true bs)) (moved_verdicts xs)) (own_moved w p steps (Not schema) (Not schema) w.value h refl)
    rule_moved (counted least most qs) h w p xs =
        moved_one _ _ ∙ ap (one_fault _) (own_moved w p (at (count_refused_at least most (count_true (map is_none xs)))) Contains Contains w.value tt refl)
        ∙ ap (λ bs. one_fault (is_enough least (count_true bs) && is_few most (count_true bs)) (own_fault w (f p) (at (count_refused_at least most (count_true bs))) (record { kind = Contains; value = w.value })))
        (moved_verdicts xs)
    rule_moved (conditional q cs) h w p [] = refl
    rule_moved (conditional q cs) h w p (x ∷ xs) =
        moved_join (chosen (is_none x) cs xs) ∙ ap join (chosen-map (moved f) (is_none x) cs xs) ∙ ap (λ b. join (chosen b cs (map (moved f) xs))) (moved_none x)

    -- ---- the reading with its schema paths moved

    abbrev moved_reading : {S : Type 0} → Reading S → Reading S
    moved_reading r = record r { schema_path = λ s. f (r.schema_path s) }

    known_moved : (o : Option Faults) (os : Option (List Faults)) → option_map (map (moved f)) (known_too o os) ≡ known_too (option_map (moved f) o) (option_map (map (moved f)) os)
    known_moved None os = refl
    known_moved (Some x) None = refl
    known_moved (Some x) (Some xs) = refl

    module _ {S : Type 0} (matches : List ℕ → List ℕ → Bool) (w : Spot) (p : List Part) (ask : Question S → Option Faults) (again : Question S → Option Faults)
        (each : (q : Question S) → option_map (moved f) (ask q) ≡ again q) where
      one_told : (k : Rule S) → RuleStays f k → option_map (moved f) (tell_one bags w p ask k) ≡ tell_one bags w (f p) again k
      one_told k h =
          option_map-twice (faults k w p) (moved f) (all_known (map ask (asks k)))
          ∙ option_map-same _ _ (rule_moved k h w p) (all_known (map ask (asks k)))
          ∙ sym (option_map-twice (map (moved f)) (faults k w (f p)) (all_known (map ask (asks k))))
          ∙ ap (option_map (faults k w (f p))) (all_known-through (moved f) ask again each (asks k))

      all_told : (d : Data) (ks : List (Shape S)) → option_map (map (moved f)) (all_known (map (tell_one bags w p ask) (map (rule matches d) ks))) ≡ all_known (map (tell_one bags w (f p) again) (map (rule matches d) ks))
      all_told d [] = refl
      all_told d (k ∷ ks) =
          known_moved (tell_one bags w p ask (rule matches d k)) _ ∙ ap₂ known_too (one_told (rule matches d k) (rule_stays f matches d k)) (all_told d ks)

    pub moved_unfolded : {S : Type 0} (r : Reading S) (n : ℕ) (s : S) (w : Spot) → option_map (moved f) (unfolded bags r n s w) ≡ unfolded bags (moved_reading r) n s w
    unfolding unfolded
    moved_unfolded r zero s w = refl
    moved_unfolded {S} r (suc n) s w =
        let ask : Question S → Option Faults = λ q. unfolded bags r n q.site (asked_at w q) in
        let again : Question S → Option Faults = λ q. unfolded bags (moved_reading r) n q.site (asked_at w q) in
        let told = all_known (map (tell_one bags w (r.schema_path s) ask) (rules r s w.value)) in
        option_map-twice join (moved f) told ∙ option_map-same _ _ moved_join told ∙ sym (option_map-twice (map (moved f)) join told)
        ∙ ap (option_map join) (all_told r.matches w (r.schema_path s) ask again (λ q. moved_unfolded r n q.site (asked_at w q)) w.value (r.keywords s))

pub related_alike_moved : {S T : Type 0} (like : S → T → Type 0) → AnswerAlikeMoved like
related_alike_moved like r u above related paths n s t w h =
    let f : List Part → List Part = λ p. p ++ above in
    let under : (k : List ℕ) (p : List Part) → f (name k ∷ p) ≡ name k ∷ f p = λ k p. refl in
    subst (λ o. SameOrOut o (unfolded bags u n t w)) (sym (moved_unfolded f under r n s w))
    ((related_alike like (moved_reading f under r) u (record { matches = related.matches; keywords = related.keywords; paths = paths }) n s t w h).1)
