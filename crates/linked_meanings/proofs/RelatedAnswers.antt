-- Related readings answer alike, whatever order their keywords stand in.
use Rattle.std.proofs.Common.{◌≡◌, ◌==◌, ◌++◌, ℕ, zero, suc, List, [], ◌∷◌, Bool, true, false, not, ◌&&◌, map, Option, refl, sym, ap, ap₂, ◌∙◌, subst}
use Rattle.std.specs.List.{AllZip}
use Rattle.serde_json.specs.Data.{Data}
use Rattle.schema_meaning.specs.Members.{all_true, some_true, count_true, Reordered, nothing_left, kept, exchanged, in_turn}
use Rattle.json_values.specs.Parts.{Part}
use Rattle.schema_meaning.specs.Places.{Spot}
use Rattle.schema_meaning.specs.Faults.{Fault, Kind, Contains, OneOfMultipleValid, OneOfNotValid, Faults, join, is_none, Branches, branches_of}
use Rattle.schema_meaning.specs.Questions.{Question, asked_at, at}
use Rattle.schema_meaning.specs.Rules.{Note, Rule, asks, accepts, faults, own_fault, own_faults, one_fault, of_object, each_of_object, one_of_kind, is_enough, is_few, count_refused_at, chosen, if_same, faults_chosen}
use Rattle.schema_meaning.specs.Keywords.{Shape, rule}
use Rattle.schema_meaning.specs.Readings.{Reading, rules, Telling, verdicts, bags, tell_one, tell, unfolded}
use Rattle.linked_meanings.specs.Related.{RelatedShape, AreRelatedButForPaths, but_for_paths}
use Rattle.linked_meanings.specs.Laws.{AnswerAlike, AnswerAlikeButForPaths}
use Rattle.linked_meanings.proofs.Alike.{Alike, alike_all, alike_map, alike_trans, reordered_known, mapped_reordered, alike_is}
use Rattle.linked_meanings.proofs.NearFaults.{NearFault, near_fault, NearKind, near_kind, near_any_of, near_one_of_none, near_one_of_many, near_names, NearFaults, near_none, near_also, near_swapped, near_by_way_of, NearBranches, near_no_branch, near_branch, faults_near, joined_near, joined_swap, none_near, same_or_out, unplaced_or_out}
use Rattle.linked_meanings.proofs.RelatedRules.{SameQuestion, same_question, SameSide, same_side, SameRule, same_every, same_together, same_each_named, same_some_branch, same_one_branch, same_refusal, same_counted, same_conditional, rule_related, asks_related}

-- ---- verdicts

pub all_same : (xs ys : List Bool) → AllZip (λ x y. x ≡ y) xs ys → xs ≡ ys
all_same [] [] h = refl
all_same [] (y ∷ ys) h = absurd h
all_same (x ∷ xs) [] h = absurd h
all_same (x ∷ xs) (y ∷ ys) h = ap₂ (λ z zs. z ∷ zs) h.0 (all_same xs ys h.1)

module _ {S T : Type 0} (like : S → T → Type 0) where
  side_of : (c : Bool × Question S) (e : Bool × Question T) → SameSide like c e → c.0 ≡ e.0
  side_of c e (same_side q) = refl

  chosen_related : {A : Type 0} (b : Bool) (cs : List (Bool × Question S)) (es : List (Bool × Question T)) → AllZip (SameSide like) cs es → (xs : List A) → chosen b cs xs ≡ chosen b es xs
  chosen_related b [] [] h xs = refl
  chosen_related b [] (e ∷ es) h xs = absurd h
  chosen_related b (c ∷ cs) [] h xs = absurd h
  chosen_related b (c ∷ cs) (e ∷ es) h [] = refl
  chosen_related b (c ∷ cs) (e ∷ es) h (x ∷ xs) = ap₂ (λ s ys. if_same b s x ys) (side_of c e h.0) (chosen_related b cs es h.1 xs)

  pub accepts_related : (k : Rule S) (h : Rule T) → SameRule like k h → (bs : List Bool) → accepts k bs ≡ accepts h bs
  accepts_related k h (same_every l) bs = refl
  accepts_related k h (same_together l) bs = refl
  accepts_related k h (same_each_named l) bs = refl
  accepts_related k h (same_some_branch l) bs = refl
  accepts_related k h (same_one_branch l) bs = refl
  accepts_related k h (same_refusal l) bs = refl
  accepts_related k h (same_counted l) bs = refl
  accepts_related k h (same_conditional {q} {r} {cs} {es} l m) [] = refl
  accepts_related k h (same_conditional {q} {r} {cs} {es} l m) (b ∷ bs) = ap all_true (chosen_related b cs es m bs)

pub all_reordered : (xs ys : List Bool) → Reordered xs ys → all_true xs ≡ all_true ys
all_reordered xs ys nothing_left = refl
all_reordered xs ys (kept {x} {xs = us} {ys = vs} r) = ap (λ b. x && b) (all_reordered us vs r)
all_reordered xs ys (exchanged {x} {y} {xs = us}) = swap_and x y (all_true us)
  where
    swap_and : (a b c : Bool) → (a && (b && c)) ≡ (b && (a && c))
    swap_and true true c = refl
    swap_and true false c = refl
    swap_and false true c = refl
    swap_and false false c = refl
all_reordered xs ys (in_turn {ys = us} r s) = all_reordered xs us r ∙ all_reordered us ys s

-- ---- faults

-- `beside` is what is known of two schema paths: it holds of each path and itself, and of two paths under the same steps
module _ (beside : List Part → List Part → Type 0) (itself : (p : List Part) → beside p p) (under : (steps p q : List Part) → beside p q → beside (steps ++ p) (steps ++ q)) where
  bags_none : (xs ys : List Faults) → AllZip (NearFaults beside) xs ys → map is_none xs ≡ map is_none ys
  bags_none [] [] h = refl
  bags_none [] (y ∷ ys) h = absurd h
  bags_none (x ∷ xs) [] h = absurd h
  bags_none (x ∷ xs) (y ∷ ys) h = ap₂ (λ z zs. z ∷ zs) (none_near beside h.0) (bags_none xs ys h.1)

  pub join_near : (xs ys : List Faults) → AllZip (NearFaults beside) xs ys → NearFaults beside (join xs) (join ys)
  join_near [] [] h = near_none
  join_near [] (y ∷ ys) h = absurd h
  join_near (x ∷ xs) [] h = absurd h
  join_near (x ∷ xs) (y ∷ ys) h = joined_near beside itself h.0 (join_near xs ys h.1)

  pub join_reordered : (xs ys : List Faults) → Reordered xs ys → NearFaults beside (join xs) (join ys)
  join_reordered xs ys nothing_left = near_none
  join_reordered xs ys (kept {x} {xs = us} {ys = vs} r) = joined_near beside itself (faults_near beside itself x) (join_reordered us vs r)
  join_reordered xs ys (exchanged {x} {y} {xs = us}) = joined_swap beside itself x y (join us)
  join_reordered xs ys (in_turn {ys = us} r s) = near_by_way_of (join_reordered xs us r) (join_reordered us ys s)

  branches_near : (xs ys : List Faults) → AllZip (NearFaults beside) xs ys → NearBranches beside (branches_of xs) (branches_of ys)
  branches_near [] [] h = near_no_branch
  branches_near [] (y ∷ ys) h = absurd h
  branches_near (x ∷ xs) [] h = absurd h
  branches_near (x ∷ xs) (y ∷ ys) h = near_branch h.0 (branches_near xs ys h.1)

  one_near : (b c : Bool) (f g : Fault) → b ≡ c → NearFault beside f g → NearFaults beside (one_fault b f) (one_fault c g)
  one_near true true f g e h = near_none
  one_near true false f g e h = cc
  one_near false true f g e h = cc
  one_near false false f g e h = near_also h near_none

  -- a keyword's own fault, at one spot under two schema paths
  own_near : (w : Spot) (p q steps : List Part) (k l : Kind) (d : Data) → beside p q → NearKind beside k l
      → NearFault beside (own_fault w p steps (record { kind = k; value = d })) (own_fault w q steps (record { kind = l; value = d }))
  own_near w p q steps k l d b h = near_fault h (under steps p q b)

  notes_near : (w : Spot) (p q steps : List Part) → beside p q → (notes : List Note) → NearFaults beside (own_faults w p steps notes) (own_faults w q steps notes)
  notes_near w p q steps b [] = near_none
  notes_near w p q steps b (note ∷ notes) = near_also (near_fault near_kind (under steps p q b)) (notes_near w p q steps b notes)

  of_object_near : (w : Spot) (f g : Fault) → NearFault beside f g → NearFault beside (of_object w f) (of_object w g)
  of_object_near w f g (near_fault k b) = near_fault (near_names (near_fault k b)) b

  each_of_object_near : (w : Spot) (fs gs : Faults) → NearFaults beside fs gs → NearFaults beside (each_of_object w fs) (each_of_object w gs)
  each_of_object_near w fs gs near_none = near_none
  each_of_object_near w fs gs (near_also {f} {g} {fs = us} {gs = vs} h r) = near_also (of_object_near w f g h) (each_of_object_near w us vs r)
  each_of_object_near w fs gs near_swapped = near_swapped
  each_of_object_near w fs gs (near_by_way_of {gs = hs} r s) = near_by_way_of (each_of_object_near w fs hs r) (each_of_object_near w hs gs s)

  one_of_near : (n m : ℕ) (bs cs : Branches) → n ≡ m → NearBranches beside bs cs → NearKind beside (one_of_kind n bs) (one_of_kind m cs)
  one_of_near zero m bs cs e h = subst (λ i. NearKind beside (OneOfNotValid bs) (one_of_kind i cs)) e (near_one_of_none h)
  one_of_near (suc n) m bs cs e h = subst (λ i. NearKind beside (OneOfMultipleValid bs) (one_of_kind i cs)) e (near_one_of_many h)

if_same_zip : {A : Type 0} (P : A → A → Type 0) (b c : Bool) (x y : A) (xs ys : List A) → P x y → AllZip P xs ys → AllZip P (if_same b c x xs) (if_same b c y ys)
if_same_zip P true true x y xs ys h r = (h, r)
if_same_zip P true false x y xs ys h r = r
if_same_zip P false true x y xs ys h r = r
if_same_zip P false false x y xs ys h r = (h, r)

chosen_zip : {S A : Type 0} (P : A → A → Type 0) (b : Bool) (cs : List (Bool × Question S)) (xs ys : List A) → AllZip P xs ys → AllZip P (chosen b cs xs) (chosen b cs ys)
chosen_zip P b [] xs ys h = tt
chosen_zip P b (c ∷ cs) [] [] h = tt
chosen_zip P b (c ∷ cs) [] (y ∷ ys) h = absurd h
chosen_zip P b (c ∷ cs) (x ∷ xs) [] h = absurd h
chosen_zip P b (c ∷ cs) (x ∷ xs) (y ∷ ys) h = if_same_zip P b c.0 x y _ _ h.0 (chosen_zip P b cs xs ys h.1)

module _ {S T : Type 0} (like : S → T → Type 0) (beside : List Part → List Part → Type 0) (itself : (p : List Part) → beside p p)
    (under : (steps p q : List Part) → beside p q → beside (steps ++ p) (steps ++ q)) where
  pub faults_related : (k : Rule S) (h : Rule T) → SameRule like k h → (w : Spot) (p q : List Part) → beside p q → (xs ys : List Faults) → AllZip (NearFaults beside) xs ys
      → NearFaults beside (faults k w p xs) (faults h w q ys)
  faults_related k h (same_every {p = at} {notes} l) w p q b xs ys z = joined_near beside itself (notes_near beside itself under w p q at b notes) (join_near beside itself under xs ys z)
  faults_related k h (same_together l) w p q b xs ys z =
      one_near beside itself under _ _ _ _ (ap all_true (bags_none beside itself under xs ys z)) (near_fault near_kind (under _ p q b))
  faults_related k h (same_each_named l) w p q b xs ys z = each_of_object_near beside itself under w _ _ (join_near beside itself under xs ys z)
  faults_related k h (same_some_branch l) w p q b xs ys z =
      one_near beside itself under _ _ _ _ (ap some_true (bags_none beside itself under xs ys z)) (near_fault (near_any_of (branches_near beside itself under xs ys z)) (under _ p q b))
  faults_related k h (same_one_branch l) w p q b xs ys z =
      let n = ap count_true (bags_none beside itself under xs ys z) in
      one_near beside itself under _ _ _ _ (ap (λ i. i == 1) n) (near_fault (one_of_near beside itself under _ _ _ _ n (branches_near beside itself under xs ys z)) (under _ p q b))
  faults_related k h (same_refusal l) w p q b xs ys z =
      one_near beside itself under _ _ _ _ (ap (λ bs. not (all_true bs)) (bags_none beside itself under xs ys z)) (near_fault near_kind (under _ p q b))
  faults_related k h (same_counted {least} {most} {qs} {rs} l) w p q b xs ys z =
      let own : List Part → List Bool → Faults = λ above bs.
      one_fault (is_enough least (count_true bs) && is_few most (count_true bs)) (own_fault w above (at (count_refused_at least most (count_true bs))) (record { kind = Contains; value = w.value })) in
      subst (λ bs. NearFaults beside (own p (map is_none xs)) (own q bs)) (bags_none beside itself under xs ys z)
      (one_near beside itself under _ _ _ _ refl (own_near beside itself under w p q (at (count_refused_at least most (count_true (map is_none xs)))) Contains Contains w.value b near_kind))
  faults_related k h (same_conditional l m) w p q b [] [] z = near_none
  faults_related k h (same_conditional l m) w p q b [] (y ∷ ys) z = absurd z
  faults_related k h (same_conditional l m) w p q b (x ∷ xs) [] z = absurd z
  faults_related k h (same_conditional {cs} {es} l m) w p q b (x ∷ xs) (y ∷ ys) z =
      let a : chosen (is_none y) es ys ≡ chosen (is_none x) cs ys = sym (chosen_related like (is_none y) cs es m ys) ∙ ap (λ c. chosen c cs ys) (sym (none_near beside z.0)) in
      subst (λ zs. NearFaults beside (faults_chosen cs (x ∷ xs)) (join zs)) (sym a) (join_near beside itself under _ _ (chosen_zip (NearFaults beside) (is_none x) cs xs ys z.1))

-- ---- the readings

module _ {S T : Type 0} (r : Reading S) (u : Reading T) (like : S → T → Type 0) (related : AreRelatedButForPaths r u like) where
  pub rules_related : (d : Data) (ks : List (Shape S)) (hs : List (Shape T)) → AllZip (RelatedShape like) ks hs
      → AllZip (SameRule like) (map (rule r.matches d) ks) (map (rule u.matches d) hs)
  rules_related d [] [] h = tt
  rules_related d [] (x ∷ hs) h = absurd h
  rules_related d (k ∷ ks) [] h = absurd h
  rules_related d (k ∷ ks) (x ∷ hs) h =
      (subst (λ m. SameRule like (rule r.matches d k) (rule m d x)) related.matches (rule_related like r.matches d k x h.0), rules_related d ks hs h.1)

-- whatever is told of a keyword and of all together, if related questions that are answered alike make it alike
module _ {S T A : Type 0} (r : Reading S) (u : Reading T) (like : S → T → Type 0) (related : AreRelatedButForPaths r u like)
    (beside : List Part → List Part → Type 0) (paths : (s : S) (x : T) → like s x → beside (r.schema_path s) (u.schema_path x))
    (t : Telling S A) (v : Telling T A) (alike : A → A → Type 0) (trans : (x y z : A) → alike x y → alike y z → alike x z)
    (of_rules : (k : Rule S) (h : Rule T) → SameRule like k h → (w : Spot) (p q : List Part) → beside p q → (xs ys : List A) → AllZip alike xs ys
    → alike (t.of_rule k w p xs) (v.of_rule h w q ys))
    (of_alls : (xs ys : List A) → AllZip alike xs ys → alike (t.of_all xs) (v.of_all ys))
    (of_turned : (xs ys : List A) → Reordered xs ys → alike (t.of_all xs) (t.of_all ys)) where
  asked_alike : (f : S → Spot → Option A) (g : T → Spot → Option A) → ((s : S) (x : T) (w : Spot) → like s x → Alike alike (f s w) (g x w))
      → (w : Spot) (q : Question S) (p : Question T) → SameQuestion like q p → Alike alike (f q.site (asked_at w q)) (g p.site (asked_at w p))
  asked_alike f g e w q p (same_question {s} {t = x} {step} {added} {b} h) = e s x (asked_at w q) h

  tell_related : (f : S → Spot → Option A) (g : T → Spot → Option A) → ((s : S) (x : T) (w : Spot) → like s x → Alike alike (f s w) (g x w))
      → (w : Spot) (p q : List Part) → beside p q → (ks : List (Rule S)) (hs : List (Rule T)) → AllZip (SameRule like) ks hs
      → Alike alike (tell t w p (λ c. f c.site (asked_at w c)) ks) (tell v w q (λ c. g c.site (asked_at w c)) hs)
  tell_related f g e w p q b ks hs h =
      alike_map (AllZip alike) alike t.of_all v.of_all of_alls _ _
      (alike_all (SameRule like) alike (tell_one t w p (λ c. f c.site (asked_at w c))) (tell_one v w q (λ c. g c.site (asked_at w c)))
      (λ k x l. alike_map (AllZip alike) alike (t.of_rule k w p) (v.of_rule x w q) (of_rules k x l w p q b) _ _
      (alike_all (SameQuestion like) alike (λ (c : Question S). f c.site (asked_at w c)) (λ (c : Question T). g c.site (asked_at w c)) (asked_alike f g e w) (asks k) (asks x) (asks_related like k x l)))
      ks hs h)

  pub unfolded_related : (n : ℕ) (s : S) (x : T) (w : Spot) → like s x → Alike alike (unfolded t r n s w) (unfolded v u n x w)
  unfolding unfolded
  unfolded_related zero s x w h = tt
  unfolded_related (suc n) s x w h =
      let same = related.keywords s x h in
      let f : S → Spot → Option A = unfolded t r n in
      let ask : Question S → Option A = λ q. f q.site (asked_at w q) in
      let turned = alike_map Reordered alike t.of_all t.of_all of_turned _ _
      (reordered_known (tell_one t w (r.schema_path s) ask) _ _ (mapped_reordered (rule r.matches w.value) (r.keywords s) same.order same.reordered)) in
      let straight = tell_related f (unfolded v u n) (λ s x w l. unfolded_related n s x w l) w (r.schema_path s) (u.schema_path x) (paths s x h)
      (map (rule r.matches w.value) same.order) (rules u x w.value) (rules_related r u like related w.value same.order (u.keywords x) same.same) in
      alike_trans alike trans _ _ _ turned straight

module _ {S T : Type 0} (r : Reading S) (u : Reading T) (like : S → T → Type 0) (related : AreRelatedButForPaths r u like) where
  -- the same verdict, and it reads no path of the schema
  pub verdicts_related : (n : ℕ) (s : S) (x : T) (w : Spot) → like s x → unfolded verdicts r n s w ≡ unfolded verdicts u n x w
  verdicts_related n s x w h =
      alike_is _ _ (unfolded_related r u like related (λ p q. Unit {0}) (λ s x h. tt) verdicts verdicts (λ a b. a ≡ b) (λ a b c p q. p ∙ q)
      (λ k x h w p q b xs ys z. accepts_related like k x h xs ∙ ap (accepts x) (all_same xs ys z)) (λ xs ys z. ap all_true (all_same xs ys z)) all_reordered n s x w h)

  bags_related : (beside : List Part → List Part → Type 0) → ((p : List Part) → beside p p) → ((steps p q : List Part) → beside p q → beside (steps ++ p) (steps ++ q))
      → ((s : S) (x : T) → like s x → beside (r.schema_path s) (u.schema_path x))
      → (n : ℕ) (s : S) (x : T) (w : Spot) → like s x → Alike (NearFaults beside) (unfolded bags r n s w) (unfolded bags u n x w)
  bags_related beside itself under paths =
      unfolded_related r u like related beside paths bags bags (NearFaults beside) (λ a b c p q. near_by_way_of p q)
      (faults_related like beside itself under) (join_near beside itself under) (join_reordered beside itself under)

pub related_alike : {S T : Type 0} (like : S → T → Type 0) → AnswerAlike like
related_alike like r u related n s t w h = (
  verdicts_related r u like (but_for_paths related) n s t w h,
  same_or_out _ _ (bags_related r u like (but_for_paths related) (λ p q. p ≡ q) (λ p. refl) (λ steps p q e. ap (λ x. steps ++ x) e) related.paths n s t w h),
)

pub related_alike_but_for_paths : {S T : Type 0} (like : S → T → Type 0) → AnswerAlikeButForPaths like
related_alike_but_for_paths like r u related n s t w h = (
  verdicts_related r u like related n s t w h,
  unplaced_or_out _ _ (bags_related r u like related (λ p q. Unit {0}) (λ p. tt) (λ steps p q e. tt) (λ s x l. tt) n s t w h),
)
