-- Where a graph decides, the cut reading gives the decided answer.
use Rattle.std.proofs.Common.{◌≡◌, ◌<◌, ◌≤◌, ◌==◌, ◌||◌, ℕ, zero, suc, List, [], ◌∷◌, Bool, true, false, map, Option, Some, None, option_map, refl, sym, ap, ap₂, ◌∙◌, subst, arith, eqb-true, ◌⊎◌, inl, inr}
use Rattle.schema_meaning.specs.Members.{In, first, later, all_known, all_true}
use Rattle.schema_meaning.specs.Places.{Spot, Key, Step, stay, to_item, to_member, to_name, after, whole, value_after, path_after, called_after}
use Rattle.schema_meaning.specs.Questions.{Question, asked_at}
use Rattle.schema_meaning.specs.Rules.{Rule, asks, accepts}
use Rattle.schema_meaning.specs.Readings.{Reading, rules, Telling, verdicts, tell_one, tell, unfolded, Asks}
use Rattle.schema_meaning.specs.Circular.{key_at}
use Rattle.schema_meaning.specs.Cut.{cut_one, cut_all, cut_unless, cut_by_kind, cut_asked, cut_within, is_in_progress}
use Rattle.meaning_laws.proofs.Known.{all_known-map, all_known-in, option_map-some}
use Rattle.meaning_laws.proofs.Unfolded.{unfolded-le}
use Rattle.serde_json.specs.Data.{Data, depth}
use Rattle.json_values.specs.Parts.{Part, name, index}
use Rattle.schema_meaning.specs.Keywords.{Shape, rule}
use Rattle.schema_engine.specs.declared.node.Node.{Node}
use Rattle.schema_engine.specs.Graphs.{reading_of, keywords_at}
use Rattle.schema_engine.specs.Progress.{is_among}
use Rattle.schema_engine.specs.Verdicts.{height, key_in, GoesDown}
use Rattle.schema_engine.proofs.Inside.{inside, IsInside}
use Rattle.schema_engine.proofs.Settings.{higher_is_new, same_key_in}
use Rattle.schema_engine.proofs.RuleLemmas.{map_same, AreSame, asked_at_same}

module _ (r : Reading ℕ) where
  -- the road decides no verdict
  unfolded_same : (n : ℕ) (s : ℕ) (v w : Spot) → AreSame v w → unfolded verdicts r n s v ≡ unfolded verdicts r n s w
  unfolding unfolded
  unfolded_same zero s v w same = refl
  unfolded_same (suc n) s v w same =
      ap (λ d. option_map all_true (all_known (map (tell_one verdicts v (r.schema_path s) (λ q. unfolded verdicts r n q.site (asked_at v q))) (rules r s d)))) same.value
      ∙ ap (λ os. option_map all_true (all_known os))
      (map_same (tell_one verdicts v (r.schema_path s) (λ q. unfolded verdicts r n q.site (asked_at v q))) (tell_one verdicts w (r.schema_path s) (λ q. unfolded verdicts r n q.site (asked_at w q)))
      (λ k. ap (λ os. option_map (accepts k) (all_known os))
      (map_same (λ q. unfolded verdicts r n q.site (asked_at v q)) (λ q. unfolded verdicts r n q.site (asked_at w q))
      (λ q. unfolded_same n q.site (asked_at v q) (asked_at w q) (asked_at_same r v w q same)) (asks k)))
      (rules r s w.value))

  still_out : (m n s : ℕ) (w : Spot) → m ≤ n → unfolded verdicts r n s w ≡ None → unfolded verdicts r m s w ≡ None
  still_out m n s w le e = by_answer (unfolded verdicts r m s w) refl
    where
      by_answer : (o : Option Bool) → unfolded verdicts r m s w ≡ o → unfolded verdicts r m s w ≡ None
      by_answer None f = f
      by_answer (Some x) f = let g = unfolded-le verdicts r m n le s w x f in cc

module _ {A : Type 0} (t : Telling ℕ A) (r : Reading ℕ) where
  -- the first number of unfoldings that decides
  pub record First (n s : ℕ) (w : Spot) (b : A) : Type 0 where
    pub before : ℕ
    pub few : suc before ≤ n
    pub out : unfolded t r before s w ≡ None
    pub is : unfolded t r (suc before) s w ≡ Some b

  first_of : (n s : ℕ) (w : Spot) (b : A) → unfolded t r n s w ≡ Some b → First n s w b
  unfolding unfolded
  first_of zero s w b e = cc
  first_of (suc n) s w b e = by_last (unfolded t r n s w) refl (first_of n s w)
    where
      by_last : (o : Option A) → unfolded t r n s w ≡ o → ((x : A) → unfolded t r n s w ≡ Some x → First n s w x) → First (suc n) s w b
      by_last None f again = record { before = n; few = omega arith; out = f; is = e }
      by_last (Some x) f again =
          let one = again x f in
          let same : Some x ≡ Some b = sym (unfolded-le t r n (suc n) (omega arith) s w x f) ∙ e in
          let agrees : x ≡ b = cc in
          record { before = one.before; few = (let h = one.few in omega (arith, h)); out = one.out; is = one.is ∙ ap Some agrees }

  -- what is told of known answers
  tell_known : (s : ℕ) (w : Spot) (ask : Question ℕ → Option A) (f : Question ℕ → A) (b : A) → ((q : Question ℕ) → Asks r s w q → (y : A) → ask q ≡ Some y → f q ≡ y)
      → tell t w (r.schema_path s) ask (rules r s w.value) ≡ Some b → cut_all t w (r.schema_path s) f (rules r s w.value) ≡ b
  tell_known s w ask f b h e =
      let all = option_map-some t.of_all (all_known (map (tell_one t w (r.schema_path s) ask) (rules r s w.value))) b e in
      let is = all_known-map (tell_one t w (r.schema_path s) ask) (cut_one t w (r.schema_path s) f) (rules r s w.value)
      (λ k i. (let known = all_known-in (tell_one t w (r.schema_path s) ask) (rules r s w.value) all.0 all.1 k i in one k i known.0 known.1)) in
      let same : Some (cut_all t w (r.schema_path s) f (rules r s w.value)) ≡ Some b = sym (ap (option_map t.of_all) is) ∙ e in
      cc
    where
      one : (k : Rule ℕ) → In k (rules r s w.value) → (x : A) → tell_one t w (r.schema_path s) ask k ≡ Some x → tell_one t w (r.schema_path s) ask k ≡ Some (cut_one t w (r.schema_path s) f k)
      one k i x known =
          let ys = option_map-some (t.of_rule k w (r.schema_path s)) (all_known (map ask (asks k))) x known in
          ap (option_map (t.of_rule k w (r.schema_path s))) (all_known-map ask f (asks k) (λ q j.
          (let y = all_known-in ask (asks k) ys.0 ys.1 q j in
          let same : f q ≡ y.0 = h q (record { keyword = k; stands = i; asked = j }) y.0 y.1 in
          y.1 ∙ ap Some (sym same))))

-- the keys in progress are those of these numbers at the spot, and of places above. A name has no depth
record AtSpot (progress : List ℕ) (keys : List Key) (w : Spot) : Type 0 where
  here : (n : ℕ) → is_in_progress (key_in w n) keys ≡ is_among n progress
  above : (k : Key) → In k keys → height k.path k.called ≤ height w.path w.called
  named : 0 < depth w.value → w.called ≡ None

stays_there : (progress : List ℕ) (keys : List Key) (w : Spot) (added : List Part) → AtSpot progress keys w → AtSpot progress keys (after w stay added)
stays_there progress keys w added there = record { here = there.here; above = there.above; named = there.named }

enters : (progress : List ℕ) (keys : List Key) (w : Spot) (added : List Part) (t : ℕ) → AtSpot progress keys w → AtSpot (t ∷ progress) (key_in w t ∷ keys) (after w stay added)
enters progress keys w added t there = record {
  here = λ n. ap₂ (λ a b. a || b) (same_key_in w n t) (there.here n);
  above = λ k i. among k i;
  named = there.named;
}
  where
    among : (k : Key) → In k (key_in w t ∷ keys) → height k.path k.called ≤ height w.path w.called
    among k first = omega arith
    among k (later i) = there.above k i

-- one step down no key is in progress
steps_down : (progress : List ℕ) (keys : List Key) (w : Spot) (added : List Part) (s : Step) → (s ≡ stay → ⊥) → GoesDown w.value s → AtSpot progress keys w → AtSpot [] keys (after w s added)
steps_down progress keys w added stay down inside there = absurd (down refl)
steps_down progress keys w added (to_item i e) down inside there = record {
  here = λ n. higher_is_new (key_in (after w (to_item i e) added) n) keys (height w.path w.called) there.above (up w.called);
  above = λ k j. (let low : height k.path k.called ≤ height w.path w.called = there.above k j in let h = up w.called in omega (arith, h));
  named = λ h. refl;
}
  where
    up : (c : Option (List ℕ)) → height w.path c < height (index i ∷ w.path) None
    up None = omega arith
    up (Some s) = omega arith
steps_down progress keys w added (to_member k e) down inside there = record {
  here = λ n. higher_is_new (key_in (after w (to_member k e) added) n) keys (height w.path w.called) there.above (up w.called);
  above = λ l j. (let low : height l.path l.called ≤ height w.path w.called = there.above l j in let h = up w.called in omega (arith, h));
  named = λ h. refl;
}
  where
    up : (c : Option (List ℕ)) → height w.path c < height (name k ∷ w.path) None
    up None = omega arith
    up (Some s) = omega arith
steps_down progress keys w added (to_name k) down inside there = record {
  here = λ n. higher_is_new (key_in (after w (to_name k) added) n) keys (height w.path w.called) there.above up;
  above = λ l j. (let low : height l.path l.called ≤ height w.path w.called = there.above l j in omega (arith, up));
  named = λ h. absurd (omega arith);
}
  where
    up : height w.path w.called < height w.path (Some k)
    up = rw (there.named inside) (omega arith)

-- the rule of a node's keyword is that of its shape
rule_of : (matches : List ℕ → List ℕ → Bool) (d : Data) (ss : List (Shape ℕ)) (k : Rule ℕ) → In k (map (rule matches d) ss) → (s : Shape ℕ) × (k ≡ rule matches d s)
rule_of matches d [] k i = elim i [ ]
rule_of matches d (s ∷ ss) k first = (s, refl)
rule_of matches d (s ∷ ss) k (later i) = rule_of matches d ss k i

is_stay : (s : Step) → (s ≡ stay) ⊎ (s ≡ stay → ⊥)
is_stay stay = inl refl
is_stay (to_item i e) = inr (λ h. cc)
is_stay (to_member k e) = inr (λ h. cc)
is_stay (to_name k) = inr (λ h. cc)

module _ {K : Type 0} (shape : K → Shape ℕ) (matches : List ℕ → List ℕ → Bool) (nodes : List (Node K)) where
  asked_inside : (s : ℕ) (w : Spot) (q : Question ℕ) → Asks (reading_of shape matches nodes) s w q → IsInside (λ f n. Unit {0}) w.value q
  asked_inside s w q a =
      let k = rule_of matches w.value (map shape (keywords_at nodes s)) a.keyword a.stands in
      let here = inside matches w.value k.0 q (subst (λ k. In q (asks k)) k.1 a.asked) in
      record { down = here.down; stays = here.stays; leads = tt }

  -- none of these numbers is decided at the spot
  record AreOpen (n : ℕ) (progress : List ℕ) (w : Spot) : Type 0 where
    each : (p : ℕ) → is_among p progress ≡ true → unfolded verdicts (reading_of shape matches nodes) n p w ≡ None

  none_open : (n : ℕ) (w : Spot) → AreOpen n [] w
  none_open n w = record { each = λ p i. cc }

  open_before : (m n : ℕ) (progress : List ℕ) (v w : Spot) → m ≤ n → AreSame v w → AreOpen n progress w → AreOpen m progress v
  open_before m n progress v w le same all = record {
    each = λ p i.
        unfolded_same (reading_of shape matches nodes) m p v w same ∙ still_out (reading_of shape matches nodes) m n p w le (all.each p i);
  }

  open_more : (n t : ℕ) (progress : List ℕ) (w : Spot) → unfolded verdicts (reading_of shape matches nodes) n t w ≡ None → AreOpen n progress w → AreOpen n (t ∷ progress) w
  open_more n t progress w out all = record { each = λ p i. by_test p (p == t) refl i }
    where
      by_test : (p : ℕ) (b : Bool) → (p == t) ≡ b → (p == t || is_among p progress) ≡ true → unfolded verdicts (reading_of shape matches nodes) n p w ≡ None
      by_test p true e i = let same : p ≡ t = eqb-true p t e in rw same out
      by_test p false e i = all.each p (rw e at i)

  -- where what is told is decided with the verdict
  module _ {A : Type 0} (t : Telling ℕ A) (accepted : A → Bool) (agrees : (n s : ℕ) (w : Spot) → option_map accepted (unfolded t (reading_of shape matches nodes) n s w) ≡ unfolded verdicts (reading_of shape matches nodes) n s w) where
    abbrev Decides : ℕ → Type 0
    Decides m = (k : ℕ) (progress : List ℕ) (keys : List Key) (s : ℕ) (w : Spot) (b : A) → AtSpot progress keys w → AreOpen k progress w → suc k ≤ m
        → unfolded t (reading_of shape matches nodes) (suc k) s w ≡ Some b → cut_within t (reading_of shape matches nodes) m keys s w ≡ b

    module _ (m k : ℕ) (progress : List ℕ) (keys : List Key) (s : ℕ) (w : Spot) (again : Decides m) (there : AtSpot progress keys w) (all : AreOpen k progress w) (deep : k ≤ m) where
      road : (q : Question ℕ) → q.step ≡ stay → AreSame (asked_at w q) w
      road q here = record {
        value = ap (λ s. value_after w.value s) here;
        path = ap (λ s. path_after w.path s) here;
        called = ap (λ s. called_after w.called s) here;
      }

      -- a reference
      followed : (q : Question ℕ) (y : A) → q.step ≡ stay → unfolded t (reading_of shape matches nodes) k q.site (asked_at w q) ≡ Some y
          → cut_by_kind true t (reading_of shape matches nodes) (cut_within t (reading_of shape matches nodes) m) keys w q ≡ y
      followed q y here known = rw key (by_test (is_in_progress (key_in w q.site) keys) refl)
        where
          key : key_at (reading_of shape matches nodes) w q ≡ key_in w q.site
          key = rw here refl

          f : First t (reading_of shape matches nodes) k q.site (asked_at w q) y
          f = first_of t (reading_of shape matches nodes) k q.site (asked_at w q) y known

          by_test : (b : Bool) → is_in_progress (key_in w q.site) keys ≡ b
              → cut_unless (is_in_progress (key_in w q.site) keys) (t.of_all []) (cut_within t (reading_of shape matches nodes) m (key_in w q.site ∷ keys) q.site (asked_at w q)) ≡ y
          by_test true e =
              let out : unfolded verdicts (reading_of shape matches nodes) k q.site w ≡ None = all.each q.site (sym (there.here q.site) ∙ e) in
              let same = unfolded_same (reading_of shape matches nodes) k q.site (asked_at w q) w (road q here) in
              let clash : Some (accepted y) ≡ None = sym (ap (option_map accepted) known) ∙ agrees k q.site (asked_at w q) ∙ same ∙ out in
              cc
          by_test false e =
              let few = f.few in
              let at : AtSpot (q.site ∷ progress) (key_in w q.site ∷ keys) (asked_at w q) =
              subst (λ s. AtSpot (q.site ∷ progress) (key_in w q.site ∷ keys) (after w s q.added)) (sym here) (enters progress keys w q.added q.site there) in
              let out : unfolded verdicts (reading_of shape matches nodes) f.before q.site (asked_at w q) ≡ None = sym (agrees f.before q.site (asked_at w q)) ∙ ap (option_map accepted) f.out in
              let open_there = open_more f.before q.site progress (asked_at w q) out (open_before f.before k progress (asked_at w q) w (omega (arith, few)) (road q here) all) in
              rw e (again f.before (q.site ∷ progress) (key_in w q.site ∷ keys) q.site (asked_at w q) y at open_there (omega (arith, few)) f.is)

      -- another question
      plain : (q : Question ℕ) (y : A) → GoesDown w.value q.step → unfolded t (reading_of shape matches nodes) k q.site (asked_at w q) ≡ Some y
          → cut_within t (reading_of shape matches nodes) m keys q.site (asked_at w q) ≡ y
      plain q y down known = by_step (is_stay q.step)
        where
          f : First t (reading_of shape matches nodes) k q.site (asked_at w q) y
          f = first_of t (reading_of shape matches nodes) k q.site (asked_at w q) y known

          by_step : (q.step ≡ stay) ⊎ (q.step ≡ stay → ⊥) → cut_within t (reading_of shape matches nodes) m keys q.site (asked_at w q) ≡ y
          by_step (inl here) =
              let few = f.few in
              let at : AtSpot progress keys (asked_at w q) = subst (λ s. AtSpot progress keys (after w s q.added)) (sym here) (stays_there progress keys w q.added there) in
              again f.before progress keys q.site (asked_at w q) y at (open_before f.before k progress (asked_at w q) w (omega (arith, few)) (road q here) all) (omega (arith, few)) f.is
          by_step (inr away) =
              let few = f.few in
              again f.before [] keys q.site (asked_at w q) y (steps_down progress keys w q.added q.step away down there) (none_open f.before (asked_at w q)) (omega (arith, few)) f.is

      one : (b : Bool) (q : Question ℕ) → q.follows ≡ b → IsInside (λ f n. Unit {0}) w.value q → (y : A) → unfolded t (reading_of shape matches nodes) k q.site (asked_at w q) ≡ Some y
          → cut_by_kind b t (reading_of shape matches nodes) (cut_within t (reading_of shape matches nodes) m) keys w q ≡ y
      one true q g inside y known = followed q y (inside.stays g) known
      one false q g inside y known = plain q y inside.down known

    decides : (m : ℕ) → Decides m
    unfolding cut_within unfolded
    decides zero k progress keys s w b there all deep e = absurd (omega arith)
    decides (suc m) k progress keys s w b there all deep e =
        tell_known t (reading_of shape matches nodes) s w (λ q. unfolded t (reading_of shape matches nodes) k q.site (asked_at w q))
        (cut_asked t (reading_of shape matches nodes) (cut_within t (reading_of shape matches nodes) m) keys w) b
        (λ q a y known. one m k progress keys s w (decides m) there all (omega arith) q.follows q refl (asked_inside s w q a) y known) e

    -- a decided answer is the cut answer, as deep as it was unfolded
    pub cut_where_decided : (n m s : ℕ) (d : Data) (b : A) → n ≤ m → unfolded t (reading_of shape matches nodes) n s (whole d) ≡ Some b
        → cut_within t (reading_of shape matches nodes) m [] s (whole d) ≡ b
    cut_where_decided n m s d b deep e =
        let f = first_of t (reading_of shape matches nodes) n s (whole d) b e in
        let few = f.few in
        decides m f.before [] [] s (whole d) b (record { here = λ n. refl; above = λ k i. elim i [ ]; named = λ h. refl }) (none_open f.before (whole d)) (omega (arith, few, deep)) f.is
