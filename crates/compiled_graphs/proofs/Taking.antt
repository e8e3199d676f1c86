-- One more visit of a walk is read: the roads of what it asks.
use Rattle.std.proofs.Common.{◌≡◌, ◌∙◌, ◌⊎◌, ◌<◌, ◌+◌, ℕ, zero, suc, List, [], ◌∷◌, ◌++◌, Some, refl, sym, ap, subst, inl, inr, arith, length, slice_get, append-nil, append_assoc}
use Rattle.std.specs.List.{AllZip}
use Rattle.std.proofs.lemmas.List.{length-append}
use Rattle.compiled_graphs.specs.Roads.{IsBefore, IsNotAfter, on_to, Rise, AreBefore, IsAlong, AreAlong, IsTaken, AreRoads}
use Rattle.compiled_graphs.proofs.Positions.{kept-place, front-place, one-there, within, there-is, at-end, front-or-last, zip-place, zip-back}
use Rattle.compiled_graphs.proofs.Roads.{before-on, before-more, before-last, push-rise, push-before}

-- each lead is put behind the visits, unless there is one that is the same
pub data Chain {V : Type 0} (Same : V → V → Type 0) : List V → List V → List V → Type 0 where
  done : {vs : List V} → Chain Same vs [] vs
  puts : {old next fin leads : List V} (lead : V) → next ≡ old ++ lead ∷ [] → Chain Same next leads fin → Chain Same old (lead ∷ leads) fin
  passes : {old fin leads : List V} (lead : V) (i : ℕ) (v : V) → slice_get old i ≡ Some v → Same v lead → Chain Same old leads fin → Chain Same old (lead ∷ leads) fin

module _ {S V : Type 0} (asked : S → List S) (roots : List S) (Met : V → S → Type 0) (Same : V → V → Type 0) where
  -- a lead is visited by a road that is not after another
  pub record IsPlaced (vs : List V) (ps : List (List ℕ)) (w : V) (q : List ℕ) : Type 0 where
    pub position : ℕ
    pub visit : V
    pub there : slice_get vs position ≡ Some visit
    pub alike : (visit ≡ w) ⊎ Same visit w
    pub road : List ℕ
    pub is : slice_get ps position ≡ Some road
    pub early : IsNotAfter road q

  -- the roads of visits with all leads from a position on
  pub record Grown (p : List ℕ) (k : ℕ) (now rest fin : List V) (ps : List (List ℕ)) : Type 0 where
    pub more : List V
    pub grown : fin ≡ now ++ more
    pub all : List (List ℕ)
    pub behind : List (List ℕ)
    pub extends : all ≡ ps ++ behind
    pub count : length all ≡ length fin
    pub rise : Rise all
    pub before : AreBefore all (p ++ (k + length rest) ∷ [])
    pub along : AreAlong asked roots Met fin all
    pub placed : (m : ℕ) (w : V) → slice_get rest m ≡ Some w → IsPlaced fin all w (p ++ (k + m) ∷ [])

  module _ (p : List ℕ) where
    abbrev road_at : ℕ → List ℕ
    road_at k = p ++ k ∷ []

    abbrev LeadAlong : ℕ → List V → Type 0
    LeadAlong k rest = (m : ℕ) (w : V) → slice_get rest m ≡ Some w → IsAlong asked roots Met w (road_at (k + m))

    later-leads : (k : ℕ) (lead : V) (rest : List V) → LeadAlong k (lead ∷ rest) → LeadAlong (suc k) rest
    later-leads k lead rest h m w e = (let same : k + suc m ≡ suc k + m = omega arith in subst (λ n. IsAlong asked roots Met w (road_at n)) same (h (suc m) w e))

    push-along : (now next : List V) (ps : List (List ℕ)) (lead : V) (r : List ℕ) → length ps ≡ length now → next ≡ now ++ lead ∷ [] → AreAlong asked roots Met now ps → IsAlong asked roots Met lead r → AreAlong asked roots Met next (ps ++ r ∷ [])
    push-along now next ps lead r count e along h i v q at is =
        by (front-or-last now lead v i (subst (λ (l : List V). slice_get l i ≡ Some v) e at)) (front-or-last ps r q i is)
      where
        by : (slice_get now i ≡ Some v) ⊎ ((i ≡ length now) × (lead ≡ v)) → (slice_get ps i ≡ Some q) ⊎ ((i ≡ length ps) × (r ≡ q)) → IsAlong asked roots Met v q
        by (inl a) (inl b) = along i v q a b
        by (inl a) (inr b) = (let low = within now i v a in let at = b.0 in absurd (omega (arith, low, at, count)))
        by (inr a) (inl b) = (let low = within ps i q b in let at = a.0 in absurd (omega (arith, low, at, count)))
        by (inr a) (inr b) = subst (λ x. IsAlong asked roots Met x q) a.1 (subst (λ x. IsAlong asked roots Met lead x) b.1 h)

    early-at : (k m n : ℕ) (q : List ℕ) → m ≡ n → IsNotAfter q (road_at m) → IsNotAfter q (road_at n)
    early-at k m n q e h = subst (λ x. IsNotAfter q (road_at x)) e h

    next-placed : (k m : ℕ) (fin : List V) (all : List (List ℕ)) (w : V) → IsPlaced fin all w (road_at (suc k + m)) → IsPlaced fin all w (road_at (k + suc m))
    next-placed k m fin all w h = (let same : suc k + m ≡ k + suc m = omega arith in subst (λ n. IsPlaced fin all w (road_at n)) same h)

    -- one lead is put behind
    module _ (k : ℕ) (now next rest fin : List V) (ps : List (List ℕ)) (lead : V) (count : length ps ≡ length now) (e : next ≡ now ++ lead ∷ []) (g : Grown p (suc k) next rest fin (ps ++ road_at k ∷ [])) where
      put-there : slice_get fin (length now) ≡ Some lead
      put-there =
          subst (λ (l : List V). slice_get l (length now) ≡ Some lead) (sym g.grown)
          (kept-place next g.more (length now) lead (subst (λ (l : List V). slice_get l (length now) ≡ Some lead) (sym e) (at-end now lead)))

      put-road : slice_get g.all (length now) ≡ Some (road_at k)
      put-road =
          subst (λ (l : List (List ℕ)). slice_get l (length now) ≡ Some (road_at k)) (sym g.extends)
          (kept-place (ps ++ road_at k ∷ []) g.behind (length now) (road_at k)
          (subst (λ n. slice_get (ps ++ road_at k ∷ []) n ≡ Some (road_at k)) count (at-end ps (road_at k))))

      put-placed : (m : ℕ) (w : V) → slice_get (lead ∷ rest) m ≡ Some w → IsPlaced fin g.all w (road_at (k + m))
      put-placed zero w at =
          let none : k ≡ k + 0 = omega arith in
          record { position = length now; visit = lead; there = put-there; alike = inl (cc (at)); road = road_at k; is = put-road; early = inr (ap road_at none) }
      put-placed (suc m) w at = next-placed k m fin g.all w (g.placed m w at)

      put-grown : Grown p k now (lead ∷ rest) fin ps
      put-grown = record {
        more = lead ∷ g.more;
        grown = g.grown ∙ ap (λ l. l ++ g.more) e ∙ append_assoc now (lead ∷ []) g.more;
        all = g.all;
        behind = road_at k ∷ g.behind;
        extends = g.extends ∙ append_assoc ps (road_at k ∷ []) g.behind;
        count = g.count;
        rise = g.rise;
        before = (let same : suc k + length rest ≡ k + length (lead ∷ rest) = omega arith in subst (λ n. AreBefore g.all (road_at n)) same g.before);
        along = g.along;
        placed = put-placed;
      }

    -- one lead is there already
    module _ (k : ℕ) (now rest fin : List V) (ps : List (List ℕ)) (lead : V) (count : length ps ≡ length now) (before : AreBefore ps (road_at k)) (i : ℕ) (v : V) (at : slice_get now i ≡ Some v) (same : Same v lead)
        (g : Grown p (suc k) now rest fin ps) where
      its-road : (q : List ℕ) × (slice_get ps i ≡ Some q)
      its-road = (let low = within now i v at in there-is ps i (omega (arith, low, count)))

      pass-placed : (m : ℕ) (w : V) → slice_get (lead ∷ rest) m ≡ Some w → IsPlaced fin g.all w (road_at (k + m))
      pass-placed zero w e =
          let none : k ≡ k + 0 = omega arith in
          let is : lead ≡ w = cc in
          record {
            position = i;
            visit = v;
            there = subst (λ (l : List V). slice_get l i ≡ Some v) (sym g.grown) (kept-place now g.more i v at);
            alike = inr (subst (λ x. Same v x) is same);
            road = its-road.0;
            is = subst (λ (l : List (List ℕ)). slice_get l i ≡ Some its-road.0) (sym g.extends) (kept-place ps g.behind i its-road.0 its-road.1);
            early = inl (subst (λ n. IsBefore its-road.0 (road_at n)) none (before i its-road.0 its-road.1));
          }
      pass-placed (suc m) w e = next-placed k m fin g.all w (g.placed m w e)

      pass-grown : Grown p k now (lead ∷ rest) fin ps
      pass-grown = record {
        more = g.more;
        grown = g.grown;
        all = g.all;
        behind = g.behind;
        extends = g.extends;
        count = g.count;
        rise = g.rise;
        before = (let same : suc k + length rest ≡ k + length (lead ∷ rest) = omega arith in subst (λ n. AreBefore g.all (road_at n)) same g.before);
        along = g.along;
        placed = pass-placed;
      }

    none-left : (k : ℕ) (vs : List V) (ps : List (List ℕ)) → length ps ≡ length vs → Rise ps → AreBefore ps (road_at k) → AreAlong asked roots Met vs ps → Grown p k vs [] vs ps
    none-left k vs ps count rise before along = record {
      more = [];
      grown = sym (append-nil vs);
      all = ps;
      behind = [];
      extends = sym (append-nil ps);
      count = count;
      rise = rise;
      before = (let none : k ≡ k + 0 = omega arith in subst (λ n. AreBefore ps (road_at n)) none before);
      along = along;
      placed = λ m w e. absurd (cc (e));
    }

    pub grow : (now rest fin : List V) (k : ℕ) (ps : List (List ℕ)) → Chain Same now rest fin → length ps ≡ length now → Rise ps → AreBefore ps (road_at k) → AreAlong asked roots Met now ps → LeadAlong k rest → Grown p k now rest fin ps
    grow _ _ _ k ps (done {vs = vs}) count rise before along leads = none-left k vs ps count rise before along
    grow _ _ _ k ps (puts {old = now} {next = next} {fin = fin} {leads = rest} lead e chain) count rise before along leads =
        let none : k + 0 ≡ k = omega arith in
        let here = subst (λ n. IsAlong asked roots Met lead (road_at n)) none (leads 0 lead refl) in
        let longer : length (ps ++ road_at k ∷ []) ≡ length next = length-append ps (road_at k ∷ []) ∙ ap (λ n. n + 1) count ∙ sym (length-append now (lead ∷ [])) ∙ ap length (sym e) in
        put-grown k now next rest fin ps lead count e
        (grow next rest fin (suc k) (ps ++ road_at k ∷ []) chain longer (push-rise ps (road_at k) rise before) (push-before ps (road_at k) (road_at (suc k)) before (before-last p k (suc k) (omega arith)))
        (push-along now next ps lead (road_at k) count e along here) (later-leads k lead rest leads))
    grow _ _ _ k ps (passes {old = now} {fin = fin} {leads = rest} lead i v at same chain) count rise before along leads =
        pass-grown k now rest fin ps lead count before i v at same
        (grow now rest fin (suc k) ps chain count rise (λ j q e. before-on q (road_at k) (road_at (suc k)) (before j q e) (before-last p k (suc k) (omega arith))) along (later-leads k lead rest leads))

  -- ---- all leads of a visit

  module _ (vs us leads : List V) (next : ℕ) (v : V) (at : slice_get vs next ≡ Some v) (chain : Chain Same vs leads us) (asks : (s : S) → Met v s → AllZip Met leads (asked s))
      (again : (i m : ℕ) (x w : V) → slice_get us i ≡ Some x → slice_get leads m ≡ Some w → (x ≡ w) ⊎ Same x w → (t : S) → Met w t → Met x t) (ps : List (List ℕ)) (r : AreRoads asked roots Met vs next ps) where
    abbrev here : (p : List ℕ) × (slice_get ps next ≡ Some p)
    here = (let low = within vs next v at in let same = r.count in there-is ps next (omega (arith, low, same)))

    abbrev pub road_here : List ℕ
    road_here = here.0

    pub along-here : IsAlong asked roots Met v road_here
    along-here = r.along next v road_here at here.1

    lead-along : (m : ℕ) (w : V) → slice_get leads m ≡ Some w → IsAlong asked roots Met w (road_here ++ (0 + m) ∷ [])
    lead-along m w e =
        let a = along-here in
        let x = zip-place Met leads (asked a.site) m w (asks a.site a.met) e in
        let none : m ≡ 0 + m = omega arith in
        subst (λ n. IsAlong asked roots Met w (road_here ++ n ∷ [])) none (record { site = x.0; met = x.2; goes = on_to m a.site x.0 a.goes x.1 })

    pub grown-here : Grown road_here 0 vs leads us ps
    grown-here = grow road_here vs leads us 0 ps chain r.count r.rise (r.ahead road_here here.1) r.along lead-along

    abbrev pub roads_after : List (List ℕ)
    roads_after = grown-here.all

    kept : (i : ℕ) (w : V) → slice_get vs i ≡ Some w → slice_get us i ≡ Some w
    kept i w e = subst (λ (l : List V). slice_get l i ≡ Some w) (sym grown-here.grown) (kept-place vs grown-here.more i w e)

    kept-road : (i : ℕ) (q : List ℕ) → slice_get ps i ≡ Some q → slice_get roads_after i ≡ Some q
    kept-road i q e = subst (λ (l : List (List ℕ)). slice_get l i ≡ Some q) (sym grown-here.extends) (kept-place ps grown-here.behind i q e)

    stood : (i : ℕ) (w : V) → i < length vs → slice_get us i ≡ Some w → slice_get vs i ≡ Some w
    stood i w h e = front-place vs grown-here.more i w h (subst (λ (l : List V). slice_get l i ≡ Some w) grown-here.grown e)

    stood-road : (i : ℕ) (q : List ℕ) → i < length ps → slice_get roads_after i ≡ Some q → slice_get ps i ≡ Some q
    stood-road i q h e = front-place ps grown-here.behind i q h (subst (λ (l : List (List ℕ)). slice_get l i ≡ Some q) grown-here.extends e)

    still-taken : (t : S) (q : List ℕ) → IsTaken asked roots Met vs ps t q → IsTaken asked roots Met us roads_after t q
    still-taken t q x = record { position = x.position; visit = x.visit; there = kept x.position x.visit x.there; met = x.met; road = x.road; is = kept-road x.position x.road x.is; early = x.early }

    -- what was taken from here
    taken-here : (s : S) → Met v s → (k : ℕ) (t : S) → slice_get (asked s) k ≡ Some t → IsTaken asked roots Met us roads_after t (road_here ++ k ∷ [])
    taken-here s m k t e =
        let x = zip-back Met leads (asked s) k t (asks s m) e in
        let y = grown-here.placed k x.0 x.1 in
        let none : 0 + k ≡ k = omega arith in
        record {
          position = y.position;
          visit = y.visit;
          there = y.there;
          met = again y.position k y.visit x.0 y.there x.1 y.alike t x.2;
          road = y.road;
          is = y.is;
          early = subst (λ n. IsNotAfter y.road (road_here ++ n ∷ [])) none y.early;
        }

    before-or-here : (i : ℕ) → i < next + 1 → (i < next) ⊎ (i ≡ next)
    before-or-here i h = go i next h
      where
        up : (a b : ℕ) → (a < b) ⊎ (a ≡ b) → (suc a < suc b) ⊎ (suc a ≡ suc b)
        up a b (inl x) = inl (omega (arith, x))
        up a b (inr x) = inr (ap suc x)

        go : (a b : ℕ) → a < b + 1 → (a < b) ⊎ (a ≡ b)
        go zero zero h = inr refl
        go zero (suc b) h = inl (omega arith)
        go (suc a) zero h = absurd (omega (arith, h))
        go (suc a) (suc b) h = up a b (go a b (omega (arith, h)))

    taken-any : (i : ℕ) → (i < next) ⊎ (i ≡ next) → (w : V) (q : List ℕ) → slice_get us i ≡ Some w → slice_get roads_after i ≡ Some q
        → (s : S) → Met w s → (k : ℕ) (t : S) → slice_get (asked s) k ≡ Some t → IsTaken asked roots Met us roads_after t (q ++ k ∷ [])
    taken-any i (inl h) w q e f s m k t a =
        let low = within vs next v at in
        let same = r.count in
        still-taken t (q ++ k ∷ []) (r.taken i h w q (stood i w (omega (arith, h, low)) e) (stood-road i q (omega (arith, h, low, same)) f) s m k t a)
    taken-any i (inr h) w q e f s m k t a =
        let one = one-there (slice_get us next) w v (subst (λ n. slice_get us n ≡ Some w) h e) (kept next v at) in
        let road = one-there (slice_get roads_after next) road_here q (kept-road next road_here here.1) (subst (λ n. slice_get roads_after n ≡ Some q) h f) in
        subst (λ (x : List ℕ). IsTaken asked roots Met us roads_after t (x ++ k ∷ [])) road (taken-here s (subst (λ x. Met x s) one m) k t a)

    further-ahead : (p : List ℕ) → slice_get roads_after (next + 1) ≡ Some p → AreBefore roads_after (p ++ 0 ∷ [])
    further-ahead p e i q f =
        let rises = grown-here.rise next (next + 1) road_here p (omega arith) (kept-road next road_here here.1) e in
        let last = road_here ++ (0 + length leads) ∷ [] in
        before-on q last (p ++ 0 ∷ []) (grown-here.before i q f) (before-more road_here p (0 + length leads) 0 rises)

    pub roads-go : AreRoads asked roots Met us (next + 1) roads_after
    roads-go = record {
      count = grown-here.count;
      rise = grown-here.rise;
      ahead = further-ahead;
      along = grown-here.along;
      taken = λ i h w q e f s m k t a. taken-any i (before-or-here i h) w q e f s m k t a;
      begins = λ i s e. still-taken s (i ∷ []) (r.begins i s e);
    }
