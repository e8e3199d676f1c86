-- What a node tells, by its keywords.
use Rattle.std.proofs.Common.{◌≡◌, ◌<◌, ◌≤◌, ◌+◌, ◌-◌, ◌∙◌, ◌++◌, ℕ, zero, suc, List, [], ◌∷◌, Bool, map, take, drop, length, get_or, refl, sym, ap, ap₂, subst, arith, append_assoc}
use Rattle.std.proofs.lemmas.List.{drop_more, drop_all, drop-drop, take_all, take-append-drop, length-take, length-drop}
use Rattle.std.proofs.lemmas.Option.{slice_get_read}
use Rattle.schema_meaning.specs.Faults.{Faults, join, joined}
use Rattle.schema_meaning.specs.Keywords.{Shape, rule}
use Rattle.schema_meaning.specs.Members.{In, first, later}
use Rattle.schema_meaning.specs.Rules.{asks, faults}
use Rattle.schema_meaning.specs.Cut.{cut_within}
use Rattle.schema_reports.specs.Observers.{Hears}
use Rattle.schema_reports.specs.declared.observer.Observation.{Observation}
use Rattle.schema_reports.specs.declared.observer.Observer.{Observer}
use Rattle.schema_reports.proofs.FaultLemmas.{joined-none, joined-joined}
use Rattle.schema_engine.specs.declared.node.Node.{Node}
use Rattle.schema_engine.specs.Hearing.{HearsMore}
use Rattle.schema_engine.specs.Places.{value_at}
use Rattle.schema_engine.specs.Graphs.{keywords_at, path_or_root, path_at, reading_of}
use Rattle.schema_engine.specs.Verdicts.{Setting}
use Rattle.engine_faults.specs.Faults.{Stand, IsAt, Hearing, node_faults, keywords_faults, asked_faults, rule_faults}
use Rattle.schema_engine.proofs.HearsLemmas.{hears_same, hears_settled}
use Rattle.engine_faults.proofs.ToTell.{ToTell, told_one, none_to_tell, hearing_same, hearing_both}
use Rattle.engine_faults.proofs.RuleFaults.{map_map}

pub path_here : {K : Type 0} (nodes : List (Node K)) (n : ℕ) (x : Node K) → n < length nodes → x ≡ get_or nodes n x → x.schema_path ≡ path_at nodes n
path_here nodes n x there is = sym (ap path_or_root (slice_get_read nodes (length nodes) n x refl there is))

module _ {K : Type 0} (shape : K → Shape ℕ) (matches : List ℕ → List ℕ → Bool) (nodes : List (Node K)) (n : ℕ) (s : Stand) where
  abbrev told_by : List K → Setting → Faults
  told_by = keywords_faults shape matches nodes n s

  -- a node is told by its keywords, one question deeper
  node_told : (x : Setting) (depth : ℕ) → x.depth ≡ suc depth → IsAt s x
      → told_by (keywords_at nodes n) (record { depth = depth; keys = x.keys; spot = x.spot }) ≡ node_faults (reading_of shape matches nodes) n x
  unfolding cut_within rule_faults asked_faults
  node_told x depth deep at =
      rw deep
      (sym (ap (λ d. join (map (λ k. faults k x.spot (path_at nodes n) (map (asked_faults (reading_of shape matches nodes) (record { depth = depth; keys = x.keys; spot = x.spot })) (asks k)))
      (map (rule matches d) (map shape (keywords_at nodes n))))) at.fits.value
      ∙ ap join (map_map (λ k. faults k x.spot (path_at nodes n) (map (asked_faults (reading_of shape matches nodes) (record { depth = depth; keys = x.keys; spot = x.spot })) (asks k)))
      (rule matches (value_at s.place)) (map shape (keywords_at nodes n))
      ∙ map_map (λ h. faults (rule matches (value_at s.place) h) x.spot (path_at nodes n) (map (asked_faults (reading_of shape matches nodes) (record { depth = depth; keys = x.keys; spot = x.spot })) (asks (rule matches (value_at s.place) h)))) shape (keywords_at nodes n))))

  pub node_heard : (enough : ℕ) (old new : Observer) → Hearing s enough (told_by (keywords_at nodes n)) old new → Hearing s (suc enough) (node_faults (reading_of shape matches nodes) n) old new
  node_heard enough old new told = record { hears = λ x at deep. by_depth x x.depth refl at deep }
    where
      by_depth : (x : Setting) (m : ℕ) → x.depth ≡ m → IsAt s x → suc enough ≤ x.depth → HearsMore (node_faults (reading_of shape matches nodes) n x) old new
      by_depth x zero e at deep = absurd (omega arith)
      by_depth x (suc m) e at deep =
          let y : Setting = record { depth = m; keys = x.keys; spot = x.spot } in
          let there : IsAt s y = record {
            fits = record { value = at.fits.value; called = at.fits.called; here = at.fits.here; above = at.fits.above };
            path = at.path;
            road = at.road;
          } in
          hears_same (told_by (keywords_at nodes n) y) (node_faults (reading_of shape matches nodes) n x) old new (node_told x m e at) (told.hears y there (omega arith))

  module _ (enough : ℕ) where
    -- one keyword more is told
    pub keyword_next : (all : Setting → Faults) (i : ℕ) (ks : List K) (k : K) (old now new : Observer) → i < length ks → k ≡ get_or ks i k
        → Hearing s enough (rule_faults (reading_of shape matches nodes) n (rule matches (value_at s.place) (shape k))) now new
        → ToTell s enough all (told_by (drop i ks)) old now → ToTell s enough all (told_by (drop (i + 1) ks)) old new
    keyword_next all i ks k old now new high is told left =
        told_one s enough all (told_by (drop i ks)) (rule_faults (reading_of shape matches nodes) n (rule matches (value_at s.place) (shape k))) (told_by (drop (i + 1) ks)) old now new
        (λ x at. ap (λ xs. told_by xs x) (drop_more ks i k high ∙ ap (λ y. y ∷ drop (i + 1) ks) (sym is))) told left

    pub keywords_done : (all : Setting → Faults) (i : ℕ) (ks : List K) (old now : Observer) → length ks ≤ i → ToTell s enough all (told_by (drop i ks)) old now → Hearing s enough all old now
    keywords_done all i ks old now past left = none_to_tell s enough all (told_by (drop i ks)) old now (λ x at. ap (λ xs. told_by xs x) (drop_all i ks past)) left

    -- ---- keywords behind others

    both_told : (xs ys : List K) (x : Setting) → told_by (xs ++ ys) x ≡ joined (told_by xs x) (told_by ys x)
    both_told [] ys x = refl
    both_told (k ∷ xs) ys x =
        let one = rule_faults (reading_of shape matches nodes) n (rule matches (value_at s.place) (shape k)) x in
        ap (joined one) (both_told xs ys x) ∙ sym (joined-joined one (told_by xs x) (told_by ys x))

    both_heard : (xs ys : List K) (old mid new : Observer) → Hearing s enough (told_by xs) old mid → Hearing s enough (told_by ys) mid new → Hearing s enough (told_by (xs ++ ys)) old new
    both_heard xs ys old mid new one other =
        hearing_same s enough (λ x. joined (told_by xs x) (told_by ys x)) (told_by (xs ++ ys)) old new (λ x at deep. sym (both_told xs ys x))
        (hearing_both s enough (told_by xs) (told_by ys) old mid new one other)

    one_heard : (k : K) (old new : Observer) → Hearing s enough (rule_faults (reading_of shape matches nodes) n (rule matches (value_at s.place) (shape k))) old new → Hearing s enough (told_by (k ∷ [])) old new
    one_heard k old new told =
        hearing_same s enough (rule_faults (reading_of shape matches nodes) n (rule matches (value_at s.place) (shape k))) (told_by (k ∷ [])) old new (λ x at deep. sym (joined-none _)) told

    -- two, with those between them
    pub together_heard : (k : K) (between : List K) (j : K) (old now mid new : Observer)
        → Hearing s enough (rule_faults (reading_of shape matches nodes) n (rule matches (value_at s.place) (shape k))) old now
        → Hearing s enough (told_by between) now mid
        → Hearing s enough (rule_faults (reading_of shape matches nodes) n (rule matches (value_at s.place) (shape j))) mid new
        → Hearing s enough (told_by (k ∷ (between ++ j ∷ []))) old new
    together_heard k between j old now mid new one others other =
        both_heard (k ∷ []) (between ++ j ∷ []) old now new (one_heard k old now one)
        (both_heard between (j ∷ []) now mid new others (one_heard j mid new other))

    -- those before the two, and those behind them
    module _ (ks before middle behind : List K) (are : ks ≡ before ++ (middle ++ behind)) where
      pub paired_heard : (old now mid new : Observer) → Hearing s enough (told_by before) old now → Hearing s enough (told_by middle) now mid → Hearing s enough (told_by behind) mid new
          → Hearing s enough (told_by ks) old new
      paired_heard old now mid new one two three =
          subst (λ xs. Hearing s enough (told_by xs) old new) (sym are)
          (both_heard before (middle ++ behind) old now new one (both_heard middle behind now mid new two three))

    -- where the observer is settled behind the first of them
    pub settled_heard : (ks before more : List K) → ks ≡ before ++ more → (old now : Observer) → ((kept : Observation) (fs gs : Faults) → Hears kept now fs → Hears kept now (joined fs gs))
        → Hearing s enough (told_by before) old now → Hearing s enough (told_by ks) old now
    settled_heard ks before more are old now settles one = record {
      hears = λ x at deep.
          hears_same (joined (told_by before x) (told_by more x)) (told_by ks x) old now (sym (ap (λ xs. told_by xs x) are ∙ both_told before more x))
          (hears_settled (told_by before x) (told_by more x) old now settles (one.hears x at deep));
    }

-- ---- parts of lists

pub rest_whole : {A : Type 0} (n : ℕ) (xs : List A) → take (length xs - n) (drop n xs) ≡ drop n xs
rest_whole n xs = take_all (length xs - n) (drop n xs) (let e = length-drop n xs in omega arith)

pub in_take : {K : Type 0} (i : ℕ) (ks : List K) (k : K) → In k (take i ks) → In k ks
in_take zero ks k there = elim there [ ]
in_take (suc i) [] k there = elim there [ ]
in_take (suc i) (x ∷ ks) _ first = first
in_take (suc i) (x ∷ ks) k (later there) = later (in_take i ks k there)

pub in_drop : {K : Type 0} (i : ℕ) (ks : List K) (k : K) → In k (drop i ks) → In k ks
in_drop zero ks k there = there
in_drop (suc i) [] k there = elim there [ ]
in_drop (suc i) (x ∷ ks) k there = later (in_drop i ks k there)

-- two elements, what is before them, between them and behind them
pub parted : {K : Type 0} (ks : List K) (i j : ℕ) (x y : K) → i < j → j < length ks → x ≡ get_or ks i x → y ≡ get_or ks j y
    → ks ≡ take i ks ++ ((x ∷ (take (j - (i + 1)) (drop (i + 1) ks) ++ y ∷ [])) ++ take (length ks - (j + 1)) (drop (j + 1) ks))
parted ks i j x y low high here there =
    let more = drop (i + 1) ks in
    let n = j - (i + 1) in
    let last = take (length ks - (j + 1)) (drop (j + 1) ks) in
    let up_to : (i + 1) + n ≡ j = omega arith in
    let from_second : drop n more ≡ y ∷ last =
    drop-drop n (i + 1) ks ∙ ap (λ m. drop m ks) up_to ∙ drop_more ks j y high ∙ ap (λ z. z ∷ drop (j + 1) ks) (sym there) ∙ ap (λ zs. y ∷ zs) (sym (rest_whole (j + 1) ks)) in
    sym (take-append-drop i ks)
    ∙ ap (λ ys. take i ks ++ ys)
    (drop_more ks i x (omega arith) ∙ ap (λ z. z ∷ more) (sym here)
    ∙ ap (λ ys. x ∷ ys) (sym (take-append-drop n more) ∙ ap (λ ys. take n more ++ ys) from_second ∙ sym (append_assoc (take n more) (y ∷ []) last)))

-- what is kept is no longer than what keeps it
pub kept_long : {A : Type 0} (old new : List A) → take (length old) new ≡ old → length old ≤ length new
kept_long old new kept = (let e = sym (length-take (length old) new) ∙ ap length kept in omega arith)
