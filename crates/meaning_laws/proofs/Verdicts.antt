-- The bag of faults is empty exactly where the verdict is yes.
use Rattle.std.proofs.Common.{◌≡◌, ℕ, zero, suc, List, [], ◌∷◌, Bool, true, false, ◌&&◌, map, Option, None, option_map, refl, sym, ap, ap₂, ◌∙◌}
use Rattle.schema_meaning.specs.Members.{is_empty, all_true}
use Rattle.json_values.specs.Parts.{Part}
use Rattle.schema_meaning.specs.Places.{Spot, Key}
use Rattle.schema_meaning.specs.Faults.{Fault, Faults, none, also, joined, join, is_none}
use Rattle.schema_meaning.specs.Questions.{Question, asked_at}
use Rattle.schema_meaning.specs.Rules.{Note, Rule, every, together, each_named, some_branch, one_branch, refusal, counted, conditional, asks, accepts, faults, own_faults, one_fault, each_of_object, chosen, if_same}
use Rattle.schema_meaning.specs.Readings.{Reading, rules, verdicts, bags, tell_one, tell, by_kind, asked, through, told}
use Rattle.schema_meaning.specs.Cut.{cut_one, cut_all, cut_unless, cut_by_kind, cut_asked, cut_within, cut, is_in_progress}
use Rattle.schema_meaning.specs.Circular.{key_at}
use Rattle.meaning_laws.specs.Laws.{FaultsTellVerdict, CutAgrees}
use Rattle.meaning_laws.proofs.Known.{all_known-through, option_map-twice, option_map-same, map_through}

pub is_none-joined : (fs gs : Faults) → is_none (joined fs gs) ≡ (is_none fs && is_none gs)
is_none-joined none gs = refl
is_none-joined (also f fs) gs = refl

pub is_none-join : (answers : List Faults) → is_none (join answers) ≡ all_true (map is_none answers)
is_none-join [] = refl
is_none-join (fs ∷ rest) = is_none-joined fs (join rest) ∙ ap (λ b. is_none fs && b) (is_none-join rest)

is_none-own : (w : Spot) (above p : List Part) (notes : List Note) → is_none (own_faults w above p notes) ≡ is_empty notes
is_none-own w above p [] = refl
is_none-own w above p (note ∷ notes) = refl

is_none-one : (b : Bool) (f : Fault) → is_none (one_fault b f) ≡ b
is_none-one true f = refl
is_none-one false f = refl

is_none-each_of_object : (w : Spot) (fs : Faults) → is_none (each_of_object w fs) ≡ is_none fs
is_none-each_of_object w none = refl
is_none-each_of_object w (also f fs) = refl

if_same-map : {A B : Type 0} (f : A → B) (b c : Bool) (x : A) (xs : List A) → map f (if_same b c x xs) ≡ if_same b c (f x) (map f xs)
if_same-map f true true x xs = refl
if_same-map f true false x xs = refl
if_same-map f false true x xs = refl
if_same-map f false false x xs = refl

pub chosen-map : {S A B : Type 0} (f : A → B) (b : Bool) (cs : List (Bool × Question S)) (xs : List A) → map f (chosen b cs xs) ≡ chosen b cs (map f xs)
chosen-map f b [] xs = refl
chosen-map f b (c ∷ cs) [] = refl
chosen-map f b (c ∷ cs) (x ∷ xs) = if_same-map f b c.0 x (chosen b cs xs) ∙ ap (λ ys. if_same b c.0 (f x) ys) (chosen-map f b cs xs)

-- of one keyword
pub rule_agrees : {S : Type 0} (k : Rule S) (w : Spot) (above : List Part) (answers : List Faults) → is_none (faults k w above answers) ≡ accepts k (map is_none answers)
rule_agrees (every p notes qs) w above answers =
    is_none-joined (own_faults w above p notes) (join answers) ∙ ap₂ (λ a b. a && b) (is_none-own w above p notes) (is_none-join answers)
rule_agrees (together p note qs) w above answers = is_none-one _ _
rule_agrees (each_named p s names) w above answers = is_none-each_of_object w (join answers) ∙ is_none-join answers
rule_agrees (some_branch p qs) w above answers = is_none-one _ _
rule_agrees (one_branch p qs) w above answers = is_none-one _ _
rule_agrees (refusal p schema q) w above answers = is_none-one _ _
rule_agrees (counted least most qs) w above answers = is_none-one _ _
rule_agrees (conditional q cs) w above [] = refl
rule_agrees (conditional q cs) w above (fs ∷ rest) = is_none-join (chosen (is_none fs) cs rest) ∙ ap all_true (chosen-map is_none (is_none fs) cs rest)

-- ---- out together

module _ {S : Type 0} (r : Reading S) where
  one_agrees : (w : Spot) (above : List Part) (f : Question S → Option Faults) (g : Question S → Option Bool) → ((q : Question S) → option_map is_none (f q) ≡ g q)
      → (k : Rule S) → option_map is_none (tell_one bags w above f k) ≡ tell_one verdicts w above g k
  one_agrees w above f g h k =
      option_map-twice (faults k w above) is_none _ ∙ option_map-same _ _ (rule_agrees k w above) _ ∙ sym (option_map-twice (map is_none) (accepts k) _)
      ∙ ap (option_map (accepts k)) (all_known-through is_none f g h (asks k))

  tell_agrees : (w : Spot) (above : List Part) (f : Question S → Option Faults) (g : Question S → Option Bool) → ((q : Question S) → option_map is_none (f q) ≡ g q)
      → (ks : List (Rule S)) → option_map is_none (tell bags w above f ks) ≡ tell verdicts w above g ks
  tell_agrees w above f g h ks =
      option_map-twice join is_none _ ∙ option_map-same _ _ is_none-join _ ∙ sym (option_map-twice (map is_none) all_true _)
      ∙ ap (option_map all_true) (all_known-through is_none (tell_one bags w above f) (tell_one verdicts w above g) (one_agrees w above f g h) ks)

  kind_agrees : (b : Bool) (f h : S → Spot → Option Faults) (g k : S → Spot → Option Bool) (s : S) (w : Spot) → option_map is_none (f s w) ≡ g s w → option_map is_none (h s w) ≡ k s w
      → option_map is_none (by_kind b f h s w) ≡ by_kind b g k s w
  kind_agrees true f h g k s w p q = p
  kind_agrees false f h g k s w p q = q

  through_agrees : (f : S → Spot → Option Faults) (g : S → Spot → Option Bool) → ((s : S) (w : Spot) → option_map is_none (f s w) ≡ g s w) → (l : ℕ) (s : S) (w : Spot)
      → option_map is_none (through bags r f l s w) ≡ through verdicts r g l s w
  unfolding through
  through_agrees f g h zero s w = refl
  through_agrees f g h (suc l) s w =
      tell_agrees w (r.schema_path s) (asked f (through bags r f l) w) (asked g (through verdicts r g l) w)
      (λ q. kind_agrees q.follows f (through bags r f l) g (through verdicts r g l) q.site (asked_at w q) (h q.site (asked_at w q)) (through_agrees f g h l q.site (asked_at w q)))
      (rules r s w.value)

  pub told_agrees : (n : ℕ) (s : S) (w : Spot) → option_map is_none (told bags r n s w) ≡ told verdicts r n s w
  unfolding told
  told_agrees zero s w = through_agrees (λ s w. None) (λ s w. None) (λ s w. refl) (suc r.nesting) s w
  told_agrees (suc n) s w = through_agrees (told bags r n) (told verdicts r n) (told_agrees n) (suc r.nesting) s w

  -- ---- the cut reading

  cut_all_agrees : (w : Spot) (above : List Part) (f : Question S → Faults) (g : Question S → Bool) → ((q : Question S) → is_none (f q) ≡ g q) → (ks : List (Rule S))
      → is_none (cut_all bags w above f ks) ≡ cut_all verdicts w above g ks
  cut_all_agrees w above f g h ks =
      is_none-join (map (cut_one bags w above f) ks)
      ∙ ap all_true (map_through is_none (cut_one bags w above f) (cut_one verdicts w above g)
      (λ k. rule_agrees k w above (map f (asks k)) ∙ ap (accepts k) (map_through is_none f g h (asks k))) ks)

  cut_unless_agrees : (b : Bool) (fs : Faults) (v : Bool) → is_none fs ≡ v → is_none (cut_unless b none fs) ≡ cut_unless b true v
  cut_unless_agrees true fs v e = refl
  cut_unless_agrees false fs v e = e

  cut_kind_agrees : (b : Bool) (f : List Key → S → Spot → Faults) (g : List Key → S → Spot → Bool) → ((ks : List Key) (s : S) (w : Spot) → is_none (f ks s w) ≡ g ks s w)
      → (ks : List Key) (w : Spot) (q : Question S) → is_none (cut_by_kind b bags r f ks w q) ≡ cut_by_kind b verdicts r g ks w q
  cut_kind_agrees true f g h ks w q = cut_unless_agrees (is_in_progress (key_at r w q) ks) _ _ (h (key_at r w q ∷ ks) q.site (asked_at w q))
  cut_kind_agrees false f g h ks w q = h ks q.site (asked_at w q)

  pub cut_within_agrees : (n : ℕ) (ks : List Key) (s : S) (w : Spot) → is_none (cut_within bags r n ks s w) ≡ cut_within verdicts r n ks s w
  unfolding cut_within
  cut_within_agrees zero ks s w = refl
  cut_within_agrees (suc n) ks s w =
      cut_all_agrees w (r.schema_path s) (cut_asked bags r (cut_within bags r n) ks w) (cut_asked verdicts r (cut_within verdicts r n) ks w)
      (λ q. cut_kind_agrees q.follows (cut_within bags r n) (cut_within verdicts r n) (cut_within_agrees n) ks w q) (rules r s w.value)

pub faults_tell_verdict : (S : Type 0) → FaultsTellVerdict S
faults_tell_verdict S r n s w = told_agrees r n s w

pub cut_agrees : (S : Type 0) → CutAgrees S
unfolding cut
cut_agrees S r all keys s w = cut_within_agrees r _ keys s w
