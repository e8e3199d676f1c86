-- Names put among others, and wants of which some are known.
use Rattle.std.proofs.Common.{◌≡◌, ℕ, List, [], ◌∷◌, ◌++◌, Bool, true, false, ◌||◌, cond, if◌then◌else◌, Option, Some, None, option_map, is_some, String, Global, string_bytes, refl, sym, ap, ◌∙◌, bytes_eq}
use Rattle.std.specs.List.{list_any}
use Rattle.std.specs.String.{string_cmp}
use Rattle.std.specs.Ordering.{nat_cmp}
use Rattle.std.specs.Cmp.Lexicographic.{slice_cmp}
use Rattle.std.specs.BTreeMap.{BTreeMap, get_by_text, UpdatesBy}
use Rattle.std.proofs.lemmas.Map.Text.{btree_map_updates_text}
use Rattle.schema_definitions.specs.Rounds.{Want, further}

some-if : {V : Type 0} (b : Bool) (v : V) (o : Option V) → is_some (cond b (Some v) o) ≡ (is_some o || b)
some-if true v None = refl
some-if true v (Some x) = refl
some-if false v None = refl
some-if false v (Some x) = refl

-- one more name
pub has-put : {V : Type 0} (name key : List ℕ) (old new : BTreeMap (String Global) V) (v : V) → key ≡ name
    → UpdatesBy string_cmp (λ t. slice_cmp nat_cmp key (string_bytes t)) old new (Some v) → (q : List ℕ)
    → is_some (get_by_text new q) ≡ (is_some (get_by_text old q) || bytes_eq name q)
has-put name key old new v text put q =
    ap is_some (btree_map_updates_text key old new (Some v) put q)
    ∙ some-if (bytes_eq key q) v (get_by_text old q)
    ∙ ap (λ t. is_some (get_by_text old q) || bytes_eq t q) text

or-empty : (b : Bool) → b ≡ (b || false)
or-empty true = refl
or-empty false = refl

pub or-in-turn : (a b c : Bool) → (a || (b || c)) ≡ ((a || b) || c)
or-in-turn true b c = refl
or-in-turn false b c = refl

pub any-push : {X : Type 0} (test : X → Bool) (xs : List X) (x : X) → list_any test (xs ++ x ∷ []) ≡ (list_any test xs || test x)
any-push test [] x = sym (or-empty (test x))
any-push test (y ∷ xs) x = ap (λ b. test y || b) (any-push test xs x) ∙ or-in-turn (test y) (list_any test xs) (test x)

-- what is known alike leaves the same wants
pub further-same : (f g : List ℕ → Bool) → ((q : List ℕ) → f q ≡ g q) → (ws : List Want) → further f ws ≡ further g ws
further-same f g e [] = refl
further-same f g e (w ∷ ws) =
    ap (λ b. if b then further f ws else w ∷ further (λ u. f u || bytes_eq w.uri u) ws) (e w.uri)
    ∙ ap (λ l. if g w.uri then l else w ∷ further (λ u. f u || bytes_eq w.uri u) ws) (further-same f g e ws)
    ∙ ap (λ l. if g w.uri then further g ws else w ∷ l) (further-same (λ u. f u || bytes_eq w.uri u) (λ u. g u || bytes_eq w.uri u) (λ u. ap (λ b. b || bytes_eq w.uri u) (e u)) ws)

-- a want that is not known comes first
pub further-first : (f g : List ℕ → Bool) (w : Want) → f w.uri ≡ false → ((q : List ℕ) → g q ≡ (f q || bytes_eq w.uri q)) → (ws : List Want)
    → (w ∷ further g ws) ≡ further f (w ∷ ws)
further-first f g w e also ws =
    ap (λ l. w ∷ l) (further-same g (λ u. f u || bytes_eq w.uri u) also ws)
    ∙ sym (ap (λ b. if b then further f ws else w ∷ further (λ u. f u || bytes_eq w.uri u) ws) e)

-- somebody bears a URI by an index where somebody does in the documents
pub borne : {X Y Z : Type 0} (f : X → Y) (g : X → Z) (o : Option X) → is_some (option_map f o) ≡ is_some (option_map g o)
borne f g None = refl
borne f g (Some x) = refl
