-- What stands under a name.
use Rattle.std.proofs.Common.{◌≡◌, ℕ, List, [], ◌∷◌, ◌++◌, Bool, true, false, not, ◌&&◌, ◌||◌, cond, if◌then◌else◌, Option, Some, None, option_map, option_and_then, Bor, String, Global, string_bytes, refl, sym, ap, ◌∙◌, bytes_eq}
use Rattle.std.specs.Option.{option_copied}
use Rattle.std.specs.String.{string_cmp}
use Rattle.std.specs.Ordering.{nat_cmp}
use Rattle.std.specs.Cmp.Lexicographic.{slice_cmp}
use Rattle.std.specs.BTreeMap.{BTreeMap, get_by_text, UpdatesBy, is_at}
use Rattle.std.specs.Map.{lookup}
use Rattle.std.proofs.lemmas.Map.Text.{btree_map_updates_text}
use Rattle.std.proofs.lemmas.Slice.Eq.{bytes_eq-Decides}
use Rattle.std.proofs.lemmas.List.Folds.{list_any-append}
use Rattle.schema_definitions.specs.Words.{has_text}
use Rattle.schema_definitions.specs.Bearers.{Standing}
use Rattle.document_index.specs.Located.{Located, Kept, kept_of, last_located}
use Rattle.document_index.specs.Indexes.{bearer_of, named, anchor_named}
use Rattle.document_index.specs.declared.index.Bearer.{Bearer}
use Rattle.document_index.proofs.LastLemmas.{last_that-push}

-- what a look-up lends
pub lent : {X K : Type 0} (f : X → K) (o : Option (Bor X)) (p : Option X) → option_copied o ≡ p → option_map (λ b. f b.now) o ≡ option_map f p
lent f None p e = ap (option_map f) e
lent f (Some b) p e = ap (option_map f) e

pub lent-then : {X K : Type 0} (f : X → Option K) (o : Option (Bor X)) (p : Option X) → option_copied o ≡ p → option_and_then (λ b. f b.now) o ≡ option_and_then f p
lent-then f None p e = ap (option_and_then f) e
lent-then f (Some b) p e = ap (option_and_then f) e

map-if : {X K : Type 0} (f : X → K) (b : Bool) (x : X) (o : Option X) → option_map f (if b then Some x else o) ≡ (if b then Some (f x) else option_map f o)
map-if f true x o = refl
map-if f false x o = refl

-- a map with one more under a name
pub named-put : (name key : List ℕ) (old new : BTreeMap (String Global) Bearer) (b : Bearer) (k : Kept) → key ≡ name → bearer_of b ≡ k
    → UpdatesBy string_cmp (λ t. slice_cmp nat_cmp key (string_bytes t)) old new (Some b) → (q : List ℕ) → named new q ≡ (if bytes_eq name q then Some k else named old q)
named-put name key old new b k text is put q =
    ap (option_map bearer_of) (btree_map_updates_text key old new (Some b) put q)
    ∙ map-if bearer_of (bytes_eq key q) b (get_by_text old q)
    ∙ ap (λ t. if bytes_eq t q then Some (bearer_of b) else named old q) text
    ∙ ap (λ v. if bytes_eq name q then Some v else named old q) is

pub named-nothing : (names : BTreeMap (String Global) Bearer) → names.entries ≡ [] → (q : List ℕ) → named names q ≡ None
named-nothing names e q = ap (λ es. option_map bearer_of (lookup (is_at (λ t. slice_cmp nat_cmp q (string_bytes t))) es)) e

-- what stands under a base that was found, and under one that was not
pub under-found : (bases : BTreeMap (String Global) (BTreeMap (String Global) Bearer)) (names : BTreeMap (String Global) Bearer) (base key : List ℕ)
    → key ≡ base → Some names ≡ get_by_text bases key → (q : List ℕ) → named names q ≡ anchor_named bases base q
under-found bases names base key text found q = ap (option_and_then (λ ns. named ns q)) found ∙ ap (λ t. anchor_named bases t q) text

pub under-nothing : (bases : BTreeMap (String Global) (BTreeMap (String Global) Bearer)) (base key : List ℕ)
    → key ≡ base → None ≡ get_by_text bases key → (q : List ℕ) → None ≡ anchor_named bases base q
under-nothing bases base key text found q = ap (option_and_then (λ ns. named ns q)) found ∙ ap (λ t. anchor_named bases t q) text

-- a map with the names of a base put anew, where one more name was put among them
module _ (base name key : List ℕ) (old new : BTreeMap (String Global) (BTreeMap (String Global) Bearer)) (names : BTreeMap (String Global) Bearer) (k : Kept) (text : key ≡ base)
    (put : UpdatesBy string_cmp (λ t. slice_cmp nat_cmp key (string_bytes t)) old new (Some names))
    (inner : (q : List ℕ) → named names q ≡ (if bytes_eq name q then Some k else anchor_named old base q)) (b q : List ℕ) where
  by_base : (c : Bool) → bytes_eq base b ≡ c
      → option_and_then (λ ns. named ns q) (cond c (Some names) (get_by_text old b)) ≡ (if c && bytes_eq name q then Some k else anchor_named old b q)
  by_base true e = inner q ∙ ap (λ t. if bytes_eq name q then Some k else anchor_named old t q) ((bytes_eq-Decides base b).0 e)
  by_base false e = refl

  pub anchor-put : anchor_named new b q ≡ (if bytes_eq base b && bytes_eq name q then Some k else anchor_named old b q)
  anchor-put =
      ap (option_and_then (λ ns. named ns q)) (btree_map_updates_text key old new (Some names) put b)
      ∙ ap (λ t. option_and_then (λ ns. named ns q) (cond (bytes_eq t b) (Some names) (get_by_text old b))) text
      ∙ by_base (bytes_eq base b) refl

-- one more place
pub last-push : (test : Standing → Bool) (ls : List Located) (l : Located) (o : Option Kept) → o ≡ option_map kept_of (last_located test ls)
    → (if test l.standing then Some (kept_of l) else o) ≡ option_map kept_of (last_located test (ls ++ l ∷ []))
last-push test ls l o e =
    ap (λ p. if test l.standing then Some (kept_of l) else p) e
    ∙ sym (map-if kept_of (test l.standing) l (last_located test ls))
    ∙ sym (ap (option_map kept_of) (last_that-push (λ (m : Located). test m.standing) ls l))

-- two names put one after the other
twice : (a first second : Bool) (k : Kept) (o : Option Kept) → (if a && second then Some k else (if a && first then Some k else o)) ≡ (if a && (first || second) then Some k else o)
twice false first second k o = refl
twice true true true k o = refl
twice true true false k o = refl
twice true false second k o = refl

pub both-put : (is a : Bool) (q : List ℕ) (first second all : List (List ℕ)) (k : Kept) (old mid new : Option Kept) → is ≡ false → first ++ second ≡ all
    → mid ≡ (if a && has_text q first then Some k else old) → new ≡ (if a && has_text q second then Some k else mid)
    → new ≡ (if not is && a && has_text q all then Some k else old)
both-put true a q first second all k old mid new settled join one other = absurd cc
both-put false a q first second all k old mid new settled join one other =
    other ∙ ap (λ m. if a && has_text q second then Some k else m) one
    ∙ twice a (has_text q first) (has_text q second) k old
    ∙ ap (λ h. if a && h then Some k else old) (sym (list_any-append (bytes_eq q) first second))
    ∙ ap (λ ts. if a && has_text q ts then Some k else old) join
