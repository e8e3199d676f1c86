-- Lemmas on the nodes that have an edge to a node.
use Rattle.std.proofs.Common.{◌≡◌, ◌∙◌, ℕ, zero, suc, ◌<◌, Bool, true, false, cond, ◌==◌, List, [], ◌∷◌, ◌++◌, Some, Global, ⊎_elim, refl, sym, ap, subst, length, map, get_or, set, arith}
use Rattle.std.proofs.lemmas.Bool.{cases_eq, eq-eqb, eqb-true, ne_eqb}
use Rattle.std.proofs.lemmas.List.{append-nil, map-append}
use Rattle.std.proofs.lemmas.List.Elements.{All-filter, All-map, All-weaker, filter-append}
use Rattle.std.proofs.lemmas.Option.{same_Some, slice_get_read, slice_get_within}
use Rattle.std.specs.List.{All, filter, slice_get}
use Rattle.std.specs.declared.vec.Vec.{Vec}
use Rattle.schema_meaning.specs.Members.{In, first, later}
use Rattle.marked_nodes.specs.Sources.{IsWithin, HoldsSources, sources_of}
use Rattle.marked_nodes.specs.declared.graph.Edge.{Edge}

get-set_same : {A : Type 0} (xs : List A) (i : ℕ) (x : A) → i < length xs → slice_get (set xs i x) i ≡ Some x
get-set_same [] i x h = absurd (omega arith)
get-set_same (y ∷ xs) zero x h = refl
get-set_same (y ∷ xs) (suc i) x h = get-set_same xs i x (omega arith)

get-set_other : {A : Type 0} (xs : List A) (i j : ℕ) (x : A) → (i ≡ j → ⊥) → slice_get (set xs i x) j ≡ slice_get xs j
get-set_other [] i j x h = refl
get-set_other (y ∷ xs) zero zero x h = absurd (h refl)
get-set_other (y ∷ xs) zero (suc j) x h = refl
get-set_other (y ∷ xs) (suc i) zero x h = refl
get-set_other (y ∷ xs) (suc i) (suc j) x h = get-set_other xs i j x (λ e. h (ap suc e))

sources-append : (xs ys : List Edge) (i : ℕ) → sources_of (xs ++ ys) i ≡ sources_of xs i ++ sources_of ys i
sources-append xs ys i =
    ap (map (λ (e : Edge). e.from)) (filter-append (λ e. e.to == i) xs ys) ∙ map-append (λ e. e.from) (filter (λ e. e.to == i) xs) (filter (λ e. e.to == i) ys)

source_here : (e : Edge) (i : ℕ) → e.to ≡ i → sources_of (e ∷ []) i ≡ e.from ∷ []
source_here e i h = ap (λ b. map (λ (e : Edge). e.from) (cond b (e ∷ []) [])) (eq-eqb e.to i h)

source_elsewhere : (e : Edge) (i : ℕ) → (e.to ≡ i → ⊥) → sources_of (e ∷ []) i ≡ []
source_elsewhere e i h = ap (λ b. map (λ (e : Edge). e.from) (cond b (e ∷ []) [])) (ne_eqb e.to i h)

-- one more edge, whose source goes behind the others of its end
module _ (edges : List Edge) (e : Edge) (lists : List (Vec ℕ Global)) (old new : Vec ℕ Global) (held : HoldsSources edges lists) (at : slice_get lists e.to ≡ Some old) (pushed : new.items ≡ old.items ++ e.from ∷ []) where
  holds_here : new.items ≡ sources_of (edges ++ e ∷ []) e.to
  holds_here = pushed ∙ ap (λ l. l ++ e.from ∷ []) (held e.to old at) ∙ sym (ap (λ l. sources_of edges e.to ++ l) (source_here e e.to refl)) ∙ sym (sources-append edges (e ∷ []) e.to)

  holds_elsewhere : (i : ℕ) (list : Vec ℕ Global) → (e.to ≡ i → ⊥) → slice_get lists i ≡ Some list → list.items ≡ sources_of (edges ++ e ∷ []) i
  holds_elsewhere i list other h =
      held i list h ∙ sym (append-nil (sources_of edges i)) ∙ sym (ap (λ l. sources_of edges i ++ l) (source_elsewhere e i other)) ∙ sym (sources-append edges (e ∷ []) i)

  same_list : (i : ℕ) (list : Vec ℕ Global) → e.to ≡ i → slice_get (set lists e.to new) i ≡ Some list → new ≡ list
  same_list i list same h = same_Some new list (sym (get-set_same lists e.to new (slice_get_within lists e.to old at)) ∙ ap (λ j. slice_get (set lists e.to new) j) same ∙ h)

  pub holds_more : HoldsSources (edges ++ e ∷ []) (set lists e.to new)
  holds_more i list h =
      ⊎_elim (λ same. ap (λ (v : Vec ℕ Global). v.items) (sym (same_list i list same h)) ∙ holds_here ∙ ap (sources_of (edges ++ e ∷ [])) same)
      (λ other. holds_elsewhere i list other (sym (get-set_other lists e.to i new other) ∙ h)) (cases_eq e.to i)

-- a node of the sources has an edge to the node
pub record HasEdge (edges : List Edge) (i source : ℕ) : Type 0 where
  pub edge : Edge
  pub among : In edge edges
  pub from : edge.from ≡ source
  pub to : edge.to ≡ i

has_more : (e : Edge) (edges : List Edge) (i source : ℕ) → HasEdge edges i source → HasEdge (e ∷ edges) i source
has_more e edges i source h = record { edge = h.edge; among = later h.among; from = h.from; to = h.to }

has_first : (e : Edge) (edges : List Edge) (i source : ℕ) (b : Bool) → (e.to == i) ≡ b → (In source (sources_of edges i) → HasEdge edges i source)
    → In source (map (λ e. e.from) (cond b (e ∷ filter (λ e. e.to == i) edges) (filter (λ e. e.to == i) edges))) → HasEdge (e ∷ edges) i source
has_first e edges i _ true h rest first = record { edge = e; among = first; from = refl; to = eqb-true e.to i h }
has_first e edges i source true h rest (later k) = has_more e edges i source (rest k)
has_first e edges i source false h rest k = has_more e edges i source (rest k)

pub source_edge : (edges : List Edge) (i source : ℕ) → In source (sources_of edges i) → HasEdge edges i source
source_edge [] i source h = elim h [ ]
source_edge (e ∷ edges) i source h = has_first e edges i source (e.to == i) refl (source_edge edges i source) h

-- each edge's source is among the sources of its end
pub edge_source : (e : Edge) (edges : List Edge) → In e edges → In e.from (sources_of edges e.to)
edge_source e [] h = elim h [ ]
edge_source e (_ ∷ edges) first =
    subst (λ b. In e.from (map (λ (e : Edge). e.from) (cond b (e ∷ filter (λ (f : Edge). f.to == e.to) edges) (filter (λ (f : Edge). f.to == e.to) edges)))) (sym (eq-eqb e.to e.to refl)) first
edge_source e (f ∷ edges) (later h) = later_source e f edges (f.to == e.to) (edge_source e edges h)
  where
    later_source : (e f : Edge) (edges : List Edge) (b : Bool) → In e.from (sources_of edges e.to)
        → In e.from (map (λ f. f.from) (cond b (f ∷ filter (λ f. f.to == e.to) edges) (filter (λ f. f.to == e.to) edges)))
    later_source e f edges true k = later k
    later_source e f edges false k = k

pub sources_within : (count : ℕ) (edges : List Edge) (i : ℕ) → All (IsWithin count) edges → All (λ j. j < count) (sources_of edges i)
sources_within count edges i h =
    All-map (λ j. j < count) (λ e. e.from) (filter (λ e. e.to == i) edges)
    (All-filter (λ e. e.to == i) (λ e. e.from < count) edges (All-weaker (IsWithin count) (λ e. e.from < count) (λ e w. w.0) edges h))

-- a read of a node's list
pub holds_read : (edges : List Edge) (lists : List (Vec ℕ Global)) (i : ℕ) (list : Vec ℕ Global) → HoldsSources edges lists → i < length lists → list ≡ get_or lists i list → list.items ≡ sources_of edges i
holds_read edges lists i list held within is = held i list (slice_get_read lists (length lists) i list refl within is)
