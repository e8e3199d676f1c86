-- The numbers of what a keyword asks: its leads, and behind an `if` what stands beside.
use Rattle.std.proofs.Common.{◌≡◌, ◌+◌, ℕ, List, [], ◌∷◌, Bool, Option, Some, None, is_some, take, slice_get}
use Rattle.std.specs.List.{AllZip}
use Rattle.std.specs.Prelude.{if◌then◌else◌}
use Rattle.std.specs.Borrow.{Bor}
use Rattle.serde_json.specs.declared.value.Value.{Value}
use Rattle.schema_definitions.specs.Bearers.{Documents}
use Rattle.schema_definitions.specs.Sites.{Site}
use Rattle.schema_meaning.specs.Linked.{Linked}
use Rattle.schema_sites.specs.declared.keyword.Keyword.TheVariants as reads
use Rattle.keyword_compilers.specs.Linking.{AreNodesOf}
use Rattle.keyword_compilers.specs.declared.nodes.Nodes.{Nodes}
use Rattle.compiled_graphs.specs.Asked.{asked_by}
use Rattle.compiled_graphs.specs.Filled.{node_if}

abbrev one_or_none : Bool → ℕ
one_or_none b = if b then 1 else 0

module _ (docs : Documents) (s : Site) (pairs : List (Site × ℕ)) where
  -- the numbers as they are split
  pub record IsSplit (c : Bor Value) (a b : Option (Bor Value)) (ns : List ℕ) (nodes : Nodes) : Type 0 where
    pub leads : nodes.leads.now ≡ take 1 ns
    pub then_is : nodes.then_node ≡ node_if (is_some a) (slice_get ns 1)
    pub else_is : nodes.else_node ≡ node_if (is_some b) (slice_get ns (1 + one_or_none (is_some a)))

  pub if-split : (c : Bor Value) (a b : Option (Bor Value)) (ns : List ℕ) (nodes : Nodes) → IsSplit c a b ns nodes → AllZip (Linked pairs) (asked_by docs s (reads.If c a b)) ns
      → AreNodesOf pairs docs s (reads.If c a b) nodes
  if-split c a b [] nodes h z = absurd z
  if-split c None None (n ∷ []) nodes h z = rw (h.leads, h.then_is, h.else_is) (record { leads = (z.0, tt); too = (tt, tt) })
  if-split c None None (n ∷ m ∷ ns) nodes h z = absurd z.1
  if-split c (Some x) None (n ∷ []) nodes h z = absurd z.1
  if-split c (Some x) None (n ∷ m ∷ []) nodes h z = rw (h.leads, h.then_is, h.else_is) (record { leads = (z.0, tt); too = (z.1.0, tt) })
  if-split c (Some x) None (n ∷ m ∷ l ∷ ns) nodes h z = absurd z.1.1
  if-split c None (Some y) (n ∷ []) nodes h z = absurd z.1
  if-split c None (Some y) (n ∷ m ∷ []) nodes h z = rw (h.leads, h.then_is, h.else_is) (record { leads = (z.0, tt); too = (tt, z.1.0) })
  if-split c None (Some y) (n ∷ m ∷ l ∷ ns) nodes h z = absurd z.1.1
  if-split c (Some x) (Some y) (n ∷ []) nodes h z = absurd z.1
  if-split c (Some x) (Some y) (n ∷ m ∷ []) nodes h z = absurd z.1.1
  if-split c (Some x) (Some y) (n ∷ m ∷ l ∷ []) nodes h z = rw (h.leads, h.then_is, h.else_is) (record { leads = (z.0, tt); too = (z.1.0, z.1.1.0) })
  if-split c (Some x) (Some y) (n ∷ m ∷ l ∷ k ∷ ns) nodes h z = absurd z.1.1.1
