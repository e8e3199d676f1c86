-- Compiled keywords are keywords still, and ask no other nodes than those given.
use Rattle.std.proofs.Common.{arith, ◌≡◌, ◌⊎◌, ◌++◌, ℕ, suc, List, [], ◌∷◌, map, length, Bool, true, false, Option, None, Some, IfSome, inl, inr, refl, sym, subst}
use Rattle.std.specs.List.{flat_map, AllByRecursion}
use Rattle.serde_json.specs.Data.{Data, null, boolean, number, string, array, object, Members, no_members, member}
use Rattle.serde_json.specs.View.{members_view}
use Rattle.json_values.specs.Parts.{Part}
use Rattle.schema_definitions.specs.Bearers.{Documents}
use Rattle.schema_definitions.specs.Rows.{sites_named, sites_applied, member_names}
use Rattle.schema_definitions.specs.Sites.{Site, below}
use Rattle.schema_meaning.specs.Keywords.{Assertion, Reference, Shape, asserts, condition, reference}
use Rattle.schema_meaning.specs.Members.{In, first, later}
use Rattle.schema_engine.specs.Leads.{nodes_of, subschemas_of, targets_of, leads_of, if_some, if_applies}
use Rattle.applicators.specs.Applied.{name_of, combining_of, asks_of}
use Rattle.applicators.specs.Asks.{leads_by}
use Rattle.applicators.specs.Bare.{bare}
use Rattle.applicators.specs.Forms.{Form, each_from, of_names, of_value, of_condition, asks_each, asks_all, asks_some_of, shape_by, stands}
use Rattle.applicators.specs.Lent as lent
use Rattle.applicators.specs.Sites.{sites_of_map, dependencies_in}
use Rattle.applicators.specs.declared.asks.AsksOf.TheVariants as asks
use Rattle.applicators.specs.declared.combining.Combining.{Combining}
use Rattle.applicators.specs.declared.combining.Combining.TheVariants as code
use Rattle.schema_sites.specs.Read as read
use Rattle.schema_sites.specs.declared.keyword.Keyword.{Keyword}
use Rattle.schema_sites.specs.declared.keyword.Keyword.TheVariants as reads
use Rattle.compiled_keywords.specs.Shapes.{shape_of}
use Rattle.compiled_keywords.specs.declared.keyword.Keyword.{Keyword as Compiled}
use Rattle.keyword_compilers.specs.Linking.{IsGiven}
use Rattle.keyword_compilers.specs.Numbers.{first_in, rest_in, beside, dependencies_by}
use Rattle.keyword_compilers.specs.Shapes.{numbered_form, numbered_shapes, shapes_in}
use Rattle.keyword_compilers.specs.declared.nodes.Nodes.{Nodes}

-- ---- what is asked is named and combined as before

module _ (nodes : Nodes) where
  each_numbered : (f : lent.Asks) → asks_each (numbered_form nodes f) ≡ asks_each (bare f)
  each_numbered (asks.Names schema) = refl
  each_numbered f = refl

  all_numbered : (f : lent.Asks) → asks_all (numbered_form nodes f) ≡ asks_all (bare f)
  all_numbered (asks.Dependencies entries) = refl
  all_numbered f = refl

  some_numbered : (f : lent.Asks) → asks_some_of (numbered_form nodes f) ≡ asks_some_of (bare f)
  some_numbered (asks.Members schema) = refl
  some_numbered f = refl

  pub stands_numbered : (k : List ℕ) (c : Combining) (f : lent.Asks) → stands k c (numbered_form nodes f) ≡ stands k c (bare f)
  stands_numbered k code.Every f = each_numbered f
  stands_numbered k code.Together f = all_numbered f
  stands_numbered k code.EachNamed (asks.Names schema) = refl
  stands_numbered k code.SomeBranch f = some_numbered f
  stands_numbered k code.OneBranch f = some_numbered f
  stands_numbered k code.Refusal (asks.Value schema) = refl
  stands_numbered k (code.Counted least most) (asks.ItemsFrom start schema) = refl
  stands_numbered k code.Conditional (asks.Condition schema then_schema else_schema) = refl
  stands_numbered k c f = refl

-- ---- the nodes of a shape are those of what is asked

module _ (m : ℕ) where
  of_shape : (k : List ℕ) (c : Combining) (f : Form ℕ) → In m (subschemas_of (shape_by k c f)) → In m (nodes_of f)
  of_shape k code.Every f h = h
  of_shape k code.Together f h = h
  of_shape k code.EachNamed (of_names n) h = h
  of_shape k code.SomeBranch f h = h
  of_shape k code.OneBranch f h = h
  of_shape k code.Refusal (of_value schema n) h = h
  of_shape k (code.Counted least most) (each_from start n) h = h
  of_shape k code.Conditional (of_condition n t e) h = h
  of_shape k c f h = absurd (elim h [ ])

  no_target : (k : List ℕ) (c : Combining) (f : Form ℕ) → In m (targets_of (shape_by k c f)) → ⊥
  no_target k code.Every f h = elim h [ ]
  no_target k code.Together f h = elim h [ ]
  no_target k code.EachNamed (of_names n) h = elim h [ ]
  no_target k code.SomeBranch f h = elim h [ ]
  no_target k code.OneBranch f h = elim h [ ]
  no_target k code.Refusal (of_value schema n) h = elim h [ ]
  no_target k (code.Counted least most) (each_from start n) h = elim h [ ]
  no_target k code.Conditional (of_condition n t e) h = elim h [ ]
  no_target k c f h = elim h [ ]

-- ---- and these are among those given

module _ (m : ℕ) where
  nothing_in : In m [] → (A : Type 0) → A
  nothing_in i A = elim i [ ]

  -- the first of some nodes, and others behind it
  taken : (n : ℕ) (ns : List ℕ) (more : List ℕ → List ℕ) → suc n ≡ length ns → ((xs : List ℕ) → n ≡ length xs → In m (more xs) → In m xs) → In m (first_in ns ∷ more (rest_in ns)) → In m ns
  taken n [] more e f i = absurd (omega arith)
  taken n (x ∷ xs) more e f first = first
  taken n (x ∷ xs) more e f (later i) = later (f xs (omega arith) i)

  alone : (ns : List ℕ) → 1 ≡ length ns → In m (first_in ns ∷ []) → In m ns
  alone ns e i = taken 0 ns (λ xs. []) e (λ xs h j. nothing_in j _) i

  module _ (site : List Part → Data → Site) where
    from_names : (k : List ℕ) (ms : Members) (ns : List ℕ) → length (sites_named (sites_of_map site k ms)) ≡ length ns → In m (map (λ p. p.1) (beside (member_names ms) ns)) → In m ns
    from_names k no_members ns e i = nothing_in i _
    from_names k (member n d ms) ns e i = taken _ ns (λ xs. map (λ p. p.1) (beside (member_names ms) xs)) e (from_names k ms) i

    from_entries : (k : List ℕ) (ms : Members) (ns : List ℕ) → length (sites_applied (dependencies_in site k ms)) ≡ length ns → In m (flat_map (λ p. if_applies p.1) (dependencies_by ns ms)) → In m ns
    from_entries k no_members ns e i = nothing_in i _
    from_entries k (member n (array ds) ms) ns e i = from_entries k ms ns e i
    from_entries k (member n null ms) ns e i = taken _ ns (λ xs. flat_map (λ p. if_applies p.1) (dependencies_by xs ms)) e (from_entries k ms) i
    from_entries k (member n (boolean b) ms) ns e i = taken _ ns (λ xs. flat_map (λ p. if_applies p.1) (dependencies_by xs ms)) e (from_entries k ms) i
    from_entries k (member n (number x) ms) ns e i = taken _ ns (λ xs. flat_map (λ p. if_applies p.1) (dependencies_by xs ms)) e (from_entries k ms) i
    from_entries k (member n (string t) ms) ns e i = taken _ ns (λ xs. flat_map (λ p. if_applies p.1) (dependencies_by xs ms)) e (from_entries k ms) i
    from_entries k (member n (object es) ms) ns e i = taken _ ns (λ xs. flat_map (λ p. if_applies p.1) (dependencies_by xs ms)) e (from_entries k ms) i

  from_either : (t e : Option ℕ) → In m (if_some t ++ if_some e) → (t ≡ Some m) ⊎ (e ≡ Some m)
  from_either None None i = nothing_in i _
  from_either None (Some y) first = inr refl
  from_either None (Some y) (later i) = nothing_in i _
  from_either (Some x) e first = inl refl
  from_either (Some x) None (later i) = nothing_in i _
  from_either (Some x) (Some y) (later first) = inr refl
  from_either (Some x) (Some y) (later (later i)) = nothing_in i _

  from_choice : (ns : List ℕ) (t e : Option ℕ) → 1 ≡ length ns → In m (first_in ns ∷ (if_some t ++ if_some e)) → In m ns ⊎ ((t ≡ Some m) ⊎ (e ≡ Some m))
  from_choice [] t e one i = absurd (omega arith)
  from_choice (x ∷ ns) t e one first = inl first
  from_choice (x ∷ ns) t e one (later i) = inr (from_either t e i)

  module _ (nodes : Nodes) where
    from_asks : (site : List Part → Data → Site) (k : List ℕ) (f : lent.Asks) → length (leads_by site k f) ≡ length nodes.leads.now → In m (nodes_of (numbered_form nodes f)) → IsGiven nodes m
    from_asks site k (asks.ItemsFrom start schema) e i = inl (alone _ e i)
    from_asks site k (asks.ItemByItem schemas) e i = inl i
    from_asks site k (asks.DeclaredMembers schemas) e i = inl (from_names site k _ _ e i)
    from_asks site k (asks.MatchingMembers schemas) e i = inl (from_names site k _ _ e i)
    from_asks site k (asks.OtherMembers declared schema) e i = inl (alone _ e i)
    from_asks site k (asks.Members schema) e i = inl (alone _ e i)
    from_asks site k (asks.Names schema) e i = inl (alone _ e i)
    from_asks site k (asks.Triggered schemas) e i = inl (from_names site k _ _ e i)
    from_asks site k (asks.Dependencies entries) e i = inl (from_entries site k (members_view entries.now.entries) _ e i)
    from_asks site k (asks.Branches schemas) e i = inl i
    from_asks site k (asks.Value schema) e i = inl (alone _ e i)
    from_asks site k (asks.Condition schema then_schema else_schema) e i = from_choice _ _ _ e i

    from_applied : (site : List Part → Data → Site) (k : List ℕ) (c : Combining) (f : lent.Asks) → length (leads_by site k f) ≡ length nodes.leads.now
        → (follows : Bool) → In m (leads_of follows (shape_by k c (numbered_form nodes f))) → IsGiven nodes m
    from_applied site k c f e true i = absurd (no_target m k c (numbered_form nodes f) i)
    from_applied site k c f e false i = from_asks site k f e (of_shape m k c (numbered_form nodes f) i)

    from_reference : (e : 1 ≡ length nodes.leads.now) (r : Reference) (follows : Bool) → In m (leads_of follows (reference r (first_in nodes.leads.now))) → IsGiven nodes m
    from_reference e r true i = inl (alone _ e i)
    from_reference e r false i = nothing_in i _

    from_if : (e : 1 ≡ length nodes.leads.now) (follows : Bool) → In m (leads_of follows (condition (first_in nodes.leads.now) nodes.then_node nodes.else_node)) → IsGiven nodes m
    from_if e true i = nothing_in i _
    from_if e false i = from_choice _ _ _ e i

    from_asserts : (a : Assertion) (follows : Bool) → In m (leads_of follows (asserts a)) → IsGiven nodes m
    from_asserts a true i = nothing_in i _
    from_asserts a false i = nothing_in i _

abbrev Given : Nodes → Shape ℕ → Type 0
Given nodes x = (follows : Bool) (m : ℕ) → In m (leads_of follows x) → IsGiven nodes m

given : (nodes : Nodes) (docs : Documents) (s : Site) (k : Keyword) → length (read.leads_of docs s k) ≡ length nodes.leads.now → AllByRecursion (Given nodes) (numbered_shapes nodes k)
given nodes docs s reads.Nothing e = tt
given nodes docs s (reads.Assertion a) e = (λ follows m i. from_asserts m nodes _ follows i, tt)
given nodes docs s (reads.Pattern p) e = (λ follows m i. from_asserts m nodes _ follows i, tt)
given nodes docs s (reads.If schema then_schema else_schema) e = (λ follows m i. from_if m nodes e follows i, tt)
given nodes docs s (reads.Consequent k schema) e = tt
given nodes docs s (reads.Applicator a) e = (λ follows m i. from_applied m nodes (below docs s) (name_of a) (combining_of a) (asks_of a) e follows i, tt)
given nodes docs s (reads.Reference keyword text target) e = (λ follows m i. from_reference m nodes e _ follows i, tt)

each_given : (nodes : Nodes) (o : Option Compiled) → AllByRecursion (Given nodes) (shapes_in o) → IfSome o (λ c. Given nodes (shape_of c))
each_given nodes None h = tt
each_given nodes (Some c) h = h.0

pub nodes_given : (nodes : Nodes) (docs : Documents) (s : Site) (k : Keyword) (o : Option Compiled) → shapes_in o ≡ numbered_shapes nodes k → length (read.leads_of docs s k) ≡ length nodes.leads.now
    → IfSome o (λ c. (follows : Bool) (m : ℕ) → In m (leads_of follows (shape_of c)) → IsGiven nodes m)
nodes_given nodes docs s k o is e = each_given nodes o (subst (AllByRecursion (Given nodes)) (sym is) (given nodes docs s k e))
