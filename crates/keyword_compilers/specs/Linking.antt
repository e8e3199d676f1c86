-- The sites that a keyword leads to, linked with nodes.
use Rattle.std.specs.Prelude.{◌≡◌, ◌⊎◌, ℕ, List, Some, option_map, codes}
use Rattle.std.specs.List.{AllZip}
use Rattle.serde_json.specs.Data.{Data}
use Rattle.serde_json.specs.View.{view}
use Rattle.json_values.specs.Parts.{Part}
use Rattle.schema_definitions.specs.Bearers.{Documents}
use Rattle.schema_definitions.specs.Sites.{Site, below}
use Rattle.schema_meaning.specs.Linked.{Linked, LinkedIfAny}
use Rattle.schema_meaning.specs.Members.{In}
use Rattle.applicators.specs.Applied.{asks_of}
use Rattle.applicators.specs.Lent as lent
use Rattle.applicators.specs.Sites.{site_of}
use Rattle.applicators.specs.declared.asks.AsksOf.TheVariants as asks
use Rattle.schema_sites.specs.Read.{leads_of, site_at}
use Rattle.schema_sites.specs.declared.keyword.Keyword.{Keyword}
use Rattle.schema_sites.specs.declared.keyword.Keyword.TheVariants as reads
use Rattle.keyword_compilers.specs.declared.nodes.Nodes.{Nodes}

-- those of `then` and `else` beside `if`
abbrev pub LinkedAsked : List (Site × ℕ) → (List Part → Data → Site) → lent.Asks → Nodes → Type 0
LinkedAsked pairs site (asks.Condition condition then_schema else_schema) nodes =
    LinkedIfAny pairs (option_map (λ v. site_of site (codes "then") (view v.now)) then_schema) nodes.then_node
    × LinkedIfAny pairs (option_map (λ v. site_of site (codes "else") (view v.now)) else_schema) nodes.else_node
LinkedAsked pairs site f nodes = Unit {0}

abbrev pub LinkedToo : List (Site × ℕ) → Documents → Site → Keyword → Nodes → Type 0
LinkedToo pairs docs s (reads.If schema then_schema else_schema) nodes =
    LinkedIfAny pairs (option_map (λ v. site_at docs s (codes "then") (view v.now)) then_schema) nodes.then_node
    × LinkedIfAny pairs (option_map (λ v. site_at docs s (codes "else") (view v.now)) else_schema) nodes.else_node
LinkedToo pairs docs s (reads.Applicator a) nodes = LinkedAsked pairs (below docs s) (asks_of a) nodes
LinkedToo pairs docs s k nodes = Unit {0}

-- each site that the keyword leads to is linked with its node, and those beside are
pub record AreNodesOf (pairs : List (Site × ℕ)) (docs : Documents) (s : Site) (k : Keyword) (nodes : Nodes) : Type 0 where
  pub leads : AllZip (Linked pairs) (leads_of docs s k) nodes.leads.now
  pub too : LinkedToo pairs docs s k nodes

-- one of the nodes
abbrev pub IsGiven : Nodes → ℕ → Type 0
IsGiven nodes m = In m nodes.leads.now ⊎ ((nodes.then_node ≡ Some m) ⊎ (nodes.else_node ≡ Some m))
