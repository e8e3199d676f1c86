-- A keyword that is read and what it is compiled to, over sites and the nodes that they are linked with.
use Rattle.std.proofs.Common.{◌≡◌, ◌∙◌, ap, not, true, false, ℕ, List, [], ◌∷◌, Option, None, Some, refl}
use Rattle.std.specs.List.{AllZip}
use Rattle.serde_json.specs.Data.{Data, null, boolean, number, string, array, object, Members, no_members, member}
use Rattle.json_values.specs.Parts.{Part}
use Rattle.schema_definitions.specs.Bearers.{Documents}
use Rattle.schema_definitions.specs.Rows.{sites_named, sites_applied, member_names}
use Rattle.schema_definitions.specs.Sites.{Site, below}
use Rattle.schema_meaning.specs.Linked.{Linked, LinkedIfAny}
use Rattle.linked_meanings.specs.Related.{RelatedBeside, RelatedIfAny, RelatedEntry, related_needs, related_applies, RelatedForm, related_each_from, related_by_index, related_by_name, related_by_pattern, related_of_others, related_of_members, related_of_names, related_of_triggered, related_of_dependencies, related_of_branches, related_of_value, related_of_condition, RelatedShape, related_asserts, related_condition, related_reference}
use Rattle.applicators.specs.Applied.{Applicator, name_of, combining_of, asks_of}
use Rattle.applicators.specs.Asks.{form_by, leads_by, chooses}
use Rattle.applicators.specs.Combined.{is_by_answers}
use Rattle.applicators.proofs.Asking.{choosing}
use Rattle.applicators.specs.Lent as lent
use Rattle.applicators.specs.Sites.{sites_of_map, dependencies_in}
use Rattle.applicators.specs.declared.asks.AsksOf.TheVariants as asks
use Rattle.schema_sites.specs.Read.{shapes_of}
use Rattle.schema_sites.specs.declared.keyword.Keyword.{Keyword}
use Rattle.schema_sites.specs.declared.keyword.Keyword.TheVariants as reads
use Rattle.keyword_compilers.specs.Linking.{AreNodesOf, LinkedAsked, LinkedToo}
use Rattle.keyword_compilers.specs.Numbers.{first_in, beside, dependencies_by}
use Rattle.keyword_compilers.specs.Shapes.{numbered_form, numbered_shapes}
use Rattle.keyword_compilers.specs.declared.nodes.Nodes.{Nodes}
use Rattle.keyword_compilers.proofs.Related.{shape_related}

module _ (like : Site → ℕ → Type 0) where
  alone : (s : Site) (ns : List ℕ) → AllZip like (s ∷ []) ns → like s (first_in ns)
  alone s [] h = absurd h
  alone s (n ∷ ns) h = h.0

  module _ (site : List Part → Data → Site) where
    by_names : (k : List ℕ) (ms : Members) (ns : List ℕ) → AllZip like (sites_named (sites_of_map site k ms)) ns → AllZip (RelatedBeside like) (sites_of_map site k ms) (beside (member_names ms) ns)
    by_names k no_members ns h = tt
    by_names k (member n d ms) [] h = absurd h
    by_names k (member n d ms) (m ∷ ns) h = ((refl, h.0), by_names k ms ns h.1)

    by_entries : (k : List ℕ) (ms : Members) (ns : List ℕ) → AllZip like (sites_applied (dependencies_in site k ms)) ns → AllZip (RelatedEntry like) (dependencies_in site k ms) (dependencies_by ns ms)
    by_entries k no_members ns h = tt
    by_entries k (member n (array ds) ms) ns h = ((refl, related_needs), by_entries k ms ns h)
    by_entries k (member n null ms) [] h = absurd h
    by_entries k (member n null ms) (m ∷ ns) h = ((refl, related_applies h.0), by_entries k ms ns h.1)
    by_entries k (member n (boolean b) ms) [] h = absurd h
    by_entries k (member n (boolean b) ms) (m ∷ ns) h = ((refl, related_applies h.0), by_entries k ms ns h.1)
    by_entries k (member n (number x) ms) [] h = absurd h
    by_entries k (member n (number x) ms) (m ∷ ns) h = ((refl, related_applies h.0), by_entries k ms ns h.1)
    by_entries k (member n (string t) ms) [] h = absurd h
    by_entries k (member n (string t) ms) (m ∷ ns) h = ((refl, related_applies h.0), by_entries k ms ns h.1)
    by_entries k (member n (object es) ms) [] h = absurd h
    by_entries k (member n (object es) ms) (m ∷ ns) h = ((refl, related_applies h.0), by_entries k ms ns h.1)

module _ (pairs : List (Site × ℕ)) (nodes : Nodes) where
  if_any : (x : Option Site) (y : Option ℕ) → LinkedIfAny pairs x y → RelatedIfAny (Linked pairs) x y
  if_any None None h = tt
  if_any None (Some t) h = absurd h
  if_any (Some s) None h = absurd h
  if_any (Some s) (Some t) h = h

  form_linked : (site : List Part → Data → Site) (k : List ℕ) (f : lent.Asks) → AllZip (Linked pairs) (leads_by site k f) nodes.leads.now → LinkedAsked pairs site f nodes
      → RelatedForm (Linked pairs) (form_by site k f) (numbered_form nodes f)
  form_linked site k (asks.ItemsFrom start schema) h too = related_each_from (alone (Linked pairs) _ _ h)
  form_linked site k (asks.ItemByItem schemas) h too = related_by_index h
  form_linked site k (asks.DeclaredMembers schemas) h too = related_by_name (by_names (Linked pairs) site k _ _ h)
  form_linked site k (asks.MatchingMembers schemas) h too = related_by_pattern (by_names (Linked pairs) site k _ _ h)
  form_linked site k (asks.OtherMembers declared schema) h too = related_of_others (alone (Linked pairs) _ _ h)
  form_linked site k (asks.Members schema) h too = related_of_members (alone (Linked pairs) _ _ h)
  form_linked site k (asks.Names schema) h too = related_of_names (alone (Linked pairs) _ _ h)
  form_linked site k (asks.Triggered schemas) h too = related_of_triggered (by_names (Linked pairs) site k _ _ h)
  form_linked site k (asks.Dependencies entries) h too = related_of_dependencies (by_entries (Linked pairs) site k _ _ h)
  form_linked site k (asks.Branches schemas) h too = related_of_branches h
  form_linked site k (asks.Value schema) h too = related_of_value (alone (Linked pairs) _ _ h)
  form_linked site k (asks.Condition condition then_schema else_schema) h too = related_of_condition (alone (Linked pairs) _ _ h) (if_any _ _ too.0) (if_any _ _ too.1)

  pub shapes_linked : (docs : Documents) (s : Site) (k : Keyword) → AreNodesOf pairs docs s k nodes → AllZip (RelatedShape (Linked pairs)) (shapes_of docs s k) (numbered_shapes nodes k)
  shapes_linked docs s reads.Nothing h = tt
  shapes_linked docs s (reads.Assertion a) h = (related_asserts, tt)
  shapes_linked docs s (reads.Pattern p) h = (related_asserts, tt)
  shapes_linked docs s (reads.If schema then_schema else_schema) h = (related_condition (alone (Linked pairs) _ _ h.leads) (if_any _ _ h.too.0) (if_any _ _ h.too.1), tt)
  shapes_linked docs s (reads.Consequent k schema) h = tt
  shapes_linked docs s (reads.Applicator a) h = (shape_related (Linked pairs) (name_of a) (combining_of a) _ _ (form_linked (below docs s) (name_of a) (asks_of a) h.leads h.too), tt)
  shapes_linked docs s (reads.Reference keyword text target) h = (related_reference (alone (Linked pairs) _ _ h.leads), tt)

-- a keyword whose verdict is by its answers has none beside
asked_alone : (pairs : List (Site × ℕ)) (site : List Part → Data → Site) (f : lent.Asks) (nodes : Nodes) → chooses f ≡ false → LinkedAsked pairs site f nodes
asked_alone pairs site (asks.Condition condition then_schema else_schema) nodes e = absurd (cc)
asked_alone pairs site f nodes e = tt

pub answers_alone : (pairs : List (Site × ℕ)) (docs : Documents) (s : Site) (a : Applicator) (nodes : Nodes) → is_by_answers a ≡ true → LinkedToo pairs docs s (reads.Applicator a) nodes
answers_alone pairs docs s a nodes e = asked_alone pairs (below docs s) (asks_of a) nodes (choosing a ∙ ap not e)
