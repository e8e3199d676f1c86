-- What is reached from a place of the documents is a place of them.
use Rattle.std.proofs.Common.{ℕ, List, ◌∷◌, ◌++◌, Bool, true, false, inl, inr, sym, subst}
use Rattle.std.specs.List.{AllByRecursion}
use Rattle.serde_json.specs.Data.{Data, boolean, object, Members, no_members, member}
use Rattle.json_values.specs.Parts.{Part, name}
use Rattle.schema_meaning.specs.Members.{In}
use Rattle.schema_definitions.specs.Bearers.{Documents, meta}
use Rattle.schema_definitions.specs.Lookup.{Target}
use Rattle.schema_definitions.specs.Places.{Named, by_schema, schema_in_force}
use Rattle.document_laws.proofs.Depths.{placed_contents, placed_path}
use Rattle.schema_definitions.specs.BuildCauses.{Reached, at_root, by_keyword}
use Rattle.schema_definitions.specs.Rows.{Row, Context, at, row_at, rows_of, rows_in, rows_at}
use Rattle.schema_definitions.specs.Sites.{Site, below, target_site}
use Rattle.document_laws.specs.TargetLaws.{IsTarget}
use Rattle.document_laws.proofs.Inside.{Inside, here, behind, member_inside}
use Rattle.document_laws.proofs.TargetsLooked.{target_comes_of}
use Rattle.document_laws.proofs.Origins.{Origin}
use Rattle.reading_laws.proofs.Elements.{each_in, each_so}
use Rattle.reading_laws.proofs.Parts.{part_inside}
use Rattle.reading_laws.proofs.KeywordRows.{IsLead, is_below, is_led, Among, row_leads}

-- a site that is of one of the documents
pub record Lies (docs : Documents) (s : Site) : Type 0 where
  pub origin : Origin docs s.document s.path s.contents

module _ (docs : Documents) (makes : List ℕ → Bool) (s : Site) (o : Origin docs s.document s.path s.contents) where
  abbrev whole : Data
  whole = o.document.contents

  below_lies : (added : List Part) (d : Data) → Inside whole (added ++ s.path) d → Lies docs (below docs s added d)
  below_lies added d i =
      let named : Named = by_schema (meta docs) s.dialect (schema_in_force s.dialect.siblings false d) in
      let at = subst (λ (path : List Part). Inside whole path d) (sym (placed_path s.base s.dialect (added ++ s.path) d named)) i in
      let inside = subst (λ (e : Data). Inside whole (below docs s added d).path e) (sym (placed_contents s.base s.dialect (added ++ s.path) d named)) at in
      record { origin = record { document = o.document; listed = o.listed; named = o.named; inside = inside } }

  target_lies : (text : List ℕ) (t : Target) → IsTarget docs t → Lies docs (target_site s text t)
  target_lies text t is = record { origin = (target_comes_of docs t is).origin }

  abbrev context : Members → Context
  context ms = record { documents = docs; makes = makes; site = s; members = ms }

  abbrev AllLie : Row → Type 0
  AllLie r = AllByRecursion (Lies docs) r.leads

  lead_lies_so : (ms : Members) (k : List ℕ) (d : Data) → Inside whole (name k ∷ s.path) d → (x : Site) → IsLead (context ms) k d x → Lies docs x
  lead_lies_so ms k d i _ (inl (is_below added e p)) = below_lies added e (part_inside whole d s.path (at k) added e i p)
  lead_lies_so ms k d i _ (inr (is_led text t is)) = target_lies text t is

  members_lead : (all : Members) → Inside whole s.path (object all) → (ms : Members) → Among all ms → AllByRecursion AllLie (rows_of (context all) ms)
  members_lead all i no_members f = tt
  members_lead all i (member k d ms) f = (
    each_so (IsLead (context all) k d) (Lies docs) (lead_lies_so all k d (member_inside whole s.path all k d i (f k d here))) (row_at (context all) k d).leads (row_leads (context all) k d),
    members_lead all i ms (λ n e g. f n e (behind g)),
  )

  in_lead : (d : Data) → Inside whole s.path d → AllByRecursion AllLie (rows_in s context d)
  in_lead (boolean true) i = tt
  in_lead (object ms) i = members_lead ms i ms (λ k d h. h)
  in_lead d i = (tt, tt)

  rows_lie : AllByRecursion AllLie (rows_at docs makes s)
  unfolding rows_at
  rows_lie = in_lead s.contents o.inside

  lead_lies : (row : Row) (t : Site) → In row (rows_at docs makes s) → In t row.leads → Lies docs t
  lead_lies row t i j = each_in (Lies docs) row.leads (each_in AllLie (rows_at docs makes s) rows_lie row i) t j

pub reached_lies : (docs : Documents) (makes : List ℕ → Bool) (root s : Site) → Lies docs root → Reached docs makes root s → Lies docs s
reached_lies docs makes root _ l at_root = l
reached_lies docs makes root _ l (by_keyword {s = s} row t r i j) = lead_lies docs makes s (reached_lies docs makes root s l r).origin row t i j
