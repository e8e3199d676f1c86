-- Where each schema that is reached keeps the bases of the added documents out, a root that builds in the old ones stands alone.
use Rattle.std.proofs.Common.{◌≡◌, ◌⊎◌, inl, inr, ℕ, List, [], ◌++◌, Bool, true, false, Option, None, is_some, refl, sym, ap, subst}
use Rattle.std.specs.List.{AllByRecursion}
use Rattle.std.specs.Prelude.{option_and_then}
use Rattle.serde_json.specs.Data.{Data, boolean, object, Members, no_members, member}
use Rattle.json_values.specs.Parts.{Part}
use Rattle.schema_meaning.specs.Members.{In}
use Rattle.schema_definitions.specs.Words.{or}
use Rattle.schema_definitions.specs.Identifiers.{resolved, identifier}
use Rattle.schema_definitions.specs.Places.{Dialect, Named, settled, awaited, by_schema, schema_in_force, placed}
use Rattle.schema_definitions.specs.Bearers.{Documents, bearer, meta}
use Rattle.schema_definitions.specs.DocumentCauses.{document_causes}
use Rattle.schema_definitions.specs.Lookup.{Target}
use Rattle.schema_definitions.specs.Sites.{Site, below, root_site}
use Rattle.schema_definitions.specs.Rows.{Row, Context, row_at, rows_of, rows_in, rows_at}
use Rattle.schema_definitions.specs.BuildCauses.{Reached, at_root, by_keyword}
use Rattle.document_laws.specs.TargetLaws.{IsTarget, by_reference}
use Rattle.reading_laws.proofs.Elements.{each_in, each_so}
use Rattle.reading_laws.proofs.KeywordRows.{IsLead, is_below, is_led, row_leads}
use Rattle.added_documents.specs.Added.{IsFree, LeftAlone}
use Rattle.added_documents.specs.ReadingLaws.{Builds, StandsAlone}
use Rattle.moved_documents.proofs.Borne.{target_borne}

-- a schema without an identifier has the base around it
placed_base : (outer : List ℕ) (around : Dialect) (path : List Part) (d : Data) (n : Named)
    → identifier (placed outer around path d n).dialect (placed outer around path d n).contents ≡ None → (placed outer around path d n).base ≡ outer
placed_base outer around path d (settled dialect) none = ap (λ (o : Option (List ℕ)). or outer (option_and_then (resolved outer) o)) none
placed_base outer around path d (awaited uri) none = refl

below_base : (docs : Documents) (s : Site) (parts : List Part) (d : Data) → identifier (below docs s parts d).dialect (below docs s parts d).contents ≡ None
    → (below docs s parts d).base ≡ s.base
below_base docs s parts d none = placed_base s.base s.dialect (parts ++ s.path) d (by_schema (meta docs) s.dialect (schema_in_force s.dialect.siblings false d)) none

-- ---- what holds of each lead

module _ (docs : Documents) (makes : List ℕ → Bool) (s : Site) where
  abbrev context : Members → Context
  context ms = record { documents = docs; makes = makes; site = s; members = ms }

  module _ (P : Site → Type 0) (each : (ms : Members) (k : List ℕ) (d : Data) (x : Site) → IsLead (context ms) k d x → P x) where
    abbrev AllHold : Row → Type 0
    AllHold r = AllByRecursion P r.leads

    members_hold : (all ms : Members) → AllByRecursion AllHold (rows_of (context all) ms)
    members_hold all no_members = tt
    members_hold all (member k d ms) =
        (each_so (IsLead (context all) k d) P (each all k d) (row_at (context all) k d).leads (row_leads (context all) k d), members_hold all ms)

    rows_hold : (d : Data) → AllByRecursion AllHold (rows_in s context d)
    rows_hold (boolean true) = tt
    rows_hold (object ms) = members_hold ms ms
    rows_hold d = (tt, tt)

    all_hold : AllByRecursion AllHold (rows_at docs makes s)
    unfolding rows_at
    all_hold = rows_hold s.contents

    pub each_lead : (row : Row) (t : Site) → In row (rows_at docs makes s) → In t row.leads → P t
    each_lead row t i j = each_in P row.leads (each_in AllHold (rows_at docs makes s) all_hold row i) t j

-- ---- what is reached

module _ (old more new : Documents) (accepted : document_causes old ≡ []) (alone : LeftAlone old more new) where
  abbrev Free : Site → Type 0
  Free s = IsFree more new s.base

  abbrev Apart : Site → Type 0
  Apart s = (identifier s.dialect s.contents ≡ None) ⊎ ((is_some (bearer old s.base) ≡ true) ⊎ Free s)

  target_free : (t : Target) → IsTarget old t → IsFree more new t.base
  target_free t i = alone.apart t.base (target_borne old accepted t i)

  otherwise_free : (x : Site) → (is_some (bearer old x.base) ≡ true) ⊎ Free x → Free x
  otherwise_free x (inl borne) = alone.apart x.base borne
  otherwise_free x (inr free) = free

  module _ (makes : List ℕ → Bool) (s : Site) (free : Free s) where
    lead_free : (ms : Members) (k : List ℕ) (d : Data) (x : Site) → IsLead (context old makes s ms) k d x → Apart x → Free x
    lead_free ms k d x lead (inr other) = otherwise_free x other
    lead_free ms k d _ (inl (is_below parts e p)) (inl none) = subst (λ (u : List ℕ). IsFree more new u) (sym (below_base old s parts e none)) free
    lead_free ms k d _ (inr (is_led text t is)) (inl none) = target_free t is

  module _ (makes : List ℕ → Bool) (base reference : List ℕ) (root : Target) (builds : Builds old makes base reference root)
      (each : (s : Site) → Reached old makes (root_site root) s → Apart s) where
    reached_free : (s : Site) → Reached old makes (root_site root) s → Free s
    reached_free _ at_root = target_free root (by_reference base reference builds.found)
    reached_free _ (by_keyword {s = s} row t r i j) =
        each_lead old makes s (λ x. Apart x → Free x) (lead_free makes s (reached_free s r)) row t i j (each t (by_keyword row t r i j))

    pub stands_alone : StandsAlone old more new makes base reference root
    stands_alone = record { alone = alone; builds = builds; free = reached_free }
