-- Questions of the value, its items and its members ask of no name.
use Rattle.std.proofs.Common.{◌≡◌, ◌∷◌, [], ℕ, List, Bool, true, false, None, refl, ap, subst}
use Rattle.serde_json.specs.Data.{Data}
use Rattle.serde_json.specs.View.{view, items_view, members_view}
use Rattle.json_values.specs.Parts.{Part}
use Rattle.schema_meaning.specs.Members.{In, first, later}
use Rattle.schema_meaning.specs.Places.{called_after}
use Rattle.schema_meaning.specs.Questions.{Question, items_of, items_from, each_item, members_of, other_members}
use Rattle.schema_meaning.specs.Rules.{asks}
use Rattle.schema_meaning.specs.Keywords.{rule}
use Rattle.schema_definitions.specs.Sites.{Site}
use Rattle.certificate_laws.proofs.Listed.{item_question, declared_question}
use Rattle.applicators.specs.Shapes.{shape_of, site_of, sites_of_list, sites_of_map, dependencies_in, declared_by}
use Rattle.applicators.specs.Asks.{asked_by, are_names, chooses}
use Rattle.applicators.specs.Combined.{name_of, asks_of, asks_values}
use Rattle.applicators.specs.Applied.{Applicator}
use Rattle.applicators.specs.Lent.{Asks}
use Rattle.applicators.specs.declared.asks.AsksOf.TheVariants as code
use Rattle.fault_paths.proofs.AskedFacts.{branch_question, listed_question, triggered_question, member_question, matching_question, dependency_question}
use Rattle.applicators.proofs.Asking.{by_values}
use Rattle.applicators.proofs.CombinedLemmas.{follows}

abbrev Unnamed : Question Site → Type 0
Unnamed q = called_after None q.step ≡ None

unnamed_item : (k : List ℕ) (s : Site) (start : ℕ) (d : Data) (q : Question Site) → In q (each_item k s start (items_from start (items_of d))) → Unnamed q
unnamed_item k s start d q i = let w = item_question k s start (items_from start (items_of d)) q i in ap (λ (x : Question Site). called_after None x.step) w.3

unnamed_one : (p q : Question Site) → Unnamed p → In q (p ∷ []) → Unnamed q
unnamed_one p _ u first = u
unnamed_one p q u (later i) = elim i [ ]

module _ (site : List Part → Data → Site) (matches : List ℕ → List ℕ → Bool) (k : List ℕ) (d : Data) (q : Question Site) where
  unnamed_by : (f : Asks) → are_names f ≡ false → chooses f ≡ false → In q (asked_by site matches k d f) → Unnamed q
  unnamed_by (code.ItemsFrom start schema) n c i = unnamed_item k (site_of site k (view schema.now)) start d q i
  unnamed_by (code.ItemByItem schemas) n c i =
      let w = listed_question k (sites_of_list site k 0 (items_view schemas.now)) 0 (items_of d) q i in ap (λ (x : Question Site). called_after None x.step) w.5
  unnamed_by (code.DeclaredMembers schemas) n c i =
      let w = declared_question k d (sites_of_map site k (members_view schemas.now.entries)) q i in ap (λ (x : Question Site). called_after None x.step) w.4
  unnamed_by (code.MatchingMembers schemas) n c i =
      let w = matching_question matches k d (sites_of_map site k (members_view schemas.now.entries)) q i in ap (λ (x : Question Site). called_after None x.step) w.4
  unnamed_by (code.OtherMembers declared schema) n c i =
      let w = member_question k (site_of site k (view schema.now)) (other_members matches (declared_by declared) d) q i in ap (λ (x : Question Site). called_after None x.step) w.2
  unnamed_by (code.Members schema) n c i =
      let w = member_question k (site_of site k (view schema.now)) (members_of d) q i in ap (λ (x : Question Site). called_after None x.step) w.2
  unnamed_by (code.Names schema) n c i = absurd (cc)
  unnamed_by (code.Triggered schemas) n c i =
      let w = triggered_question k d (sites_of_map site k (members_view schemas.now.entries)) q i in ap (λ (x : Question Site). called_after None x.step) w.2
  unnamed_by (code.Dependencies entries) n c i =
      let w = dependency_question k d (dependencies_in site k (members_view entries.now.entries)) q i in ap (λ (x : Question Site). called_after None x.step) w.4
  unnamed_by (code.Branches schemas) n c i =
      let w = branch_question k 0 (sites_of_list site k 0 (items_view schemas.now)) q i in ap (λ (x : Question Site). called_after None x.step) w.3
  unnamed_by (code.Value schema) n c i = unnamed_one _ q refl i
  unnamed_by (code.Condition condition then_schema else_schema) n c i = absurd (cc)

module _ (site : List Part → Data → Site) (matches : List ℕ → List ℕ → Bool) (d : Data) (q : Question Site) where
  pub asks_no_name : (a : Applicator) → asks_values a ≡ true → In q (asks (rule matches d (shape_of site a))) → Unnamed q
  asks_no_name a e i =
      let values = by_values a e in unnamed_by site matches (name_of a) d q (asks_of a) values.0 values.1 (subst (In q) (follows site matches d a).asked i)
