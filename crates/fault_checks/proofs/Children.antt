-- The sites of subschemas and of targets.
use Rattle.std.proofs.Common.{◌≡◌, ◌∙◌, ◌≤◌, ℕ, List, sym, ap, ap₂, subst}
use Rattle.std.specs.Borrow.{Bor}
use Rattle.schema_patterns.specs.Read.{reads}
use Rattle.schema_patterns.specs.declared.matches.Matches.{Matches}
use Rattle.serde_json.specs.Data.{Data, depth}
use Rattle.serde_json.specs.View.{view}
use Rattle.json_values.specs.Parts.{Part}
use Rattle.schema_definitions.specs.Bearers.{Documents}
use Rattle.schema_definitions.specs.Scopes.{entered_scope}
use Rattle.schema_definitions.specs.Sites.{Site, below, target_site}
use Rattle.schema_definitions.specs.Plain.{deepest}
use Rattle.plain_reader.specs.Passed.{base_of, scope_of, documents_in, target_in}
use Rattle.plain_reader.specs.Passed.{Resolved}
use Rattle.plain_reader.specs.Passed.{documents_at, Stands}
use Rattle.plain_reader.specs.Passed.{FindsTarget}
use Rattle.plain_reader.specs.Passed.{ReferenceKeyword}
use Rattle.plain_reader.specs.Passed as code
use Rattle.plain_reader.proofs.ChildVerdicts.{Child}
use Rattle.plain_reader.proofs.LookedLemmas.{looked_up_lies}
use Rattle.fault_checks.specs.Scenes.{Scene, IsRight, Meets}

-- the schema of a site is the code's
pub meets_shallow : (c : code.Site) (x : Scene) (s : Site) → Meets c x s → depth (view c.contents.now) ≤ deepest (documents_at c) → depth s.contents ≤ deepest x.documents
meets_shallow c x s m h =
    subst (λ (docs : Documents). depth s.contents ≤ deepest docs) (sym m.documents) (subst (λ e. depth e ≤ deepest (documents_at c)) (sym m.stands.contents) h)

-- a subschema
pub child_meets : (c b : code.Site) (d : Data) (added : List Part) (x : Scene) (s : Site) → Child c b d → Meets c x s → IsRight x (below x.documents s added d)
    → Meets b x (below x.documents s added d)
child_meets c b d added x s child m right =
    let inner = below x.documents s added d in
    let stands : Stands b inner = subst (λ docs. Stands b (below docs s added d)) (sym m.documents) (child.stands s added m.stands) in
    record {
      documents = m.documents ∙ sym child.documents;
      stands = stands;
      scope = ap₂ (λ new present. entered_scope new present s.scope) stands.base m.stands.base ∙ ap (entered_scope (base_of b.resolver) (base_of c.resolver)) m.scope ∙ sym child.scope;
      matches = m.matches ∙ ap (λ (w : Bor Matches). reads w.now) (sym child.matches);
      right = right;
    }

-- what `at_target` gives
pub record AtTarget (c inner : code.Site) (w : ReferenceKeyword) (text : List ℕ) (target : Resolved) : Type 0 where
  pub found : FindsTarget c w text target
  pub contents : view inner.contents.now ≡ (target_in target).contents
  pub base : base_of inner.resolver ≡ base_of target.resolver
  pub scope : scope_of inner.resolver ≡ scope_of target.resolver
  pub documents : documents_at inner ≡ documents_in target.resolver
  pub stands : (s : Site) (reference : List ℕ) → Stands inner (target_site s reference (target_in target))
  pub matches : inner.matches ≡ c.matches

pub target_meets : (c inner : code.Site) (w : ReferenceKeyword) (text : List ℕ) (target : Resolved) (x : Scene) (s : Site) → AtTarget c inner w text target → Meets c x s
    → IsRight x (target_site s text (target_in target)) → Meets inner x (target_site s text (target_in target))
target_meets c inner w text target x s at m right = record {
  documents = m.documents ∙ sym (at.documents ∙ at.found.documents);
  stands = at.stands s text;
  scope =
      ap₂ (λ present outer. entered_scope (base_of target.resolver) present outer) m.stands.base m.scope ∙ sym at.found.scope ∙ sym at.scope;
  matches = m.matches ∙ ap (λ (w : Bor Matches). reads w.now) (sym at.matches);
  right = right;
}

pub target_shallow : (c inner : code.Site) (w : ReferenceKeyword) (text : List ℕ) (target : Resolved) → AtTarget c inner w text target → depth (view inner.contents.now) ≤ deepest (documents_at inner)
target_shallow c inner w text target at =
    let lies = looked_up_lies w (documents_at c) (base_of c.resolver) (scope_of c.resolver) text (target_in target) at.found.found in
    subst (λ (docs : Documents). depth (view inner.contents.now) ≤ deepest docs) (sym (at.documents ∙ at.found.documents))
    (subst (λ (e : Data). depth e ≤ deepest (documents_at c)) (sym at.contents) lies.shallow)
