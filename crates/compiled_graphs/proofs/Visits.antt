-- Visits of one key stand for the same sites.
use Rattle.std.proofs.Common.{◌≡◌, ◌∙◌, ◌⊎◌, ℕ, List, Bool, sym, ap, subst, inl, inr}
use Rattle.serde_json.specs.View.{view}
use Rattle.schema_meaning.specs.Members.{In}
use Rattle.schema_definitions.specs.Bearers.{Document}
use Rattle.schema_definitions.specs.Rows.{Place}
use Rattle.schema_definitions.specs.Sites.{Site}
use Rattle.reading_laws.proofs.Lying.{Lies, reached_lies}
use Rattle.reading_laws.proofs.One.{one_value, root_lies}
use Rattle.document_laws.specs.TargetLaws.{IsTarget}
use Rattle.schema_definitions.specs.Lookup.{Target}
use Rattle.schema_registries.specs.Roots.{site_behind}
use Rattle.reading_laws.specs.SiteLaws.{AreAlike}
use Rattle.reading_laws.proofs.Alike.{joined}
use Rattle.referencing.specs.Resolved.{documents_in}
use Rattle.reached_sites.specs.Visits.{site_of, Met, Belongs, Repeats}
use Rattle.reached_sites.specs.declared.visit.Visit.{Visit}
use Rattle.reached_sites.proofs.Keying.{sites-alike}
use Rattle.reached_sites.proofs.Meeting.{met-alike}
use Rattle.compiled_graphs.specs.Graphs.{IsReachedFrom}
use Rattle.compiled_graphs.specs.Walked.{ArePlaced}

pub met-among : (own : List Document) (v : Visit) (s t : Site) → Belongs own v → AreAlike own s t → Met v t → Met v s
met-among own v s t b a m = met-alike v s t (subst (λ (ds : List Document). AreAlike ds s t) (sym b.documents) a) m

pub reached-more : (own : List Document) (makes : List ℕ → Bool) (roots more : List Site) (v : Visit) → ((r : Site) → In r roots → In r more) → IsReachedFrom own makes roots v
    → IsReachedFrom own makes more v
reached-more own makes roots more v f h = record { site = h.site; met = h.met; root = h.root; listed = f h.root h.listed; reached = h.reached }

module _ (own : List Document) (makes : List ℕ → Bool) (roots : List Site) (placed : ArePlaced own roots) where
  root-behind-lies : (before : List (List ℕ)) (t : Target) → IsTarget own t → Lies own (site_behind before t)
  root-behind-lies before t is = record { origin = (root_lies own t is).origin }

  lies : (v : Visit) (x : IsReachedFrom own makes roots v) → Lies own x.site
  lies v x =
      let t = placed.targets x.root x.listed in
      reached_lies own makes x.root x.site (subst (λ r. Lies own r) (sym t.3) (root-behind-lies t.0 t.1 t.2)) x.reached

  same-contents : (v w : Visit) → IsReachedFrom own makes roots v → IsReachedFrom own makes roots w → Repeats v w → view v.site.contents.now ≡ view w.site.contents.now
  same-contents v w x y r =
      let document = x.met.alike.document ∙ ap (λ (p : Place). p.document) r.point.place ∙ sym y.met.alike.document in
      let path = x.met.alike.path ∙ ap (λ (p : Place). p.path) r.point.place ∙ sym y.met.alike.path in
      sym x.met.alike.contents ∙ one_value own placed.apart placed.rise x.site y.site (lies v x) (lies w y) document path ∙ y.met.alike.contents

  among : (v : Visit) → Belongs own v → (s t : Site) → AreAlike own s t → AreAlike (documents_in v.site.resolver) s t
  among v b s t a = subst (λ (ds : List Document). AreAlike ds s t) (sym b.documents) a

  alike-in : (v : Visit) (s : Site) → Belongs own v → Met v s → AreAlike own s (site_of v)
  alike-in v s b m = subst (λ (ds : List Document). AreAlike ds s (site_of v)) b.documents m.alike

  repeated : (v w : Visit) → Belongs own v → Belongs own w → IsReachedFrom own makes roots v → IsReachedFrom own makes roots w → Repeats v w → (s : Site) → Met w s → Met v s
  repeated v w b c x y r s m =
      record { alike = among v b s (site_of v) (joined own s (site_of w) (site_of v) (alike-in w s c m) (sites-alike own v w b c r (same-contents v w x y r))) }

  -- a visit stands for the sites of another, where it is this one or repeats it
  pub met-again : (v w : Visit) → Belongs own v → Belongs own w → IsReachedFrom own makes roots v → IsReachedFrom own makes roots w → (v ≡ w) ⊎ Repeats v w → (s : Site) → Met w s → Met v s
  met-again v w b c x y (inl e) s m = subst (λ u. Met u s) (sym e) m
  met-again v w b c x y (inr r) s m = repeated v w b c x y r s m
