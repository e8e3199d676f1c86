use Rattle.std.proofs.Common.{◌≡◌, sym, subst, List}
use Rattle.std.proofs.lemmas.Result.{on_ok_weaker}
use Rattle.referencing.specs.Resolved.{documents_in}
use Rattle.schema_sites.specs.Read.{leads_of}
use Rattle.schema_sites.specs.Seen.{documents_at}
use Rattle.schema_sites.specs.declared.keyword.Keyword.{Keyword}
use Rattle.reached_sites.specs.Visits.{site_of, Adds}
use Rattle.reached_sites.specs.declared.visit.Visit.{Visit}
use Rattle.reached_sites.proofs.Matching.{adds-none}
use Rattle.reached_sites.proofs.leads.push_leads.Goals as goal

abbrev AddsFor : Visit → List Visit → List Visit → Keyword → Type 0
AddsFor v old new k = Adds (documents_in v.site.resolver) old new (leads_of (documents_at v.site) (site_of v) k)

as_keyword : (v : Visit) (old new : List Visit) (k l : Keyword) → k ≡ l → AddsFor v old new l → AddsFor v old new k
as_keyword v old new k l e h = subst (λ (m : Keyword). AddsFor v old new m) (sym e) h

pub returns-in-Nothing : goal.returns-in-Nothing
returns-in-Nothing c = as_keyword c.args.visit.now _ _ _ _ c.in-Nothing.is (adds-none _ c.args.leads.now.items)

pub returns-in-Assertion : goal.returns-in-Assertion
returns-in-Assertion c = as_keyword c.args.visit.now _ _ _ _ c.in-Assertion.is (adds-none _ c.args.leads.now.items)

pub returns-in-Pattern : goal.returns-in-Pattern
returns-in-Pattern c = as_keyword c.args.visit.now _ _ _ _ c.in-Pattern.is (adds-none _ c.args.leads.now.items)

pub returns-in-If : goal.returns-in-If
returns-in-If c = on_ok_weaker c.push_at.result (λ h. as_keyword c.args.visit.now _ _ _ _ c.in-If.is h) c.push_at.ensures

pub returns-in-Consequent : goal.returns-in-Consequent
returns-in-Consequent c = on_ok_weaker c.push_at-in-Consequent.result (λ h. as_keyword c.args.visit.now _ _ _ _ c.in-Consequent.is h) c.push_at-in-Consequent.ensures

pub returns-in-Applicator : goal.returns-in-Applicator
returns-in-Applicator c = on_ok_weaker c.push_applied.result (λ h. as_keyword c.args.visit.now _ _ _ _ c.in-Applicator.is h) c.push_applied.ensures

pub returns-in-Reference : goal.returns-in-Reference
returns-in-Reference c = on_ok_weaker c.push_target.result (λ h. as_keyword c.args.visit.now _ _ _ _ c.in-Reference.is h) c.push_target.ensures
