use Rattle.std.proofs.Common.{◌≡◌, ◌∙◌, ◌+◌, [], ◌∷◌, List, Option, None, Some, map, drop, option_copied, slice_get, refl, ap, sym, subst, arith}
use Rattle.std.specs.Borrow.{Bor}
use Rattle.std.proofs.lemmas.List.{drop_more, drop_all}
use Rattle.serde_json.specs.View.{view}
use Rattle.referencing.specs.Resolved.{documents_in}
use Rattle.schema_definitions.specs.Sites.{below}
use Rattle.applicators.specs.Shapes.{place_of, added_at}
use Rattle.applicators.specs.declared.subschema.Subschema.{Subschema}
use Rattle.schema_sites.specs.Seen.{documents_at}
use Rattle.reached_sites.specs.Visits.{site_of, Adds}
use Rattle.reached_sites.proofs.Matching.{adds-none, adds-one, adds-both}
use Rattle.reached_sites.proofs.leads.push_subschemas.Goals as goal

none-first : {A : Type 0} (xs : List A) (o : Option (Bor A)) → option_copied o ≡ slice_get xs 0 → ((x : Bor A) → o ≡ Some x → ⊥) → xs ≡ []
none-first [] o e h = refl
none-first (x ∷ xs) None e h = (let no : None ≡ Some x = e in cc)
none-first (x ∷ xs) (Some y) e h = absurd (h y refl)

pub returns-in_default : goal.returns-in_default
returns-in_default c =
    let outer = c.args.visit.now in
    let own = documents_in outer.site.resolver in
    let site = below (documents_at outer.site) (site_of outer) in
    let vs = c.args.leads.now.items in
    let nothing : c.args.found.now ≡ [] = none-first c.args.found.now c.first.result c.first.ensures.value c.in_default.not-Some in
    subst (λ (xs : List Subschema). Adds own vs vs (map (place_of site) xs)) (sym nothing) (adds-none own vs)

pub loop-subschema-preserved : goal.loop-subschema-preserved
loop-subschema-preserved c = λ fin rest.
    let outer = c.args.visit.now in
    let docs = documents_at outer.site in
    let own = documents_in outer.site.resolver in
    let s = site_of outer in
    let found = c.args.found.now in
    let i = c.loop-subschema.subschema-index in
    let b = c.subschema-item.result in
    let next : drop i found ≡ b ∷ drop (i + 1) found = drop_more found i b c.loop-subschema-test.true ∙ ap (λ x. x ∷ drop (i + 1) found) (sym c.subschema-item.is) in
    let put = added_at b.keyword.now b.entry in
    let one = adds-one own c.loop-subschema.leads.items c.push.new.self.items c.in_ok-below.field-0 (below docs s put (view b.schema.now)) c.in_ok-push.ensures.items c.in_ok-below.ensures.belongs
    (c.in_ok-below.ensures.met put (sym c.in_ok-point.ensures.document) (sym c.in_ok-point.ensures.path) (sym c.in_ok-point.ensures.road)) in
    c.loop-subschema.invariant fin
    (subst (λ (xs : List Subschema). Adds own c.loop-subschema.leads.items fin (map (place_of (below docs s)) xs)) (sym next) (adds-both own one rest))

pub returns : goal.returns
returns c =
    let outer = c.args.visit.now in
    let own = documents_in outer.site.resolver in
    let site = below (documents_at outer.site) (site_of outer) in
    let found = c.args.found.now in
    let vs = c.loop-subschema.leads.items in
    let nothing : drop c.loop-subschema.subschema-index found ≡ [] = drop_all c.loop-subschema.subschema-index found (omega (arith, c.loop-subschema-test.false)) in
    c.loop-subschema.invariant vs (subst (λ (xs : List Subschema). Adds own vs vs (map (place_of site) xs)) (sym nothing) (adds-none own vs))
