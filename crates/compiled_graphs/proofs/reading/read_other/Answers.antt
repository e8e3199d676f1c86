use Rattle.std.proofs.Common.{◌∙◌, Some, true, false, is_some, codes, refl, sym, ap}
use Rattle.serde_json.specs.View.{view}
use Rattle.schema_definitions.specs.Rows.{Place, keyword_value}
use Rattle.reached_sites.specs.Visits.{site_of}
use Rattle.reached_sites.proofs.Leading.{other-of, written-boolean}
use Rattle.reached_sites.proofs.Walking.{own_of}
use Rattle.compiled_graphs.proofs.Others.{as-boolean, met-itself, counted-never, true-read, false-read, other-read}
use Rattle.compiled_graphs.proofs.reading.read_other.Goals as goal

pub returns-in-Some-true-clause-read : goal.returns-in-Some-true-clause-read
returns-in-Some-true-clause-read c = λ makes.
    let v = c.args.visit.now in
    true-read (own_of v) makes (site_of v) c.args.found.now (as-boolean (view v.site.contents.now) true (sym c.as_bool.ensures ∙ c.in-Some-true.is ∙ ap Some c.in-Some-true.field-0-test))

pub returns-in_ok-push-in-Some-false-clause-read : goal.returns-in_ok-push-in-Some-false-clause-read
returns-in_ok-push-in-Some-false-clause-read c = λ makes.
    let v = c.args.visit.now in
    false-read (own_of v) makes (site_of v) c.args.found.now _ (as-boolean (view v.site.contents.now) false (sym c.as_bool.ensures ∙ c.in-Some-false.is ∙ ap Some c.in-Some-false.field-0-test)) c.in_ok-push-in-Some-false.ensures.items refl

pub returns-in_ok-shown-in-None-clause-read : goal.returns-in_ok-shown-in-None-clause-read
returns-in_ok-shown-in-None-clause-read c = λ makes.
    let v = c.args.visit.now in
    other-read (own_of v) makes (site_of v) c.args.found.now _ (other-of (view v.site.contents.now) c.requires (ap is_some (sym c.as_bool.ensures ∙ c.in-None.is)))
    (ap (λ (p : Place). keyword_value p (codes "schema")) (sym c.in_ok-shared-in-None.ensures))

pub returns-in-Some-true-clause-written : goal.returns-in-Some-true-clause-written
returns-in-Some-true-clause-written c = λ t. written-boolean c.args.visit.now (site_of c.args.visit.now) true (met-itself c.args.visit.now) (as-boolean (view c.args.visit.now.site.contents.now) true (sym c.as_bool.ensures ∙ c.in-Some-true.is ∙ ap Some c.in-Some-true.field-0-test))

pub returns-in_ok-push-in-Some-false-clause-written : goal.returns-in_ok-push-in-Some-false-clause-written
returns-in_ok-push-in-Some-false-clause-written c = λ t. written-boolean c.args.visit.now (site_of c.args.visit.now) false (met-itself c.args.visit.now) (as-boolean (view c.args.visit.now.site.contents.now) false (sym c.as_bool.ensures ∙ c.in-Some-false.is ∙ ap Some c.in-Some-false.field-0-test))

pub returns-in_ok-push-in-Some-false-clause-counts : goal.returns-in_ok-push-in-Some-false-clause-counts
returns-in_ok-push-in-Some-false-clause-counts c = λ h.
    let found = c.args.found.now in
    rw c.in_ok-push-in-Some-false.ensures.items (counted-never found.askings.items found.visits.items h)
