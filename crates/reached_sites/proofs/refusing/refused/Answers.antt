use Rattle.std.proofs.Common.{subst, ap, ◌∷◌, codes}
use Rattle.json_values.specs.Parts.{name, index}
use Rattle.referencing.specs.Resolved.{target_in}
use Rattle.schema_definitions.specs.Rows.{Place, keyword_value, bad_reference, left_out}
use Rattle.schema_sites.specs.Refused.{Refuses}
use Rattle.schema_sites.specs.declared.keyword.Refusal.{Refusal}
use Rattle.reached_sites.proofs.Placing.{placed, placed-in, member-in, item-in}
use Rattle.reached_sites.proofs.refusing.refused.Goals as goal

pub returns-in-Value-clause-names : goal.returns-in-Value-clause-names
returns-in-Value-clause-names c = λ x d row at h.
    let k = c.args.name.now in
    let here = member-in x.site.document x.site.path k c.args.place.now c.in_ok-here.here at c.in_ok-here.ensures.document c.in_ok-here.ensures.path in
    let r = subst (λ (q : Refusal). Refuses x k d row q) c.in-Value.is h in
    (keyword_value (placed x.site.document (name k ∷ x.site.path)) c.in-Value.expected.now, ap (λ (p : Place). keyword_value p c.in-Value.expected.now) here, r.stands)

pub returns-in_ok-member-in-Entry-clause-names : goal.returns-in_ok-member-in-Entry-clause-names
returns-in_ok-member-in-Entry-clause-names c = λ x d row at h.
    let k = c.args.name.now in
    let n = c.in-Entry.name.now in
    let word = c.in-Entry.expected.now in
    let here = member-in x.site.document x.site.path k c.args.place.now c.in_ok-here.here at c.in_ok-here.ensures.document c.in_ok-here.ensures.path in
    let there = member-in x.site.document (name k ∷ x.site.path) n c.in_ok-here.here c.in_ok-member-in-Entry.field-0 here c.in_ok-member-in-Entry.ensures.document c.in_ok-member-in-Entry.ensures.path in
    let r = subst (λ (q : Refusal). Refuses x k d row q) c.in-Entry.is h in
    (keyword_value (placed x.site.document (name n ∷ name k ∷ x.site.path)) word, ap (λ (p : Place). keyword_value p word) there, r.stands)

pub returns-in_ok-item-in-Element-clause-names : goal.returns-in_ok-item-in-Element-clause-names
returns-in_ok-item-in-Element-clause-names c = λ x d row at h.
    let k = c.args.name.now in
    let i = c.in-Element.index in
    let word = c.in-Element.expected.now in
    let here = member-in x.site.document x.site.path k c.args.place.now c.in_ok-here.here at c.in_ok-here.ensures.document c.in_ok-here.ensures.path in
    let there = item-in x.site.document (name k ∷ x.site.path) i c.in_ok-here.here c.in_ok-item-in-Element.field-0 here c.in_ok-item-in-Element.ensures.document c.in_ok-item-in-Element.ensures.path in
    let r = subst (λ (q : Refusal). Refuses x k d row q) c.in-Element.is h in
    (keyword_value (placed x.site.document (index i ∷ name k ∷ x.site.path)) word, ap (λ (p : Place). keyword_value p word) there, r.stands)

pub returns-in_ok-of_target-in-Target-clause-names : goal.returns-in_ok-of_target-in-Target-clause-names
returns-in_ok-of_target-in-Target-clause-names c = λ x d row at h.
    let k = c.args.name.now in
    let t = target_in c.in-Target.target in
    let there = placed-in t.document t.path c.in_ok-of_target-in-Target.field-0 c.in_ok-of_target-in-Target.ensures.document c.in_ok-of_target-in-Target.ensures.path in
    let r = subst (λ (q : Refusal). Refuses x k d row q) c.in-Target.is h in
    (keyword_value (placed t.document t.path) (codes "schema"), ap (λ (p : Place). keyword_value p (codes "schema")) there, r.stands)

pub returns-in-Reference-clause-names : goal.returns-in-Reference-clause-names
returns-in-Reference-clause-names c = λ x d row at h.
    let k = c.args.name.now in
    let here = member-in x.site.document x.site.path k c.args.place.now c.in_ok-here.here at c.in_ok-here.ensures.document c.in_ok-here.ensures.path in
    let r = subst (λ (q : Refusal). Refuses x k d row q) c.in-Reference.is h in
    (bad_reference (placed x.site.document (name k ∷ x.site.path)) r.0, (r.0, r.1, ap (λ (p : Place). bad_reference p r.0) here), r.2.stands)

pub returns-in-LeftOut-clause-names : goal.returns-in-LeftOut-clause-names
returns-in-LeftOut-clause-names c = λ x d row at h.
    let k = c.args.name.now in
    let here = member-in x.site.document x.site.path k c.args.place.now c.in_ok-here.here at c.in_ok-here.ensures.document c.in_ok-here.ensures.path in
    let r = subst (λ (q : Refusal). Refuses x k d row q) c.in-LeftOut.is h in
    (left_out (placed x.site.document (name k ∷ x.site.path)), ap (λ (p : Place). left_out p) here, r.stands)
