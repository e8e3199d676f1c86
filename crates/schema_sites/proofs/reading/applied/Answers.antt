use Rattle.std.proofs.Common.{refl, codes}
use Rattle.serde_json.specs.View.{view}
use Rattle.schema_meaning.specs.Members.{first}
use Rattle.schema_definitions.specs.Rows.{readers, read_among, if_row, consequent_row}
use Rattle.applicator_reading.specs.Beside.{Surrounds}
use Rattle.schema_sites.specs.Arms.{one_pattern_row}
use Rattle.schema_sites.specs.declared.keyword.Keyword.TheVariants.{Nothing}
use Rattle.schema_sites.specs.declared.keyword.Refusal.TheVariants.{LeftOut}
use Rattle.schema_sites.proofs.ArmLemmas.{pattern-row, dependencies-row, if-row, then-row, else-row, left_row, left-items-row, left-properties-row, read-here, refused-here}
use Rattle.schema_sites.proofs.AssertingLemmas.{own_names, none-listed, none-read}
use Rattle.schema_sites.proofs.ApplyingLemmas.{refused-counted, read-counted}
use Rattle.schema_sites.proofs.MadeLemmas.{plain-row}
use Rattle.schema_sites.proofs.ResultLemmas.{if-err, if-ok}
use Rattle.schema_sites.proofs.reading.applied.Goals as goal

pub returns-in-pattern-clause-read : goal.returns-in-pattern-clause-read
returns-in-pattern-clause-read c =
    let P = Surrounds c.args.neighbours in
    if-ok _ _ c.pattern.result
    (λ w h. read-here P c.args.name.now (codes "pattern") (view c.args.value.now) one_pattern_row c.in-pattern.is pattern-row w (λ x s. h x))
    c.pattern.ensures.read

pub returns-in-pattern-clause-refused : goal.returns-in-pattern-clause-refused
returns-in-pattern-clause-refused c =
    let P = Surrounds c.args.neighbours in
    if-err _ _ c.pattern.result
    (λ e h. refused-here P c.args.name.now (codes "pattern") (view c.args.value.now) one_pattern_row c.in-pattern.is pattern-row e (λ x s there. h x))
    c.pattern.ensures.refused

pub returns-in-unevaluatedItems-clause-refused : goal.returns-in-unevaluatedItems-clause-refused
returns-in-unevaluatedItems-clause-refused c =
    let P = Surrounds c.args.neighbours in
    let known = codes "unevaluatedItems" in
    refused-here P c.args.name.now known (view c.args.value.now) (left_row known) c.in-unevaluatedItems.is left-items-row LeftOut
    (λ x s there. record { stands = first; alone = refl })

pub returns-in-unevaluatedProperties-clause-refused : goal.returns-in-unevaluatedProperties-clause-refused
returns-in-unevaluatedProperties-clause-refused c =
    let P = Surrounds c.args.neighbours in
    let known = codes "unevaluatedProperties" in
    refused-here P c.args.name.now known (view c.args.value.now) (left_row known) c.in-unevaluatedProperties.is left-properties-row LeftOut
    (λ x s there. record { stands = first; alone = refl })

pub returns-in-dependencies-clause-read : goal.returns-in-dependencies-clause-read
returns-in-dependencies-clause-read c =
    let P = Surrounds c.args.neighbours in
    let known = codes "dependencies" in
    if-ok _ _ c.dependencies.result
    (λ w h. read-here P c.args.name.now known (view c.args.value.now) (λ x d. read_among readers x known d) c.in-dependencies.is dependencies-row w (λ x s. h x))
    c.dependencies.ensures.read

pub returns-in-dependencies-clause-refused : goal.returns-in-dependencies-clause-refused
returns-in-dependencies-clause-refused c =
    let P = Surrounds c.args.neighbours in
    let known = codes "dependencies" in
    if-err _ _ c.dependencies.result
    (λ e h. refused-here P c.args.name.now known (view c.args.value.now) (λ x d. read_among readers x known d) c.in-dependencies.is dependencies-row e (λ x s there. h x))
    c.dependencies.ensures.refused

pub returns-in-if-clause-read : goal.returns-in-if-clause-read
returns-in-if-clause-read c =
    let P = Surrounds c.args.neighbours in
    if-ok _ _ c.condition.result
    (λ w h. read-here P c.args.name.now (codes "if") (view c.args.value.now) (λ x d. if_row x (codes "if") d) c.in-if.is if-row w h)
    c.condition.ensures.read

pub returns-in-if-clause-refused : goal.returns-in-if-clause-refused
returns-in-if-clause-refused c =
    let P = Surrounds c.args.neighbours in
    if-err _ _ c.condition.result
    (λ e h. refused-here P c.args.name.now (codes "if") (view c.args.value.now) (λ x d. if_row x (codes "if") d) c.in-if.is if-row e h)
    c.condition.ensures.refused

pub returns-in-then-clause-read : goal.returns-in-then-clause-read
returns-in-then-clause-read c =
    let P = Surrounds c.args.neighbours in
    if-ok _ _ c.consequent.result
    (λ w h. read-here P c.args.name.now (codes "then") (view c.args.value.now) (λ x d. consequent_row x (codes "then") d) c.in-then.is then-row w h)
    c.consequent.ensures.read

pub returns-in-then-clause-refused : goal.returns-in-then-clause-refused
returns-in-then-clause-refused c =
    let P = Surrounds c.args.neighbours in
    if-err _ _ c.consequent.result
    (λ e h. refused-here P c.args.name.now (codes "then") (view c.args.value.now) (λ x d. consequent_row x (codes "then") d) c.in-then.is then-row e h)
    c.consequent.ensures.refused

pub returns-in-else-clause-read : goal.returns-in-else-clause-read
returns-in-else-clause-read c =
    let P = Surrounds c.args.neighbours in
    if-ok _ _ c.consequent-in-else.result
    (λ w h. read-here P c.args.name.now (codes "else") (view c.args.value.now) (λ x d. consequent_row x (codes "else") d) c.in-else.is else-row w h)
    c.consequent-in-else.ensures.read

pub returns-in-else-clause-refused : goal.returns-in-else-clause-refused
returns-in-else-clause-refused c =
    let P = Surrounds c.args.neighbours in
    if-err _ _ c.consequent-in-else.result
    (λ e h. refused-here P c.args.name.now (codes "else") (view c.args.value.now) (λ x d. consequent_row x (codes "else") d) c.in-else.is else-row e h)
    c.consequent-in-else.ensures.refused

pub returns-in-Some-clause-read : goal.returns-in-Some-clause-read
returns-in-Some-clause-read c =
    let k = c.args.name.now in
    let d = view c.args.value.now in
    if-ok _ _ c.applying.result
    (λ w h x s counted. read-counted x k d counted w (h x k (read_among readers x k d) (c.in-Some.ensures.read x s)))
    c.applying.ensures.read

pub returns-in-Some-clause-refused : goal.returns-in-Some-clause-refused
returns-in-Some-clause-refused c =
    let k = c.args.name.now in
    let d = view c.args.value.now in
    if-err _ _ c.applying.result
    (λ e h x s counted. refused-counted x k d counted e (h x k d (read_among readers x k d) (c.in-Some.ensures.read x s)))
    c.applying.ensures.refused

pub returns-in-None-clause-read : goal.returns-in-None-clause-read
returns-in-None-clause-read c = λ x s counted.
    let k = c.args.name.now in
    let d = view c.args.value.now in
    let n = c.in_default in
    read-counted x k d counted Nothing
    (plain-row x k (read_among readers x k d) Nothing refl
    (none-read x k d c.requires.reference c.requires.assertion (none-listed k own_names (n.not-pattern, (n.not-unevaluatedItems, (n.not-unevaluatedProperties, (n.not-dependencies, (n.not-if, (n.not-then, (n.not-else, tt)))))))) c.in-None.ensures.other))
