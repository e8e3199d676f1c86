use Rattle.std.proofs.Common.{◌∙◌, refl, sym, ap, Bool}
use Rattle.serde_json.specs.View.{view, members_view}
use Rattle.schema_sites.specs.References.{name_of, reference_row}
use Rattle.schema_sites.specs.Read.{Surrounds}
use Rattle.schema_sites.specs.Seen.{counts_at}
use Rattle.schema_sites.proofs.ApplyingLemmas.{surrounded}
use Rattle.schema_sites.proofs.ArmLemmas.{read-here, refused-here, reads-where, refuses-where}
use Rattle.schema_sites.proofs.NamedLemmas.{named-is, reference-row}
use Rattle.schema_sites.proofs.ResultLemmas.{if-ok, if-err}
use Rattle.schema_sites.proofs.reading.keyword.Goals as goal

pub returns-in-Some-clause-read : goal.returns-in-Some-clause-read
returns-in-Some-clause-read c =
    let site = c.args.site.now in
    let ms = members_view c.args.members.now.entries in
    let k = c.args.name.now in
    let d = view c.args.value.now in
    let w = c.in-Some.found in
    let there = ap (λ (b : Bool). counts_at site b k) (sym c.has_reference.ensures) ∙ sym c.if-not-counts.ensures in
    let is = named-is k w (sym c.in-Some.ensures) in
    if-ok _ _ c.reference.result
    (λ r h. reads-where site ms k d there r (read-here (Surrounds site ms) k (name_of w) d (reference_row w) is (reference-row w) r (h ms)))
    c.reference.ensures.read

pub returns-in-Some-clause-refused : goal.returns-in-Some-clause-refused
returns-in-Some-clause-refused c =
    let site = c.args.site.now in
    let ms = members_view c.args.members.now.entries in
    let k = c.args.name.now in
    let d = view c.args.value.now in
    let w = c.in-Some.found in
    let there = ap (λ (b : Bool). counts_at site b k) (sym c.has_reference.ensures) ∙ sym c.if-not-counts.ensures in
    let is = named-is k w (sym c.in-Some.ensures) in
    if-err _ _ c.reference.result
    (λ e h. refuses-where site ms k d there e (refused-here (Surrounds site ms) k (name_of w) d (reference_row w) is (reference-row w) e (h ms)))
    c.reference.ensures.refused

pub returns-in-None-clause-read : goal.returns-in-None-clause-read
returns-in-None-clause-read c =
    let site = c.args.site.now in
    let ms = members_view c.args.members.now.entries in
    let k = c.args.name.now in
    let there = ap (λ (b : Bool). counts_at site b k) (sym c.has_reference.ensures) ∙ sym c.if-not-counts.ensures in
    if-ok _ _ c.counted.result
    (λ r h. reads-where site ms k (view c.args.value.now) there r (λ x s. h x (surrounded site ms _ x refl refl s)))
    c.counted.ensures.read

pub returns-in-None-clause-refused : goal.returns-in-None-clause-refused
returns-in-None-clause-refused c =
    let site = c.args.site.now in
    let ms = members_view c.args.members.now.entries in
    let k = c.args.name.now in
    let there = ap (λ (b : Bool). counts_at site b k) (sym c.has_reference.ensures) ∙ sym c.if-not-counts.ensures in
    if-err _ _ c.counted.result
    (λ e h. refuses-where site ms k (view c.args.value.now) there e (λ x s. h x (surrounded site ms _ x refl refl s)))
    c.counted.ensures.refused
