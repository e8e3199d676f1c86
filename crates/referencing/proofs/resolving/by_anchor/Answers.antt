use Rattle.std.proofs.Common.{◌≡◌, ◌∙◌, sym, ap, Option, None, Err, option_map, if◌then◌else◌}
use Rattle.schema_definitions.specs.Words.{result_map, ok_or}
use Rattle.schema_definitions.specs.Bearers.{Standing, anchored}
use Rattle.schema_definitions.specs.Lookup.{by_anchor, invalid_anchor, no_such_anchor, target_of}
use Rattle.document_index.specs.Seen.{standing_of}
use Rattle.referencing.specs.Seen.{documents_of, told_by}
use Rattle.referencing.proofs.RefusedLemmas.{refused-one}
use Rattle.referencing.proofs.resolving.by_anchor.Goals as goal

pub returns-then-has_slash-clause-refused : goal.returns-then-has_slash-clause-refused
returns-then-has_slash-clause-refused c =
    let documents = documents_of c.args.registry.now in
    let s = standing_of c.args.standing.now in
    let k = c.args.name.now in
    let rest = result_map target_of (ok_or (no_such_anchor k) (anchored documents s.place.base k)) in
    let has = sym c.has_slash.ensures ∙ c.if-has_slash.true in
    refused-one (by_anchor (told_by c.args.registry.now) documents s k) (invalid_anchor k) c.invalid_anchor.result (ap (λ b. if b then Err (invalid_anchor k) else rest) has) c.invalid_anchor.ensures

pub returns-in-None-clause-refused : goal.returns-in-None-clause-refused
returns-in-None-clause-refused c =
    let documents = documents_of c.args.registry.now in
    let s = standing_of c.args.standing.now in
    let k = c.args.name.now in
    let rest = λ (o : Option Standing). result_map target_of (ok_or (no_such_anchor k) o) in
    let has = sym c.has_slash.ensures ∙ c.if-has_slash.false in
    let base : c.as_str.result.now ≡ s.place.base = c.as_str.ensures.value ∙ c.deref.ensures in
    let nobody : anchored documents s.place.base k ≡ None = ap (λ b. anchored documents b k) (sym base) ∙ sym c.in_ok-bearer.ensures ∙ ap (option_map standing_of) c.in-None.is in
    refused-one (by_anchor (told_by c.args.registry.now) documents s k) (no_such_anchor k) c.no_such_anchor.result (ap (λ b. if b then Err (invalid_anchor k) else rest (anchored documents s.place.base k)) has ∙ ap rest nobody) c.no_such_anchor.ensures
