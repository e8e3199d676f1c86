use Rattle.std.proofs.Common.{List, ℕ, Ok, sym, ap, ◌∙◌}
use Rattle.percent_encoding.specs.Percent.{percent_decode}
use Rattle.uri_grammar.specs.Texts.{pieces}
use Rattle.schema_definitions.specs.Words.{result_map}
use Rattle.schema_definitions.specs.Bearers.{Standing}
use Rattle.schema_definitions.specs.Lookup as spec
use Rattle.schema_dialects.specs.Dialects.{dialects_in}
use Rattle.schema_places.specs.Seen.{place_of}
use Rattle.schema_places.specs.Walks.{walk_of}
use Rattle.schema_places.proofs.WalkLemmas.{decoded}
use Rattle.schema_places.proofs.reached.follow_pointer.Goals as goal

pub returns-clause-reached : goal.returns-clause-reached
returns-clause-reached c = λ document.
    let s : Standing = record { document = document; place = place_of c.args.from.now } in
    let written = c.args.fragment.now in
    let text = c.as_str.ensures.value ∙ c.in_ok-pointer.ensures.value in
    let walked = λ (bytes : List ℕ). spec.walk (dialects_in c.args.known.now) written (spec.behind_first (pieces 47 bytes)) (walk_of c.in_ok-begin.field-0) in
    let reached = ap walked (sym text) ∙ c.in_ok-end.ensures.reached in
    decoded (dialects_in c.args.known.now) s written (percent_decode written) c.in_ok-pointer.ensures.valid
    ∙ ap (λ w. result_map (spec.ended s) (spec.walk (dialects_in c.args.known.now) written (spec.behind_first (pieces 47 (percent_decode written))) w)) (sym c.in_ok-begin.ensures)
    ∙ ap (result_map (spec.ended s)) reached
    ∙ ap Ok (sym (c.ended.ensures s))
