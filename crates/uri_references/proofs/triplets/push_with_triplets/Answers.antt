use Rattle.std.proofs.Common.{rules, ◌≡◌, ◌++◌, ◌∷◌, [], string_bytes, ap, sym, ◌∙◌, subst, OnOk, lit<, Some, None}
use Rattle.std.proofs.lemmas.Str.Pattern.{split_parts}
use Rattle.uri_grammar.proofs.Cuts.{has_none}
use Rattle.uri_references.specs.NormalForm.{with_triplets, triplet}
use Rattle.uri_references.proofs.TripletSteps.{advance, digits-step, lone-step, bytes-alone}
use Rattle.uri_references.proofs.triplets.push_with_triplets.Goals as goal

pub loop-before-preserved-in-Some-take_digits : goal.loop-before-preserved-in-Some-take_digits
loop-before-preserved-in-Some-take_digits c =
    let parts = split_parts 37 c.loop-before.rest.now (Some (c.in-Some.before, c.in-Some.after)) c.in-Some.ensures.cases (lit< tt) in
    record {
      text = search rules;
      left = advance (string_bytes c.loop-before.output) (string_bytes c.push_str.new.self) (string_bytes c.push_triplet.new.output) c.in-Some.before.now c.in-Some.after.now c.loop-before.rest.now
          (triplet c.in-Some-take_digits.high c.in-Some-take_digits.low) (with_triplets c.in-Some-take_digits.behind.now)
          c.in_ok-push_str.ensures.bytes c.in_ok-push_triplet-in-Some-take_digits.ensures
          (digits-step c.in-Some.after.now c.in-Some-take_digits.high c.in-Some-take_digits.low c.in-Some-take_digits.behind.now c.in-Some-take_digits.ensures)
          (has_none 37 c.in-Some.before.now parts.1) parts.0
          ∙ c.loop-before.invariant.left;
    }

pub loop-before-preserved : goal.loop-before-preserved
loop-before-preserved c =
    let parts = split_parts 37 c.loop-before.rest.now (Some (c.in-Some.before, c.in-Some.after)) c.in-Some.ensures.cases (lit< tt) in
    record {
      text = search rules;
      left = advance (string_bytes c.loop-before.output) (string_bytes c.push_str.new.self) (string_bytes c.push.new.self) c.in-Some.before.now c.in-Some.after.now c.loop-before.rest.now
          (37 ∷ []) (with_triplets c.in-Some.after.now)
          c.in_ok-push_str.ensures.bytes (c.in_ok-push-in-None.ensures.bytes ∙ ap (λ t. string_bytes c.push_str.new.self ++ t) (c.in_ok-push-in-None.ensures.ascii (lit< tt)))
          (lone-step c.in-Some.after.now c.in-None.ensures)
          (has_none 37 c.in-Some.before.now parts.1) parts.0
          ∙ c.loop-before.invariant.left;
    }

pub returns : goal.returns
returns c =
    let alone = bytes-alone c.loop-before.rest.now (has_none 37 c.loop-before.rest.now (split_parts 37 c.loop-before.rest.now None c.in_default.ensures.cases (lit< tt))) in
    let whole = ap (λ t. string_bytes c.loop-before.output ++ t) (sym alone) ∙ c.loop-before.invariant.left in
    subst (λ x. OnOk c.push_str-2.result (string_bytes c.push_str-2.new.self ≡ x)) whole (search rules)
