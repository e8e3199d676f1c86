use Rattle.std.proofs.Common.{string_bytes, sym}
use Rattle.std.proofs.lemmas.Result.{IfOk-weaker}
use Rattle.schema_validators.proofs.describing.of_schema.Goals as goal

pub returns : goal.returns
returns c =
    IfOk-weaker c.joined.result _ _
    (λ text h. (
      string_bytes c.in_ok-sentence.sentence,
      c.in_ok-sentence.ensures,
      rw (
        sym c.as_str.ensures.value,
        sym c.in_ok-root.ensures.ok,
        sym c.as_str-2.ensures.value,
        sym c.instance_path.ensures,
        sym c.in_ok-place.ensures.text,
        sym c.as_str-3.ensures.value,
        sym c.evaluation_path.ensures,
        sym c.in_ok-road.ensures.text,
        sym c.as_str-4.ensures.value,
        sym c.as_str-5.ensures.value,
      ) h,
    ))
    c.joined.ensures
