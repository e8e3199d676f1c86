use Rattle.std.proofs.Common.{sym}
use Rattle.schema_registries.proofs.error.DocumentError.description.Goals as goal

pub returns-in_ok-column-in-JsonText : goal.returns-in_ok-column-in-JsonText
returns-in_ok-column-in-JsonText c =
    rw (
      c.in-JsonText.is,
      sym c.as_str-in-JsonText.ensures.value,
      sym c.in_ok-line-in-JsonText.ensures.ok,
      sym c.as_str-in-JsonText-2.ensures.value,
      sym c.in_ok-column-in-JsonText.ensures.ok,
      sym c.as_str-in-JsonText-3.ensures.value,
    ) c.joined-in-JsonText.ensures

pub returns-in_ok-pointer-in-OtherNumber : goal.returns-in_ok-pointer-in-OtherNumber
returns-in_ok-pointer-in-OtherNumber c =
    rw (
      c.in-OtherNumber.is,
      sym c.as_str-in-OtherNumber.ensures.value,
      sym c.as_str-in-OtherNumber-2.ensures.value,
      sym c.in_ok-pointer-in-OtherNumber.ensures.text,
      sym c.as_str-in-OtherNumber-3.ensures.value,
    ) c.joined-in-OtherNumber.ensures
