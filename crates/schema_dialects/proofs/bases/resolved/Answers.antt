use Rattle.std.proofs.Common.{◌∙◌, ap, subst, Some}
use Rattle.uri_grammar.specs.Parts.{split}
use Rattle.uri_grammar.specs.Grammar.{is_reference}
use Rattle.uri_references.specs.Refusals.{Refuses}
use Rattle.uri_references.specs.declared.error.Error.TheVariants.{InvalidUri}
use Rattle.schema_dialects.proofs.Resolved.{resolved-some, resolved-none}
use Rattle.schema_dialects.proofs.bases.resolved.Goals as goal

pub returns-in-Ok : goal.returns-in-Ok
returns-in-Ok c = ap Some c.in-Ok.ensures.ok ∙ resolved-some c.args.base.now c.args.reference.now c.in-Ok.ensures.accepted

pub returns-in-Err-InvalidUri : goal.returns-in-Err-InvalidUri
returns-in-Err-InvalidUri c =
    let text = c.args.reference.now in
    let refused : Refuses (is_reference (split text)) text (InvalidUri c.in-Err-InvalidUri.field-0-0) = subst (Refuses (is_reference (split text)) text) c.in-Err-InvalidUri.field-0-is c.in-Err-InvalidUri.ensures.refused in
    resolved-none c.args.base.now text refused.0
