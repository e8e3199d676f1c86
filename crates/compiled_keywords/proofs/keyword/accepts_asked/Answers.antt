use Rattle.std.proofs.Common.{◌∙◌, map, sym, ap}
use Rattle.schema_meaning.specs.Members.{is_empty}
use Rattle.schema_engine.specs.Places.{value_at}
use Rattle.applicators.specs.Forms.{noted}
use Rattle.compiled_keywords.specs.Forms.{form_of}
use Rattle.compiled_keywords.specs.Owned.{depending}
use Rattle.compiled_keywords.proofs.AcceptLemmas.{needed_in, none_of_text}
use Rattle.compiled_keywords.proofs.keyword.accepts_asked.Goals as goal

pub returns-in-Name : goal.returns-in-Name
returns-in-Name c =
    let ps = map depending c.in-Dependencies.entries.items in
    sym (ap (λ f. is_empty (noted (form_of f) (value_at c.args.place))) c.in-Dependencies.is ∙ ap (λ p. is_empty (needed_in (value_at p) ps)) c.in-Name.is
    ∙ ap is_empty (none_of_text c.in-Name.field-0.now ps))
