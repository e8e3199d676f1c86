use Rattle.std.proofs.Common.{◌⊎◌, Bool, List, Option, IfErr, option_map, ap, sym, subst}
use Rattle.schema_definitions.specs.Bearers.{Layer}
use Rattle.document_retrieval.specs.Layers.{layer_above}
use Rattle.document_sources.specs.Given.{Given}
use Rattle.document_sources.specs.Causes.{IsMemory}
use Rattle.schema_registries.specs.Passed.{RefusesRegistry}
use Rattle.schema_registries.specs.Retrieval.{beside}
use Rattle.schema_registries.specs.Seen.{documents_given, documents_shared}
use Rattle.schema_validators.specs.Prepared.{asking_by, layer_by}
use Rattle.schema_validators.specs.Refused.{RefusesGiven}
use Rattle.schema_validators.proofs.Preparing.{refused_beside}
use Rattle.schema_validators.proofs.options.ValidationOptions.gather.Goals as goal

pub returns-in_err-own-in-Some-clause-refused : goal.returns-in_err-own-in-Some-clause-refused
returns-in_err-own-in-Some-clause-refused g c =
    let o = c.args.self.now in
    let ask = asking_by g.R.Retrieve.may_answer g.R.Retrieve.may_refuse o in
    let given = documents_given c.args.documents.now in
    let parent = c.in_ok-parent-in-Some.parent in
    let others = documents_shared parent in
    let above : Bool → Layer = λ siblings. record { number = layer_above others; draft = o.draft; siblings = siblings } in
    let x = c.from_residual-in_err-own-in-Some.result in
    let why = subst (λ (s : Bool). RefusesRegistry (ask (above s)) o.limit (beside others (above s) given) c.in_err-own-in-Some.field-0.0) c.in_ok-parent-in-Some.ensures.siblings c.in_err-own-in-Some.ensures.refused in
    subst (λ (metas : Option (List Given)). IfErr x (λ e. IsMemory e ⊎ RefusesGiven ask o.limit (layer_by o) metas given e)) (sym (ap (option_map documents_given) c.in-Some.is))
    (refused_beside ask o.limit (layer_by o) (documents_given c.in-Some.given) given parent _ c.in_ok-parent-in-Some.ensures.prepared why x
    c.from_residual-in_err-own-in-Some.ensures.1)
