use Rattle.std.specs.Borrow.{Bor}
use Rattle.std.proofs.Common.{◌≡◌, ◌≤◌, ◌∙◌, sym, ap₂, subst, inl, inr, Option, option_copied}
use Rattle.serde_json.specs.Data.{depth}
use Rattle.serde_json.specs.View.{view}
use Rattle.schema_definitions.specs.Lookup.{lookup}
use Rattle.schema_definitions.specs.Plain.{deepest}
use Rattle.fault_checks.specs.Passed.{documents_in, base_of, target_in}
use Rattle.schema_registries.specs.Seen.{documents_in_registry}
use Rattle.document_laws.proofs.TargetsLooked.{lookups_lie}
use Rattle.schema_registries.specs.Roots.{Root, Finds, root_on}
use Rattle.fault_checks.specs.Checked.{AreReadIn, SaysRoot}
use Rattle.fault_checks.specs.declared.reading.ReadMatches.{ReadMatches}
use Rattle.fault_paths.specs.Texts.{text_left}
use Rattle.std.proofs.lemmas.Result.{IfOk-weaker}
use Rattle.fault_checks.proofs.Checked.{no_instance, no_evaluation, not_found}
use Rattle.fault_checks.proofs.CircularAnswers.{said_by}
use Rattle.fault_checks.proofs.checking.check_by.Goals as goal

pub returns-in_default : goal.returns-in_default
returns-in_default c =
    λ p read sound.
    absurd (subst (λ (o : Option (Bor ReadMatches)). AreReadIn p (root_on c.args.registry.now c.args.root.now) (view c.args.value.now) (option_copied o)) c.in_default.is read sound)

pub returns-in_default-opened : goal.returns-in_default-opened
returns-in_default-opened c =
    λ p read sound. no_instance p (documents_in_registry c.args.registry.now) c.args.registry.now.base c.args.root.now (view c.args.value.now) c.args.path.instance_path.now c.args.path.evaluation_path.now c.in_default-opened.ensures

pub returns-in_default-opened-2 : goal.returns-in_default-opened-2
returns-in_default-opened-2 c =
    λ p read sound. no_evaluation p (documents_in_registry c.args.registry.now) c.args.registry.now.base c.args.root.now (view c.args.value.now) c.args.path.instance_path.now c.args.path.evaluation_path.now c.in_default-opened-2.ensures

pub answer_at-requires : goal.answer_at-requires
answer_at-requires c =
    let resolver = c.in_ok-resolver.resolver in
    let target = target_in c.in-Ok.found in
    let shallow : depth target.contents ≤ deepest (documents_in resolver) =
    (lookups_lie (documents_in resolver) (base_of resolver) c.args.root.now target c.in-Ok.ensures.ok).shallow in
    record { shallow = subst (λ own. depth target.contents ≤ deepest own) (sym c.in-Ok.ensures.documents) shallow }

pub returns-in-Ok : goal.returns-in-Ok
returns-in-Ok c =
    let registry = c.args.registry.now in
    let r : Root = root_on registry c.args.root.now in
    let d = view c.args.value.now in
    let m = c.in-Some.read.now in
    let resolver = c.in_ok-resolver.resolver in
    let t = target_in c.in-Ok.found in
    let documents : documents_in resolver ≡ documents_in_registry registry = c.in_ok-resolver.ensures.documents ∙ c.registry.ensures in
    let base : base_of resolver ≡ r.base = c.in_ok-resolver.ensures.base ∙ c.in_ok-clone.ensures.cases ∙ c.base.ensures in
    let found : Finds r t = sym (ap₂ (λ ds b. lookup ds b c.args.root.now) documents base) ∙ c.in-Ok.ensures.ok in
    let there : documents_in c.in-Ok.found.resolver ≡ documents_in_registry registry = c.in-Ok.ensures.documents ∙ documents in
    IfOk-weaker c.answer_at.result _ _
    (λ answer said p read. said_by p r.documents r.base r.reference d c.args.path.instance_path.now c.args.path.evaluation_path.now t m answer found
    (subst (λ own. SaysRoot t own m d c.args.path.instance_path.now c.args.path.evaluation_path.now answer) there
    (subst (λ i. SaysRoot t (documents_in c.in-Ok.found.resolver) m d i c.args.path.evaluation_path.now answer) (sym c.in-Some-opened.ensures)
    (subst (λ e. SaysRoot t (documents_in c.in-Ok.found.resolver) m d (text_left c.in-Some-opened.instance) e answer) (sym c.in-Some-opened-2.ensures) said)))
    (subst (λ (o : Option (Bor ReadMatches)). AreReadIn p r d (option_copied o)) c.in-Some.is read))
    c.answer_at.ensures

pub returns : goal.returns
returns c =
    let r : Root = root_on c.args.registry.now c.args.root.now in
    let d = view c.args.value.now in
    let resolver = c.in_ok-resolver.resolver in
    let documents : documents_in resolver ≡ documents_in_registry c.args.registry.now = c.in_ok-resolver.ensures.documents ∙ c.registry.ensures in
    let base : base_of resolver ≡ r.base = c.in_ok-resolver.ensures.base ∙ c.in_ok-clone.ensures.cases ∙ c.base.ensures in
    let same : lookup (documents_in resolver) (base_of resolver) r.reference ≡ lookup r.documents r.base r.reference = ap₂ (λ ds b. lookup ds b c.args.root.now) documents base in
    λ p read sound. elim c.in-Err.ensures.refused [
      | inl m ↦ absurd (c.in_default-error.not-Memory m)
      | inr h ↦ not_found p r.documents r.base r.reference d c.args.path.instance_path.now c.args.path.evaluation_path.now h.0 (sym same ∙ h.1) sound
    ]
