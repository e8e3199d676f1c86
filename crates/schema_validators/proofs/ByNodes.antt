-- What is answered by nodes is what the documents tell that they mean.
use Rattle.std.proofs.Common.{◌≡◌, ◌∙◌, ℕ, List, Bool, true, false, Option, Some, option_map, Result, Ok, Err, IfErr, refl, sym, ap, subst}
use Rattle.serde_json.specs.Data.{Data}
use Rattle.schema_meaning.specs.Faults.{Fault, Faults, none, also, is_none, instance_path, evaluation_path, Told}
use Rattle.schema_meaning.specs.Places.{whole}
use Rattle.schema_meaning.specs.Readings.{verdicts, bags}
use Rattle.schema_definitions.specs.Lookup.{Target}
use Rattle.schema_definitions.specs.Plain.{plain}
use Rattle.meaning_laws.proofs.Verdicts.{told_agrees}
use Rattle.linked_meanings.specs.Moved.{moved}
use Rattle.linked_meanings.proofs.OrderLemmas.{none_same}
use Rattle.reading_laws.specs.Spelled.{spelled}
use Rattle.document_laws.proofs.TargetsLooked.{lookups_lie}
use Rattle.schema_engine.specs.declared.node.Node.{Node}
use Rattle.compiled_keywords.specs.declared.keyword.Keyword.{Keyword}
use Rattle.compiled_keywords.specs.Shapes.{shape_of}
use Rattle.graph_answers.specs.Answers as graph
use Rattle.graph_answers.specs.Answers.{answer_by, IsDecided, IsVerdict}
use Rattle.graph_answers.specs.Certain.{AreThoseFaults, HaveThoseCertificates}
use Rattle.graph_answers.specs.Runs.{IsVerdictOf}
use Rattle.graph_answers.specs.declared.runs.Decision.{Decision}
use Rattle.graph_answers.specs.declared.runs.Decision.TheVariants as decision
use Rattle.schema_patterns.specs.declared.table.PatternTable.{PatternTable}
use Rattle.schema_reports.specs.Told.{fault_of}
use Rattle.schema_reports.specs.declared.error.ValidationError.{ValidationError}
use Rattle.schema_registries.specs.Roots.{Root, Patterns, Finds, site_of_root}
use Rattle.schema_registries.specs.Answers.{Finish, ComesBack, IsAnswer}
use Rattle.schema_registries.specs.Certified.{HasCertificate, HaveCertificates}
use Rattle.schema_validators.specs.Answered.{AreThose, AreFaults, IsFault}
use Rattle.schema_validators.specs.Decided.{IsDecidedAs}
use Rattle.schema_validators.specs.Made.{IsMadeAt}

moved_none : (fs : Faults) → is_none (moved spelled fs) ≡ is_none fs
moved_none none = refl
moved_none (also f fs) = refl

module _ {M : Type 0} (finds : M → List ℕ → Option Bool) (p : Patterns) (r : Root) (nodes : List (Node Keyword)) (start : ℕ) (table : PatternTable M) (made : IsMadeAt finds p r nodes start table) (d : Data) where
  decided : (matches : List ℕ → List ℕ → Bool) (target : Target) → Finds r target → Finish p r matches target d → (ComesBack p r matches target d → ⊥)
      → IsDecided shape_of finds nodes table start d r.documents p.makes matches (site_of_root r target)
  decided matches target found finish straight = record {
    compiled = made.means target found;
    shallow = (lookups_lie r.documents r.base r.reference target found).shallow;
    finished = p.finished;
    made = made.made;
    among = made.patterns target found;
    finish = finish;
    straight = straight;
  }

  pub verdict_answered : (b : Bool) → IsVerdict shape_of finds nodes table start d b → IsAnswer verdicts p r d b
  verdict_answered b h matches target found finish straight = h r.documents p.makes matches (site_of_root r target) (decided matches target found finish straight)

  pub decided_as : (a : Decision) → IsVerdictOf shape_of finds nodes table start d a → IsDecidedAs p r d a
  decided_as decision.Accepted h = verdict_answered true h
  decided_as decision.Refused h = verdict_answered false h
  decided_as decision.Undecided h = λ matches target found finish straight. h r.documents p.makes matches (site_of_root r target) (decided matches target found finish straight)

  module _ (faults : graph.AreFaults shape_of finds nodes table start d) where
    those : (matches : List ℕ → List ℕ → Bool) (target : Target) → Finds r target → Finish p r matches target d → (ComesBack p r matches target d → ⊥)
        → AreThose p r matches target d (answer_by shape_of finds nodes table start d bags)
    those matches target found finish straight =
        let are = faults r.documents p.makes matches (site_of_root r target) (decided matches target found finish straight) in
        record { faults = are.faults; told = are.told; same = are.same }

    pub verdict_of : (b : Bool) → b ≡ is_none (answer_by shape_of finds nodes table start d bags) → IsAnswer verdicts p r d b
    verdict_of b is matches target found finish straight =
        let are = those matches target found finish straight in
        let same = is ∙ none_same are.same ∙ moved_none are.faults in
        record {
          unfoldings = are.told.unfoldings;
          is = sym (told_agrees (plain r.documents p.makes matches) are.told.unfoldings (site_of_root r target) (whole d)) ∙ ap (option_map is_none) are.told.is ∙ ap Some (sym same);
        }

    pub faults_answered : (fs : Faults) → fs ≡ answer_by shape_of finds nodes table start d bags → AreFaults p r d fs
    faults_answered fs is matches target found finish straight = subst (AreThose p r matches target d) (sym is) (those matches target found finish straight)

    pub fault_answered : (f : Fault) → Told f (answer_by shape_of finds nodes table start d bags) → IsFault p r d f
    fault_answered f told matches target found finish straight =
        record { faults = answer_by shape_of finds nodes table start d bags; those = those matches target found finish straight; told = told }

  module _ (certified : graph.HaveCertificates shape_of finds nodes table start d) where
    pub fault_certified : (f : Fault) → Told f (answer_by shape_of finds nodes table start d bags) → HasCertificate p r d f
    fault_certified f told matches target found finish straight = record {
      instance_path = instance_path f;
      evaluation_path = evaluation_path f;
      chain = certified r.documents p.makes matches (site_of_root r target) (decided matches target found finish straight) f told;
      instance_text = refl;
      evaluation_text = refl;
    }

    pub faults_certified : (fs : Faults) → fs ≡ answer_by shape_of finds nodes table start d bags → HaveCertificates p r d fs
    faults_certified fs is f told = fault_certified f (subst (Told f) is told)

  -- of faults that are those of the documents
  module _ (fs : Faults) (told : AreThoseFaults shape_of finds nodes table start d fs) where
    pub faults_told : AreFaults p r d fs
    faults_told matches target found finish straight =
        let are = told r.documents p.makes matches (site_of_root r target) (decided matches target found finish straight) in
        record { faults = are.faults; told = are.told; same = are.same }

    pub verdict_told : (b : Bool) → b ≡ is_none fs → IsAnswer verdicts p r d b
    verdict_told b is matches target found finish straight =
        let are = faults_told matches target found finish straight in
        let same = is ∙ none_same are.same ∙ moved_none are.faults in
        record {
          unfoldings = are.told.unfoldings;
          is = sym (told_agrees (plain r.documents p.makes matches) are.told.unfoldings (site_of_root r target) (whole d)) ∙ ap (option_map is_none) are.told.is ∙ ap Some (sym same);
        }

    pub fault_told : (f : Fault) → Told f fs → IsFault p r d f
    fault_told f among matches target found finish straight = record { faults = fs; those = faults_told matches target found finish straight; told = among }

  module _ (fs : Faults) (certified : HaveThoseCertificates shape_of finds nodes table start d fs) where
    pub certificates_told : HaveCertificates p r d fs
    certificates_told f among matches target found finish straight = record {
      instance_path = instance_path f;
      evaluation_path = evaluation_path f;
      chain = certified r.documents p.makes matches (site_of_root r target) (decided matches target found finish straight) f among;
      instance_text = refl;
      evaluation_text = refl;
    }

-- of one error, if any is told
module _ (fs : Faults) (P : Fault → Type 0) (each : (f : Fault) → Told f fs → P f) where
  pub one_told : {T : Type 0} (x : Result T ValidationError) → IfErr x (λ e. Told (fault_of e) fs) → IfErr x (λ e. P (fault_of e))
  one_told (Ok y) h = tt
  one_told (Err e) h = each (fault_of e) h
