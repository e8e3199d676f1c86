-- Certificates of what is answered.
use Rattle.std.proofs.Common.{List, Bool, refl, sym, subst}
use Rattle.serde_json.specs.Data.{Data}
use Rattle.json_values.specs.Parts.{Part}
use Rattle.schema_meaning.specs.Places.{whole}
use Rattle.schema_meaning.specs.Certificates.{Certificate}
use Rattle.schema_meaning.specs.Faults.{Fault, instance_path, evaluation_path}
use Rattle.schema_meaning.specs.Readings.{verdicts}
use Rattle.schema_definitions.specs.Sites.{Site}
use Rattle.schema_definitions.specs.Plain.{plain}
use Rattle.meaning_laws.proofs.Refuses.{certificate_refuses}
use Rattle.meaning_laws.proofs.Certified.{faults_are_certified}
use Rattle.reading_laws.specs.Spelled.{spelled}
use Rattle.graph_answers.proofs.ToldLemmas.{same_moved_told}
use Rattle.schema_registries.specs.Roots.{Root, Patterns, site_of_root}
use Rattle.schema_registries.specs.Answers.{IsAnswer}
use Rattle.schema_registries.specs.Certified.{IsCertified, HasCertificate}
use Rattle.schema_validators.specs.Answered.{IsFault}

pub verdict_certified : (p : Patterns) (r : Root) (d : Data) (b : Bool) → IsAnswer verdicts p r d b → IsCertified p r d b
verdict_certified p r d b answer matches target found finish straight i e c =
    certificate_refuses Site (plain r.documents p.makes matches) (site_of_root r target) (whole d) c.instance_path c.evaluation_path b c.chain (answer matches target found finish straight)

-- a fault of the documents has one, in whatever order and under whatever schema path it is told
pub fault_certified : (p : Patterns) (r : Root) (d : Data) (f : Fault) → IsFault p r d f → HasCertificate p r d f
fault_certified p r d f is matches target found finish straight =
    let there = is matches target found finish straight in
    let g = same_moved_told spelled there.faults there.those.faults there.those.same f there.told in
    let reading = plain r.documents p.makes matches in
    let chain : Certificate reading (site_of_root r target) (whole d) (instance_path g.0) (evaluation_path g.0) =
    faults_are_certified Site reading (site_of_root r target) (whole d) there.those.faults there.those.told g.0 g.2 in
    record {
      instance_path = instance_path f;
      evaluation_path = evaluation_path f;
      chain = subst (λ (e : List Part). Certificate reading (site_of_root r target) (whole d) (instance_path f) e) (sym g.1.evaluation)
          (subst (λ (i : List Part). Certificate reading (site_of_root r target) (whole d) i (evaluation_path g.0)) (sym g.1.instance) chain);
      instance_text = refl;
      evaluation_text = refl;
    }
