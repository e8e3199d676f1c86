-- What the check of faults says of what validators answer.
use Rattle.std.proofs.Common.{◌≡◌, ◌∙◌, ◌+◌, ◌++◌, ℕ, List, [], ◌∷◌, Bool, false, Some, option_map, refl, sym, ap, append_assoc, length, length-append, arith}
use Rattle.serde_json.specs.Data.{Data}
use Rattle.schema_meaning.specs.Faults.{Fault, Faults, none, also, is_none, told_first, told_later}
use Rattle.schema_meaning.specs.Places.{whole}
use Rattle.schema_meaning.specs.Readings.{verdicts}
use Rattle.schema_definitions.specs.Plain.{plain}
use Rattle.meaning_laws.proofs.Verdicts.{told_agrees}
use Rattle.linked_meanings.specs.Moved.{moved}
use Rattle.linked_meanings.proofs.OrderLemmas.{none_same}
use Rattle.reading_laws.specs.Spelled.{spelled}
use Rattle.schema_registries.specs.Roots.{Root, Patterns, site_of_root}
use Rattle.schema_registries.specs.Answers.{IsAnswer}
use Rattle.schema_registries.specs.Certified.{IsCertified, HasCertificate, HaveCertificates}
use Rattle.schema_validators.specs.Answered.{AreFaults}
use Rattle.fault_checks.specs.Checked.{IsChecked}
use Rattle.fault_checks.proofs.FinishedLemmas.{agree_finished, none_unfinished}
use Rattle.fault_checks.specs.declared.checking.CheckAnswer.{CheckAnswer}
use Rattle.fault_checks.specs.declared.checking.CheckAnswer.TheVariants.{Accepted, Refused, Circular, Unfinished}
use Rattle.json_schema_validator.specs.Joined.{IsFaultChecked, WhereStraight}

-- a fault that has a certificate is accepted
pub fault_accepted : (p : Patterns) (r : Root) (d : Data) (f : Fault) (a : CheckAnswer) → IsFaultChecked p r d f a → HasCertificate p r d f → WhereStraight p r d (a ≡ Accepted)
fault_accepted p r d f Accepted h c matches target found finish straight = refl
fault_accepted p r d f Refused h c matches target found finish straight =
    absurd (h.refused refl matches target found finish straight (c matches target found finish straight))
fault_accepted p r d f Circular h c matches target found finish straight = absurd (straight (h.circular refl matches target found (agree_finished p r d matches target finish)))
fault_accepted p r d f Unfinished h c matches target found finish straight = absurd (none_unfinished p r d _ _ h matches target found finish)

pub first_certified : (p : Patterns) (r : Root) (d : Data) (f : Fault) (fs : Faults) → HaveCertificates p r d (also f fs) → HasCertificate p r d f
first_certified p r d f fs h = h f told_first

pub rest_certified : (p : Patterns) (r : Root) (d : Data) (f : Fault) (fs : Faults) → HaveCertificates p r d (also f fs) → HaveCertificates p r d fs
rest_certified p r d f fs h g told = h g (told_later told)

-- one answer more
pub one_accepted : (before after : List CheckAnswer) (a : CheckAnswer) (rest all : List CheckAnswer) → after ≡ before ++ a ∷ [] → a ≡ Accepted → before ++ Accepted ∷ rest ≡ all → after ++ rest ≡ all
one_accepted before after a rest all more is whole =
    ap (λ (x : List CheckAnswer). x ++ rest) more ∙ append_assoc before (a ∷ []) rest ∙ ap (λ b. before ++ b ∷ rest) is ∙ whole

pub one_counted : (before after : List CheckAnswer) (a : CheckAnswer) (rest all : ℕ) → after ≡ before ++ a ∷ [] → length before + (rest + 1) ≡ all → length after + rest ≡ all
one_counted before after a rest all more whole =
    (let longer : length after ≡ length before + 1 = ap length more ∙ length-append before (a ∷ []) in omega (arith, longer, whole))

-- ---- verdicts

moved_none : (fs : Faults) → is_none (moved spelled fs) ≡ is_none fs
moved_none none = refl
moved_none (also f fs) = refl

-- the verdict is yes exactly where there are no faults
pub verdict_told : (p : Patterns) (r : Root) (d : Data) (fs : Faults) → AreFaults p r d fs → IsAnswer verdicts p r d (is_none fs)
verdict_told p r d fs faults matches target found finish straight =
    let are = faults matches target found finish straight in
    let same = none_same are.same ∙ moved_none are.faults in
    let told = told_agrees (plain r.documents p.makes matches) are.told.unfoldings (site_of_root r target) (whole d) in
    record { unfoldings = are.told.unfoldings; is = sym told ∙ ap (option_map is_none) are.told.is ∙ ap Some (sym same) }

-- the verdict where two paths are accepted
pub accepted_refused : (p : Patterns) (r : Root) (d : Data) (instance evaluation : List ℕ) (a : CheckAnswer) (verdict : Bool) → IsChecked p r d instance evaluation a
    → IsCertified p r d verdict → a ≡ Accepted → WhereStraight p r d (verdict ≡ false)
accepted_refused p r d instance evaluation a verdict h c is matches target found finish straight =
    c matches target found finish straight instance evaluation (h.accepted is matches target found finish straight)
