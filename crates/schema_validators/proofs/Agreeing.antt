-- Roots of registries of equal documents are built alike, and validators at one root answer alike.
use Rattle.std.proofs.Common.{◌≡◌, ◌∙◌, inl, inr, ℕ, List, Bool, true, true≢false, Option, Some, None, option_map, Result, Ok, Err, IfOk, IfErr, refl, sym, ap, ap₂, subst, arith}
use Rattle.serde_json.specs.Data.{Data}
use Rattle.schema_meaning.specs.Faults.{Faults, instance_path, evaluation_path}
use Rattle.schema_meaning.specs.Order.{SameFaults, by_way_of}
use Rattle.schema_meaning.specs.Places.{whole}
use Rattle.schema_meaning.specs.Readings.{Telling, verdicts, bags, IsTold}
use Rattle.meaning_laws.proofs.Refuses.{told_once}
use Rattle.linked_meanings.specs.Moved.{moved}
use Rattle.linked_meanings.proofs.OrderLemmas.{faults_sym}
use Rattle.reading_laws.specs.Spelled.{spelled}
use Rattle.schema_definitions.specs.Plain.{plain}
use Rattle.schema_definitions.specs.Bearers.{uri_in}
use Rattle.schema_definitions.specs.Lookup.{Target}
use Rattle.schema_definitions.specs.PathTexts.{path_text}
use Rattle.schema_definitions.specs.Sites.{Site}
use Rattle.schema_definitions.specs.Words.{has_text}
use Rattle.schema_reports.specs.Told.{fault_of}
use Rattle.schema_registries.specs.declared.registry.SharedRegistry.{SharedRegistry}
use Rattle.schema_registries.specs.declared.registry.SchemaRegistry.{SchemaRegistry}
use Rattle.schema_registries.specs.Seen.{documents_shared, retrieved_shared}
use Rattle.schema_registries.specs.Roots.{Root, Patterns, Finds, IsSound, root_on, site_of_root}
use Rattle.schema_patterns.specs.declared.matcher.PatternMatcher.{Ghosts}
use Rattle.schema_registries.specs.Answers.{IsAnswer}
use Rattle.schema_validators.specs.Answered.{WhereDecided, AreFaults}
use Rattle.schema_registries.proofs.Found.{leads_somewhere}
use Rattle.schema_validators.specs.Asked.{IsAsked, IsMet, Accepts, meta_root}
use Rattle.schema_validators.specs.Counted.{IsWithin}
use Rattle.schema_validators.specs.Made.{IsMadeBy}
use Rattle.schema_validators.specs.Refused.{RefusesBuild, RefusesValue, RefusesAt, RefusesRoot}
use Rattle.schema_validators.specs.Seen.{root_of}
use Rattle.schema_validators.proofs.Certifying.{verdict_certified, fault_certified}
use Rattle.schema_validators.proofs.First.{first_is_cause}
use Rattle.schema_validators.specs.declared.error.BuildError.{BuildError}
use Rattle.schema_validators.specs.declared.error.BuildError.TheVariants as error
use Rattle.schema_validators.specs.declared.validator.Validator.{Validator}
use Rattle.schema_validators.specs.Agreed.{Answers, AreAlike, AreBuiltAlike, IsMetaStraight, IsStraight}

-- ---- answers

told_equal : {A : Type 0} (t : Telling Site A) (p : Patterns) (r : Root) (d : Data) (matches : List ℕ → List ℕ → Bool) (target : Target) (x y : A)
    → IsTold t (plain r.documents p.makes matches) (site_of_root r target) (whole d) x → IsTold t (plain r.documents p.makes matches) (site_of_root r target) (whole d) y → x ≡ y
told_equal t p r d matches target x y h k = told_once t (plain r.documents p.makes matches) h.unfoldings k.unfoldings (site_of_root r target) (whole d) x y h.is k.is

pub verdicts_equal : (p : Patterns) (r : Root) (d : Data) (x y : Bool) → IsAnswer verdicts p r d x → IsAnswer verdicts p r d y → WhereDecided p r d (λ matches target. x ≡ y)
verdicts_equal p r d x y h k matches target found finish straight =
    told_equal verdicts p r d matches target x y (h matches target found finish straight) (k matches target found finish straight)

pub faults_equal : (p : Patterns) (r : Root) (d : Data) (fs gs : Faults) → AreFaults p r d fs → AreFaults p r d gs → WhereDecided p r d (λ matches target. SameFaults fs gs)
faults_equal p r d fs gs h k matches target found finish straight =
    let a = h matches target found finish straight in
    let b = k matches target found finish straight in
    let same : a.faults ≡ b.faults = told_equal bags p r d matches target a.faults b.faults a.told b.told in
    by_way_of (subst (λ x. SameFaults fs (moved spelled x)) same a.same) (faults_sym b.same)

pub both_answered : (p : Patterns) (r : Root) (d : Data) (x y : Bool) (fs gs : Faults) → Answers p r d x fs → Answers p r d y gs → WhereDecided p r d (λ matches target. (x ≡ y) × SameFaults fs gs)
both_answered p r d x y fs gs h k matches target found finish straight =
    (verdicts_equal p r d x y h.verdict_is k.verdict_is matches target found finish straight, faults_equal p r d fs gs h.faults_are k.faults_are matches target found finish straight)

-- ---- refusals of what may be built

module _ (p : Patterns) (limit : ℕ) where
  -- a root that may be read within the limit is refused for want of memory alone
  not_refused : (r : Root) (e : BuildError) → IsSound p r → IsWithin p limit r → RefusesBuild p limit r e → e ≡ error.Memory
  not_refused r (error.Document e) sound within h = absurd h
  not_refused r (error.Registry e) sound within h = absurd h
  not_refused r (error.Root e) sound within h = absurd (leads_somewhere p r sound h.cause h.nowhere)
  not_refused r (error.Schema e) sound within h =
      elim h.2 [
        | inl exceeded ↦ (let most = within h.0 h.1 exceeded.exceeds.keys exceeded.exceeds.are in let more = exceeded.exceeds.more in absurd (omega arith))
        | inr first ↦ (let cause = first_is_cause r.documents p.makes (site_of_root r h.0) e first in absurd (sound.right h.0 h.1 cause.0 cause.2))
      ]
  not_refused r (error.MetaSchema e) sound within h = absurd h
  not_refused r error.Memory sound within h = refl

  -- what accepts a value does not tell a fault of it, where the matches finish and no references come back
  not_told : (r : Root) (d : Data) (e : BuildError) → IsAnswer verdicts p r d true → RefusesValue p r d e → IsStraight p r d → ⊥
  not_told r d e answer h s =
      let f = fault_of h.schema.fault in
      true≢false (verdict_certified p r d true answer s.matches s.target s.found s.finish s.straight (path_text (instance_path f)) (path_text (evaluation_path f))
      (fault_certified p r d f h.told s.matches s.target s.found s.finish s.straight))

  not_refused_at : (r : Root) (d : Data) (e : BuildError) → Accepts p limit r d → IsStraight p r d → RefusesAt p limit r d e → e ≡ error.Memory
  not_refused_at r d e a s (inl h) = not_refused r e a.0 a.1 h
  not_refused_at r d e a s (inr h) = absurd (not_told r d e a.2 h s)

-- ---- registries of equal documents

pub alike_back : (r s : SchemaRegistry) → AreAlike r s → AreAlike s r
alike_back r s h = record { documents = sym h.documents; base = sym h.base; meta_schemas = sym h.meta_schemas; retrieved = sym h.retrieved }

pub root_alike : (r s : SchemaRegistry) (reference : List ℕ) → AreAlike r s → root_on r reference ≡ root_on s reference
root_alike r s reference h = ap₂ (λ ds b. root_of ds b reference) h.documents h.base

-- registries of meta-schemas with equal documents, of which the same were retrieved
record AreParents (q o : SharedRegistry) : Type 0 where
  documents : documents_shared q ≡ documents_shared o
  retrieved : retrieved_shared q ≡ retrieved_shared o

some_mapped : {A B : Type 0} (f : A → B) (o : Option A) (y : B) → option_map f o ≡ Some y → (x : A) × (o ≡ Some x) × (f x ≡ y)
some_mapped f None y e = cc
some_mapped f (Some x) y e = (x, refl, cc)

parent_there : (r s : SchemaRegistry) → AreAlike r s → (o : SharedRegistry) → s.parent ≡ Some o → (q : SharedRegistry) × (r.parent ≡ Some q) × AreParents q o
parent_there r s h o is =
    let found = some_mapped documents_shared r.parent (documents_shared o) (h.meta_schemas ∙ ap (option_map documents_shared) is) in
    let same : Some (retrieved_shared found.0) ≡ Some (retrieved_shared o) =
    sym (ap (option_map retrieved_shared) found.1) ∙ h.retrieved ∙ ap (option_map retrieved_shared) is in
    (found.0, found.1, record { documents = found.2; retrieved = cc same })

meta_alike : (q o : SharedRegistry) (uri : List ℕ) → AreParents q o → meta_root q uri ≡ meta_root o uri
meta_alike q o uri h = ap (λ ds. root_of ds (meta_root o uri).base uri) h.documents

asked_alike : (q o : SharedRegistry) (t : Target) (uri : List ℕ) → AreParents q o → IsAsked o t uri → IsAsked q t uri
asked_alike q o t uri h a = record {
  named = a.named;
  handed_in = record {
    target = a.handed_in.target;
    found = subst (λ (r : Root). Finds r a.handed_in.target) (sym (meta_alike q o uri h)) a.handed_in.found;
    not_retrieved = ap (has_text (uri_in a.handed_in.target.document)) h.retrieved ∙ a.handed_in.not_retrieved;
  };
}

parents_back : (q o : SharedRegistry) → AreParents q o → AreParents o q
parents_back q o h = record { documents = sym h.documents; retrieved = sym h.retrieved }

module _ (p : Patterns) (limit : ℕ) (r s : SchemaRegistry) (reference : List ℕ) (alike : AreAlike r s) where
  abbrev here : Root
  here = root_on r reference

  abbrev there : Root
  there = root_on s reference

  found_here : (t : Target) → Finds there t → Finds here t
  found_here t found = subst (λ (x : Root). Finds x t) (sym (root_alike r s reference alike)) found

  pub meta_straight : IsMetaStraight p r here → IsMetaStraight p s there
  meta_straight h o t uri is found asked =
      let q = parent_there r s alike o is in
      subst (λ (x : Root). IsStraight p x t.contents) (meta_alike q.0 o uri q.2) (h q.0 t uri q.1 (found_here t found) (asked_alike q.0 o t uri q.2 asked))

  -- what is built on one is refused on the other for want of memory alone
  pub refused_there : IsSound p here → IsWithin p limit here → ((t : Target) → Finds here t → IsMet p limit r.parent t) → IsMetaStraight p r here
      → (e : BuildError) → RefusesRoot p limit s there e → e ≡ error.Memory
  refused_there sound within met straight e (inl h) =
      not_refused p limit here e sound within (subst (λ (x : Root). RefusesBuild p limit x e) (sym (root_alike r s reference alike)) h)
  refused_there sound within met straight e (inr h) =
      let q = parent_there r s alike h.parent h.is_parent in
      let found : Finds here h.target = found_here h.target h.found in
      elim h.refused [
        | inl memory ↦ memory
        | inr a ↦ (
            let asked : IsAsked q.0 h.target a.uri = asked_alike q.0 h.parent h.target a.uri q.2 a.asked in
            let accepts = subst (λ (o : Option SharedRegistry). IsMet p limit o h.target) q.1 (met h.target found) a.uri asked in
            let why : RefusesAt p limit (meta_root q.0 a.uri) h.target.contents e =
            subst (λ (x : Root). RefusesAt p limit x h.target.contents e) (sym (meta_alike q.0 h.parent a.uri q.2)) a.why in
            not_refused_at p limit (meta_root q.0 a.uri) h.target.contents e accepts (straight q.0 h.target a.uri q.1 found asked) why
            )
      ]

-- ---- what is built on each of two

-- what is known of what is built at a root on a registry
pub record IsBuiltOn {M : Type 0} {G : Ghosts M} (p : Patterns) (limit : ℕ) (r : SchemaRegistry) (start : Root) (x : Result (Validator M G) BuildError) : Type 0 where
  pub made : IfOk x (IsMadeBy p start)
  pub within : IfOk x (λ v. IsWithin p limit start)
  pub met : IfOk x (λ v. (t : Target) → Finds start t → IsMet p limit r.parent t)
  pub refused : IfErr x (RefusesRoot p limit r start)

module _ {M : Type 0} {G : Ghosts M} (p : Patterns) (limit : ℕ) where
  one_built : (r s : SchemaRegistry) (reference : List ℕ) → AreAlike r s → IsMetaStraight p r (root_on r reference) → (v : Validator M G) (e : BuildError)
      → IsBuiltOn p limit r (root_on r reference) (Ok v) → RefusesRoot p limit s (root_on s reference) e → e ≡ error.Memory
  one_built r s reference alike straight v e b h = refused_there p limit r s reference alike b.made.sound b.within b.met straight e h

  pub built_alike : (r s : SchemaRegistry) (reference : List ℕ) (x y : Result (Validator M G) BuildError)
      → IsBuiltOn p limit r (root_on r reference) x → IsBuiltOn p limit s (root_on s reference) y
      → AreAlike r s → IsMetaStraight p r (root_on r reference) → AreBuiltAlike x y
  built_alike r s reference (Ok v) (Ok w) a b alike straight = tt
  built_alike r s reference (Ok v) (Err e) a b alike straight = one_built r s reference alike straight v e a b.refused
  built_alike r s reference (Err e) (Ok w) a b alike straight =
      one_built s r reference (alike_back r s alike) (meta_straight p limit r s reference alike straight) w e b a.refused
  built_alike r s reference (Err d) (Err e) a b alike straight = tt

-- what is built on the second is made of the root on the first
pub one_root : {M : Type 0} {G : Ghosts M} (p : Patterns) (r s : SchemaRegistry) (reference : List ℕ) (y : Result (Validator M G) BuildError)
    → IfOk y (IsMadeBy p (root_on s reference)) → AreAlike r s → IfOk y (IsMadeBy p (root_on r reference))
one_root p r s reference (Ok w) made alike = subst (λ (x : Root). IsMadeBy p x w) (sym (root_alike r s reference alike)) made
one_root p r s reference (Err e) made alike = tt
