-- What is said of a root by its meta-schema.
use Rattle.std.proofs.Common.{◌≡◌, ◌∙◌, ◌⊎◌, inl, inr, ap, codes, ℕ, List, Bool, true, false, not, Option, Some, None, Result, Ok, Err, OnOk, IfErr, sym, subst}
use Rattle.serde_json.specs.Data.{Data}
use Rattle.schema_definitions.specs.Words.{has_text}
use Rattle.schema_definitions.specs.Bearers.{uri_in}
use Rattle.schema_definitions.specs.Lookup.{Target}
use Rattle.schema_registries.specs.declared.registry.SharedRegistry.{SharedRegistry}
use Rattle.schema_registries.specs.declared.registry.SchemaRegistry.{SchemaRegistry}
use Rattle.schema_registries.specs.Seen.{documents_shared, retrieved_shared}
use Rattle.schema_registries.specs.Roots.{Root, Patterns, Finds, IsSound}
use Rattle.schema_registries.proofs.Found.{finds_one}
use Rattle.schema_meaning.specs.Readings.{verdicts}
use Rattle.schema_registries.specs.Answers.{IsAnswer}
use Rattle.schema_reports.specs.Told.{fault_of, error_is_proper}
use Rattle.schema_reports.specs.declared.error.ValidationError.{ValidationError}
use Rattle.schema_validators.specs.Answered.{IsFault}
use Rattle.schema_validators.specs.Asked.{meta_root, meta_schema_of, Accepts, IsAsked, IsHandedIn, IsMetIn, IsMet}
use Rattle.schema_validators.specs.Counted.{IsWithin}
use Rattle.schema_validators.specs.Refused.{HasFault, NamesSchema, RefusesAt, RefusesBuild, RefusesByMeta, RefusesRoot, RefusesValue}
use Rattle.schema_validators.specs.Seen.{root_of}
use Rattle.schema_validators.specs.declared.error.BuildError.{BuildError}
use Rattle.schema_validators.specs.declared.error.BuildError.TheVariants as error

pub handed_in : (p : SharedRegistry) (uri : List ℕ) (t : Target) (r : Bool) → Finds (meta_root p uri) t → r ≡ has_text (uri_in t.document) (retrieved_shared p) → not r ≡ true → IsHandedIn p uri
handed_in p uri t true found is e = absurd (cc e)
handed_in p uri t false found is e = record { target = t; found = found; not_retrieved = sym is }

-- what the meta-schema of a root says is said of the root
module _ (patterns : Patterns) (r : SchemaRegistry) (root : Root) (p : SharedRegistry) (is : r.parent ≡ Some p) (t : Target) (found : Finds root t) where
  pub met_by : {T : Type 0} (limit : ℕ) (x : Result T BuildError) → OnOk x (IsMetIn patterns limit p t) → OnOk x ((target : Target) → Finds root target → IsMet patterns limit r.parent target)
  met_by limit (Ok y) h = λ target there. subst (λ (o : Option SharedRegistry). IsMet patterns limit o target) (sym is) (subst (IsMetIn patterns limit p) (finds_one root t target found there) h)
  met_by limit (Err e) h = tt

  pub refused_by : {T : Type 0} (limit : ℕ) (x : Result T BuildError) → IfErr x (RefusesByMeta patterns limit p t) → IfErr x (RefusesRoot patterns limit r root)
  refused_by limit (Ok y) h = tt
  refused_by limit (Err e) h = inr (record { parent = p; is_parent = is; target = t; found = found; refused = h })

-- ---- the meta-schema that was asked

pub meta_root_by : (p : SharedRegistry) (base text : List ℕ) → base ≡ codes "json-schema:///" → root_of (documents_shared p) base text ≡ meta_root p text
meta_root_by p base text b = ap (λ (u : List ℕ). root_of (documents_shared p) u text) b

pub one_named : (o : Option (List ℕ)) (u w : List ℕ) → o ≡ Some u → o ≡ Some w → u ≡ w
one_named o u w e f = cc (e, f)

-- one that finds a fault refuses the value
pub fault_refuses : (p : Patterns) (r : Root) (d : Data) (fault : ValidationError) → IsSound p r → IsFault p r d (fault_of fault) → error_is_proper fault ≡ true
    → (e : BuildError) → (e ≡ error.Memory) ⊎ HasFault fault e → (e ≡ error.Memory) ⊎ RefusesValue p r d e
fault_refuses p r d fault sound told proper e (inl memory) = inl memory
fault_refuses p r d fault sound told proper e (inr has) =
    inr (record {
      sound = sound;
      schema = has.0;
      is = has.1;
      told = subst (λ (f : ValidationError). IsFault p r d (fault_of f)) (sym has.2) told;
      proper = ap error_is_proper has.2 ∙ proper;
    })

-- what a validator says of a value is said of the root that it validates by
module _ (p : Patterns) (limit : ℕ) (Made : Patterns → Root → Type 0) (r other : Root) (made : Made p r) (d : Data) (is : r ≡ other) where
  pub accepts_by : {T : Type 0} (x : Result T BuildError) → IsSound p r → IsWithin p limit r → OnOk x ((q : Patterns) (s : Root) → Made q s → IsAnswer verdicts q s d true) → OnOk x (Accepts p limit other d)
  accepts_by (Ok y) sound within h = subst (λ (s : Root). Accepts p limit s d) is (sound, within, h p r made)
  accepts_by (Err e) sound within h = tt

  by_reason : (e : BuildError) → (e ≡ error.Memory) ⊎ RefusesValue p r d e → RefusesAt p limit other d e
  by_reason e (inl memory) = inl (subst (RefusesBuild p limit other) (sym memory) tt)
  by_reason e (inr refused) = inr (subst (λ (s : Root). RefusesValue p s d e) is refused)

  pub refuses_by : {T : Type 0} (x : Result T BuildError) → IfErr x (λ e. (q : Patterns) (s : Root) → Made q s → (e ≡ error.Memory) ⊎ RefusesValue q s d e) → IfErr x (RefusesAt p limit other d)
  refuses_by (Ok y) h = tt
  refuses_by (Err e) h = by_reason e (h p r made)

-- no meta-schema is asked
module _ (parent : SharedRegistry) (t : Target) where
  pub unnamed : (u : Option (List ℕ)) → u ≡ meta_schema_of t → u ≡ None → (uri : List ℕ) → IsAsked parent t uri → ⊥
  unnamed u is none uri asked = cc (is, none, asked.named)

  pub not_handed : (u : Option (List ℕ)) (uri text : List ℕ) → u ≡ meta_schema_of t → u ≡ Some uri → text ≡ uri → (IsHandedIn parent text → ⊥) → (other : List ℕ) → IsAsked parent t other → ⊥
  not_handed u uri text is named same absent other asked =
      absent (subst (IsHandedIn parent) (one_named (meta_schema_of t) other uri asked.named (sym is ∙ named) ∙ sym same) asked.handed_in)

  pub met_unasked : (p : Patterns) (limit : ℕ) → ((uri : List ℕ) → IsAsked parent t uri → ⊥) → IsMetIn p limit parent t
  met_unasked p limit none = λ uri asked. absurd (none uri asked)

-- so it is for the meta-schema of a root
module _ (p : Patterns) (limit : ℕ) (parent : SharedRegistry) (t : Target) (uri : List ℕ) (is : meta_schema_of t ≡ Some uri) where
  pub met_there : {T : Type 0} (x : Result T BuildError) → OnOk x (Accepts p limit (meta_root parent uri) t.contents) → OnOk x (IsMetIn p limit parent t)
  met_there (Ok y) h = λ other asked.
      subst (λ (u : List ℕ). Accepts p limit (meta_root parent u) t.contents) (one_named (meta_schema_of t) uri other is asked.named) h
  met_there (Err e) h = tt

  pub refused_there : {T : Type 0} (x : Result T BuildError) → IsHandedIn parent uri → IfErr x (RefusesAt p limit (meta_root parent uri) t.contents)
      → IfErr x (NamesSchema t uri) → IfErr x (RefusesByMeta p limit parent t)
  refused_there (Ok y) handed h says = tt
  refused_there (Err e) handed h says = inr (record {
    uri = uri;
    asked = record { named = is; handed_in = handed };
    why = h;
    named = says;
  })
