-- What the meta-schema of a root finds wrong, told of the root.
use Rattle.std.proofs.Common.{◌≡◌, ◌∙◌, ◌⊎◌, inl, inr, ℕ, List, [], true, Option, Some, None, Result, Ok, Err, IfOk, IfErr, IsErrAnd, sym, subst}
use Rattle.std.specs.declared.alloc.Global.{Global}
use Rattle.std.specs.declared.vec.Vec.{Vec}
use Rattle.serde_json.specs.Data.{Data}
use Rattle.schema_definitions.specs.Lookup.{Target}
use Rattle.schema_meaning.specs.Faults.{is_none}
use Rattle.schema_meaning.specs.Readings.{verdicts}
use Rattle.schema_reports.specs.Told.{faults_of, are_proper}
use Rattle.schema_reports.specs.declared.error.ValidationError.{ValidationError}
use Rattle.schema_registries.specs.declared.registry.SharedRegistry.{SharedRegistry}
use Rattle.schema_registries.specs.declared.registry.SchemaRegistry.{SchemaRegistry}
use Rattle.schema_registries.specs.Answers.{IsAnswer}
use Rattle.schema_registries.specs.Roots.{Root, Patterns, Finds, IsSound}
use Rattle.schema_registries.proofs.Found.{finds_one}
use Rattle.schema_validators.specs.AllTold.{TellsAll, TellsOf, TellsIn, RefusesTellingOf, RefusesTelling}
use Rattle.schema_validators.specs.Answered.{AreFaults}
use Rattle.schema_validators.specs.Asked.{IsAsked, meta_root, meta_schema_of}
use Rattle.schema_validators.specs.Counted.{IsWithin}
use Rattle.schema_validators.specs.Refused.{RefusesBuild}
use Rattle.schema_validators.specs.declared.error.BuildError.{BuildError}
use Rattle.schema_validators.specs.declared.error.BuildError.TheVariants as error
use Rattle.schema_validators.proofs.Asking.{one_named}

-- where memory is wanted, any root is refused
pub memory_refuses : {T : Type 0} (p : Patterns) (limit : ℕ) (r : Root) (x : Result T BuildError) → IsErrAnd x (λ e. e ≡ error.Memory) → IfErr x (RefusesBuild p limit r)
memory_refuses p limit r (Ok y) h = tt
memory_refuses p limit r (Err e) h = subst (RefusesBuild p limit r) (sym h) tt

-- what holds where there is none holds beside one
pub none_beside : {T E A : Type 0} (r : Result T E) (o : Option A) (x : A) (P : T → Type 0) → o ≡ Some x → IfOk r (λ v. o ≡ None → P v)
none_beside (Ok v) o x P is = λ none. (let some : Some x ≡ None = sym is ∙ none in cc)
none_beside (Err e) o x P is = tt

-- what a validator tells is told of the root that it validates by
pub tells_by : (p : Patterns) (limit : ℕ) (r other : Root) → r ≡ other → (d : Data) (es : List ValidationError) → IsSound p r → IsWithin p limit r → AreFaults p r d (faults_of es)
    → IsAnswer verdicts p r d (is_none (faults_of es)) → are_proper es ≡ true → TellsAll p limit other d es
tells_by p limit r other is d es sound within faults verdict proper =
    subst (λ (s : Root). TellsAll p limit s d es) is (record { sound = sound; within = within; faults = faults; verdict = verdict; proper = proper })

-- no meta-schema is asked
pub told_unasked : (p : Patterns) (limit : ℕ) (parent : SharedRegistry) (t : Target) (es : List ValidationError) → ((uri : List ℕ) → IsAsked parent t uri → ⊥) → es ≡ [] → TellsOf p limit parent t es
told_unasked p limit parent t es none is = record { asked = λ uri asked. absurd (none uri asked); not_asked = λ h. is }

-- the one that is asked
module _ (p : Patterns) (limit : ℕ) (parent : SharedRegistry) (t : Target) (uri text : List ℕ) (d : Data) (asked : IsAsked parent t uri) (is : text ≡ uri) (contents : d ≡ t.contents) where
  pub told_there : (x : Result (Vec ValidationError Global) BuildError) → IfOk x (λ v. TellsAll p limit (meta_root parent text) d v.items) → IfOk x (λ v. TellsOf p limit parent t v.items)
  told_there (Ok v) h = record {
    asked = λ other there.
        subst (λ (c : Data). TellsAll p limit (meta_root parent other) c v.items) contents
        (subst (λ (u : List ℕ). TellsAll p limit (meta_root parent u) d v.items) (is ∙ one_named (meta_schema_of t) uri other asked.named there.named) h);
    not_asked = λ none. absurd (none uri asked);
  }
  told_there (Err e) h = tt

  pub unread_there : {T : Type 0} (x : Result T BuildError) → IfErr x (RefusesBuild p limit (meta_root parent text)) → IfErr x (RefusesTellingOf p limit parent t)
  unread_there (Ok y) h = tt
  unread_there (Err e) h = inr (record { uri = uri; asked = asked; why = subst (λ (u : List ℕ). RefusesBuild p limit (meta_root parent u) e) is h })

-- what the meta-schema of a root tells is told of the root
module _ (p : Patterns) (limit : ℕ) (r : SchemaRegistry) (root : Root) (parent : SharedRegistry) (is : r.parent ≡ Some parent) (t : Target) (found : Finds root t) where
  pub told_by : (x : Result (Vec ValidationError Global) BuildError) → IfOk x (λ v. TellsOf p limit parent t v.items)
      → IfOk x (λ v. (target : Target) → Finds root target → TellsIn p limit r.parent target v.items)
  told_by (Ok v) h = λ target there.
      subst (λ (o : Option SharedRegistry). TellsIn p limit o target v.items) (sym is) (subst (λ (s : Target). TellsOf p limit parent s v.items) (finds_one root t target found there) h)
  told_by (Err e) h = tt

  pub untold_by : {T : Type 0} (x : Result T BuildError) → IfErr x (RefusesTellingOf p limit parent t) → IfErr x (RefusesTelling p limit r root)
  untold_by (Ok y) h = tt
  untold_by (Err e) h = inr (record { parent = parent; is_parent = is; target = t; found = found; refused = h })
