-- What a loop of the engine has still to tell.
use Rattle.std.proofs.Common.{◌≡◌, ◌≤◌, ◌∙◌, ℕ, refl, sym, ap}
use Rattle.schema_meaning.specs.Faults.{Faults, none, joined}
use Rattle.schema_reports.specs.Observers.{Hears}
use Rattle.schema_reports.specs.declared.observer.Observation.{Observation}
use Rattle.schema_reports.specs.declared.observer.Observer.{Observer}
use Rattle.schema_reports.proofs.FaultLemmas.{joined-none, joined-joined}
use Rattle.schema_engine.specs.Hearing.{HearsMore}
use Rattle.schema_engine.specs.Verdicts.{Setting}
use Rattle.engine_faults.specs.Faults.{Stand, IsAt, Hearing}
use Rattle.schema_engine.proofs.HearsLemmas.{hears_nothing, hears_same, hears_both, hears_settled}

-- of all that is told, what is left to tell
pub record LeftToTell (all rest : Faults) (old now : Observer) : Type 0 where
  pub done : Faults
  pub heard : HearsMore done old now
  pub split : all ≡ joined done rest

pub record ToTell (s : Stand) (enough : ℕ) (all rest : Setting → Faults) (old now : Observer) : Type 0 where
  pub left : (x : Setting) → IsAt s x → enough ≤ x.depth → LeftToTell (all x) (rest x) old now

module _ (s : Stand) (enough : ℕ) where
  pub all_to_tell : (all : Setting → Faults) (o : Observer) → ToTell s enough all all o o
  all_to_tell all o = record { left = λ x at deep. record { done = none; heard = hears_nothing o; split = refl } }

  pub none_to_tell : (all rest : Setting → Faults) (old now : Observer) → ((x : Setting) → IsAt s x → rest x ≡ none) → ToTell s enough all rest old now → Hearing s enough all old now
  none_to_tell all rest old now nothing l = record {
    hears = λ x at deep.
        (let one = l.left x at deep in
        hears_same one.done (all x) old now (sym (one.split ∙ ap (joined one.done) (nothing x at) ∙ joined-none one.done)) one.heard);
  }

  pub settled_to_tell : (all rest : Setting → Faults) (old now : Observer) → ((kept : Observation) (fs gs : Faults) → Hears kept now fs → Hears kept now (joined fs gs))
      → ToTell s enough all rest old now → Hearing s enough all old now
  settled_to_tell all rest old now settles l = record {
    hears = λ x at deep.
        (let one = l.left x at deep in
        hears_same (joined one.done (rest x)) (all x) old now (sym one.split) (hears_settled one.done (rest x) old now settles one.heard));
  }

  pub told_one : (all rest one more : Setting → Faults) (old now new : Observer) → ((x : Setting) → IsAt s x → rest x ≡ joined (one x) (more x)) → Hearing s enough one now new
      → ToTell s enough all rest old now → ToTell s enough all more old new
  told_one all rest one more old now new split told l = record {
    left = λ x at deep.
        (let before = l.left x at deep in record {
          done = joined before.done (one x);
          heard = hears_both before.done (one x) old now new before.heard (told.hears x at deep);
          split = before.split ∙ ap (joined before.done) (split x at) ∙ sym (joined-joined before.done (one x) (more x));
        });
  }

  -- nothing is told
  pub told_no_more : (all rest more : Setting → Faults) (old now : Observer) → ((x : Setting) → rest x ≡ more x) → ToTell s enough all rest old now → ToTell s enough all more old now
  told_no_more all rest more old now same l = record {
    left = λ x at deep. (let before = l.left x at deep in record { done = before.done; heard = before.heard; split = before.split ∙ ap (joined before.done) (same x) });
  }

  pub hearing_same : (told other : Setting → Faults) (old new : Observer) → ((x : Setting) → IsAt s x → enough ≤ x.depth → told x ≡ other x) → Hearing s enough told old new → Hearing s enough other old new
  hearing_same told other old new same h = record { hears = λ x at deep. hears_same (told x) (other x) old new (same x at deep) (h.hears x at deep) }

  pub hearing_nothing : (told : Setting → Faults) (o : Observer) → ((x : Setting) → IsAt s x → enough ≤ x.depth → told x ≡ none) → Hearing s enough told o o
  hearing_nothing told o nothing = record { hears = λ x at deep. hears_same none (told x) o o (sym (nothing x at deep)) (hears_nothing o) }

  pub hearing_both : (one more : Setting → Faults) (old mid new : Observer) → Hearing s enough one old mid → Hearing s enough more mid new → Hearing s enough (λ x. joined (one x) (more x)) old new
  hearing_both one more old mid new f g = record { hears = λ x at deep. hears_both (one x) (more x) old mid new (f.hears x at deep) (g.hears x at deep) }
