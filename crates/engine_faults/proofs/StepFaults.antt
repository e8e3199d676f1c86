-- What a question tells, by what is told where it leads.
use Rattle.std.proofs.Common.{Bor, ◌≡◌, ◌<◌, ◌++◌, ◌∙◌, ℕ, suc, List, [], ◌∷◌, Bool, true, false, refl, sym, ap, subst, arith}
use Rattle.serde_json.specs.View.{view}
use Rattle.serde_json.specs.declared.value.Value.{Value}
use Rattle.json_values.specs.Parts.{Part, name, index}
use Rattle.schema_meaning.specs.Places.{Step, stay, to_item, to_member, to_name, after}
use Rattle.schema_meaning.specs.Faults.{none}
use Rattle.schema_meaning.specs.Keywords.{Shape}
use Rattle.schema_meaning.specs.Readings.{Reading}
use Rattle.schema_meaning.specs.Cut.{cut_unless, is_in_progress}
use Rattle.schema_reports.specs.declared.observer.Observer.{Observer}
use Rattle.schema_engine.specs.declared.node.Node.{Node}
use Rattle.engine_faults.specs.declared.there.There.{There}
use Rattle.schema_engine.specs.declared.validate.Validate.{Ghosts}
use Rattle.schema_engine.specs.declared.place.Place.TheVariants as place
use Rattle.schema_engine.specs.Hearing.{HearsMore}
use Rattle.schema_engine.specs.Places.{value_at}
use Rattle.schema_engine.specs.Progress.{is_among}
use Rattle.schema_engine.specs.Graphs.{reading_of}
use Rattle.schema_engine.specs.Verdicts.{Setting, GoesDown, key_in}
use Rattle.engine_faults.specs.Faults.{Stand, IsAt, Hearing, node_faults, asked_faults}
use Rattle.schema_engine.specs.Standing.{size_of}
use Rattle.engine_faults.specs.Telling.{stand_of, HearsOf}
use Rattle.schema_engine.proofs.Settings.{stay_fits, item_fits, member_fits, name_fits, target_fits}
use Rattle.engine_faults.proofs.ToTell.{hearing_nothing}

-- after a step by a question that adds these parts, and inside a target at the same place
abbrev pub stepped_by : Setting → Step → List Part → Setting
stepped_by x s added = record { depth = x.depth; keys = x.keys; spot = after x.spot s added }

abbrev pub entered_by : Setting → ℕ → List Part → Setting
entered_by x t added = record { depth = x.depth; keys = key_in x.spot t ∷ x.keys; spot = after x.spot stay added }

-- ---- where a step leads

-- a stand that a step leads to
pub record LeadsTo (s : Stand) (step : Step) (road : List Part) (to : Stand) : Type 0 where
  pub at : (x : Setting) (added : List Part) → road ≡ added ++ s.road → IsAt s x → IsAt to (stepped_by x step added)

module _ (s : Stand) (road : List Part) where
  behind : (x : Setting) (added : List Part) → road ≡ added ++ s.road → IsAt s x → added ++ x.spot.road ≡ road
  behind x added is at = ap (λ r. added ++ r) at.road ∙ sym is

  pub leads_inside : LeadsTo s stay road (record { place = s.place; progress = s.progress; path = s.path; road = road })
  leads_inside = record {
    at = λ x added is at.
        (let f = stay_fits s.place s.progress x at.fits in
        record { fits = record { value = f.value; called = f.called; here = f.here; above = f.above }; path = at.path; road = behind x added is at });
  }

  pub leads_to_item : (i : ℕ) (v : Bor Value) (path : List Part) → path ≡ index i ∷ s.path
      → LeadsTo s (to_item i (view v.now)) road (record { place = place.Value v; progress = []; path = path; road = road })
  leads_to_item i v path is_path = record {
    at = λ x added is at.
        (let f = item_fits s.place s.progress x at.fits v i in
        record { fits = record { value = f.value; called = f.called; here = f.here; above = f.above }; path = ap (λ p. index i ∷ p) at.path ∙ sym is_path; road = behind x added is at });
  }

  pub leads_to_member : (k : List ℕ) (v : Bor Value) (path : List Part) → path ≡ name k ∷ s.path
      → LeadsTo s (to_member k (view v.now)) road (record { place = place.Value v; progress = []; path = path; road = road })
  leads_to_member k v path is_path = record {
    at = λ x added is at.
        (let f = member_fits s.place s.progress x at.fits v k in
        record { fits = record { value = f.value; called = f.called; here = f.here; above = f.above }; path = ap (λ p. name k ∷ p) at.path ∙ sym is_path; road = behind x added is at });
  }

  pub leads_to_name : (k : Bor (List ℕ)) → GoesDown (value_at s.place) (to_name k.now)
      → LeadsTo s (to_name k.now) road (record { place = place.Name k; progress = []; path = s.path; road = road })
  leads_to_name k down = record {
    at = λ x added is at.
        (let f = name_fits s.place s.progress x at.fits k down in
        record { fits = record { value = f.value; called = f.called; here = f.here; above = f.above }; path = at.path; road = behind x added is at });
  }

  enters : (t : ℕ) (x : Setting) (added : List Part) → road ≡ added ++ s.road → IsAt s x
      → IsAt (record { place = s.place; progress = t ∷ s.progress; path = s.path; road = road }) (entered_by x t added)
  enters t x added is at =
      let f = target_fits s.place s.progress x at.fits t in
      record { fits = record { value = f.value; called = f.called; here = f.here; above = f.above }; path = at.path; road = behind x added is at }

-- what is asked a step down follows no reference
pub follows_none : (step : Step) (follows : Bool) → (follows ≡ true → step ≡ stay) → (step ≡ stay → ⊥) → follows ≡ false
follows_none step true stays down = absurd (down (stays refl))
follows_none step false stays down = refl

-- ---- what is told there

pub hears_as : {K : Type 0} {G : Ghosts K} (r : Reading ℕ) (t : There K G) (road : List Part) (node : ℕ) (step other : Step) (follows besides : Bool) (old new : Observer) → step ≡ other → follows ≡ besides
    → HearsOf r t road node step follows old new → HearsOf r t road node other besides old new
hears_as r t road node step other follows besides old new same as_well h =
    subst (λ s. HearsOf r t road node s besides old new) same (subst (λ f. HearsOf r t road node step f old new) as_well h)

module _ (r : Reading ℕ) where
  told_plain : (x : Setting) (node : ℕ) (step : Step) (added : List Part)
      → asked_faults r x (record { site = node; step = step; added = added; follows = false }) ≡ node_faults r node (stepped_by x step added)
  unfolding asked_faults
  told_plain x node step added = refl

  -- where no reference is followed
  pub step_heard : {K : Type 0} {G : Ghosts K} (t : There K G) (road : List Part) (node : ℕ) (step : Step) (to : Stand) (less : ℕ) (old new : Observer) → LeadsTo (stand_of t) step road to → less < size_of t.here
      → Hearing to (suc less) (node_faults r node) old new → HearsOf r t road node step false old new
  step_heard t road node step to less old new leads falls told = record {
    hears = λ added is. record {
      hears = λ x at deep.
          subst (λ fs. HearsMore fs old new) (sym (told_plain x node step added)) (told.hears (stepped_by x step added) (leads.at x added is at) (omega arith));
    };
  }

module _ {K : Type 0} (shape : K → Shape ℕ) (matches : List ℕ → List ℕ → Bool) (nodes : List (Node K)) where
  told_target : (x : Setting) (t : ℕ) (added : List Part)
      → asked_faults (reading_of shape matches nodes) x (record { site = t; step = stay; added = added; follows = true })
      ≡ cut_unless (is_in_progress (key_in x.spot t) x.keys) none (node_faults (reading_of shape matches nodes) t (entered_by x t added))
  unfolding asked_faults
  told_target x t added = refl

module _ {K : Type 0} {G : Ghosts K} (shape : K → Shape ℕ) (matches : List ℕ → List ℕ → Bool) (nodes : List (Node K)) where
  -- a return tells nothing
  pub back_heard : (t : There K G) (road : List Part) (target : ℕ) (o : Observer) → is_among target (stand_of t).progress ≡ true → HearsOf (reading_of shape matches nodes) t road target stay true o o
  back_heard t road target o back = record {
    hears = λ added is.
        hearing_nothing (stand_of t) (size_of t.here) (λ x. asked_faults (reading_of shape matches nodes) x (record { site = target; step = stay; added = added; follows = true })) o
        (λ x at deep.
        told_target shape matches nodes x target added
        ∙ ap (λ b. cut_unless b none (node_faults (reading_of shape matches nodes) target (entered_by x target added))) (at.fits.here target ∙ back));
  }

  pub target_heard : (t : There K G) (road : List Part) (target : ℕ) (less : ℕ) (old new : Observer) → is_among target (stand_of t).progress ≡ false → less < size_of t.here
      → Hearing (record { place = t.here.place; progress = target ∷ (stand_of t).progress; path = (stand_of t).path; road = road }) (suc less) (node_faults (reading_of shape matches nodes) target) old new
      → HearsOf (reading_of shape matches nodes) t road target stay true old new
  target_heard t road target less old new fresh falls told = record {
    hears = λ added is. record {
      hears = λ x at deep.
          subst (λ fs. HearsMore fs old new)
          (sym (told_target shape matches nodes x target added
          ∙ ap (λ b. cut_unless b none (node_faults (reading_of shape matches nodes) target (entered_by x target added))) (at.fits.here target ∙ fresh)))
          (told.hears (entered_by x target added) (enters (stand_of t) road target x added is at) (omega arith));
    };
  }
