-- What is told of a value itself, one note after another.
use Rattle.std.proofs.Common.{◌≡◌, ◌∙◌, ◌++◌, ℕ, List, [], ◌∷◌, Bool, true, false, Option, None, Some, map, cond, is_some, refl, ap, subst}
use Rattle.json_values.specs.Parts.{Part}
use Rattle.schema_meaning.specs.Faults.{Kind, Required, also, joined}
use Rattle.schema_meaning.specs.Keywords.{missing, needed, none_there, unless, applies}
use Rattle.schema_meaning.specs.Places.{Spot}
use Rattle.schema_meaning.specs.Questions.{at, if_member}
use Rattle.schema_meaning.specs.Rules.{Note, own_fault, own_faults}
use Rattle.std.specs.List.{filter, flat_map}
use Rattle.serde_json.specs.Data.{Data, null, boolean, number, string, array, object}
use Rattle.serde_json.specs.Find.{get, as_object}
use Rattle.schema_reports.specs.declared.observer.Observer.{Observer}
use Rattle.schema_engine.specs.Situations.{spot_in}
use Rattle.schema_engine.specs.declared.situation.Situation.{Situation}
use Rattle.schema_engine.proofs.HearsLemmas.{hears_nothing, hears_both, hears_same}
use Rattle.compiled_keywords.specs.Told.{TellsEach, noted_if, lacking}

own_both : (w : Spot) (above p : List Part) (xs ys : List Note) → joined (own_faults w above p xs) (own_faults w above p ys) ≡ own_faults w above p (xs ++ ys)
own_both w above p [] ys = refl
own_both w above p (x ∷ xs) ys = ap (also (own_fault w above p x)) (own_both w above p xs ys)

module _ (s : Situation) (k : List ℕ) where
  pub tells_none : (o : Observer) → TellsEach s k [] o o
  tells_none o = hears_nothing o

  pub tells_both : (xs ys : List Note) (old mid new : Observer) → TellsEach s k xs old mid → TellsEach s k ys mid new → TellsEach s k (xs ++ ys) old new
  tells_both xs ys old mid new one rest = hears_same _ _ old new (own_both (spot_in s) s.schema.now (at k) xs ys) (hears_both _ _ old mid new one rest)

  pub tells_same : (xs ys : List Note) (old new : Observer) → xs ≡ ys → TellsEach s k xs old new → TellsEach s k ys old new
  tells_same xs ys old new same h = subst (λ zs. TellsEach s k zs old new) same h

  -- where nothing is wrong
  pub tells_right : (b : Bool) (kind : Kind) (d : Data) (o : Observer) → b ≡ true → TellsEach s k (unless b kind d) o o
  tells_right true kind d o h = tells_none o
  tells_right false kind d o h = absurd (cc (h))

  -- where something is
  pub tells_wrong : (b : Bool) (kind : Kind) (d : Data) (old new : Observer) → b ≡ false → TellsEach s k (record { kind = kind; value = d } ∷ []) old new → TellsEach s k (unless b kind d) old new
  tells_wrong true kind d old new h told = absurd (cc (h))
  tells_wrong false kind d old new h told = told

  pub tells_there : (b : Bool) (note : Note) (o : Observer) → b ≡ false → TellsEach s k (noted_if b note) o o
  tells_there true note o h = absurd (cc (h))
  tells_there false note o h = tells_none o

-- ---- names that are missing

abbrev note_of_name : Data → List ℕ → Note
note_of_name d k = record { kind = Required k; value = d }

one_more : (d : Data) (b : Bool) (n : List ℕ) (ns : List (List ℕ)) → noted_if b (note_of_name d n) ++ map (note_of_name d) ns ≡ map (note_of_name d) (cond b (n ∷ ns) ns)
one_more d true n ns = refl
one_more d false n ns = refl

each_missing : (d : Data) (ns : List (List ℕ)) → flat_map (lacking d) ns ≡ map (note_of_name d) (filter (λ k. none_there (get k d)) ns)
each_missing d [] = refl
each_missing d (n ∷ ns) = ap (λ xs. lacking d n ++ xs) (each_missing d ns) ∙ one_more d (none_there (get n d)) n (filter (λ k. none_there (get k d)) ns)

pub missing_some : (d : Data) (ns : List (List ℕ)) → is_some (as_object d) ≡ true → flat_map (lacking d) ns ≡ missing ns d
missing_some null ns h = absurd (cc (h))
missing_some (boolean b) ns h = absurd (cc (h))
missing_some (number n) ns h = absurd (cc (h))
missing_some (string t) ns h = absurd (cc (h))
missing_some (array ds) ns h = absurd (cc (h))
missing_some (object ms) ns h = each_missing (object ms) ns

pub missing_none : (d : Data) (ns : List (List ℕ)) → is_some (as_object d) ≡ false → missing ns d ≡ []
missing_none null ns h = refl
missing_none (boolean b) ns h = refl
missing_none (number n) ns h = refl
missing_none (string t) ns h = refl
missing_none (array ds) ns h = refl
missing_none (object ms) ns h = absurd (cc (h))

pub absent : {A : Type 0} (o : Option Data) (ask : Data → List A) → none_there o ≡ true → if_member o ask ≡ []
absent None ask h = refl
absent (Some e) ask h = absurd (cc (h))

pub present : {A : Type 0} (o : Option Data) (xs : List A) → none_there o ≡ false → xs ≡ if_member o (λ e. xs)
present None xs h = absurd (cc (h))
present (Some e) xs h = refl

pub never_needed : (o : Option Data) (d : Data) (n : ℕ) → if_member o (λ e. needed d (applies n)) ≡ []
never_needed None d n = refl
never_needed (Some e) d n = refl
