-- Runs that tell, one after another.
use Rattle.std.proofs.Common.{◌≡◌, ◌&&◌, ◌||◌, ◌∙◌, ◌⊎◌, inl, inr, ℕ, List, [], ◌∷◌, length, Bool, true, false, true≢false, Option, Some, None, IfSome, Vec, Global, refl, sym, ap, subst, arith}
use Rattle.std.specs.Prelude.{option_and_then, MatchOption}
use Rattle.std.proofs.Math.Logic.{∥∥₁_map}
use Rattle.serde_json.specs.Data.{Data}
use Rattle.json_values.specs.Patterns.{or_else}
use Rattle.schema_meaning.specs.Keywords.{Shape}
use Rattle.schema_meaning.specs.Places.{whole}
use Rattle.schema_meaning.specs.Faults.{Fault, Faults, none, also, is_none, Told, told_first}
use Rattle.schema_meaning.specs.Readings.{bags, verdicts, IsTold}
use Rattle.schema_definitions.specs.Bearers.{Documents}
use Rattle.schema_definitions.specs.Plain.{plain}
use Rattle.schema_definitions.specs.Sites.{Site}
use Rattle.schema_meaning.specs.Cut.{cut}
use Rattle.meaning_laws.proofs.Verdicts.{cut_agrees}
use Rattle.schema_patterns.specs.Compiled.{found_by}
use Rattle.schema_patterns.specs.Read.{is_yes}
use Rattle.schema_patterns.specs.Tables.{pattern_for}
use Rattle.schema_patterns.specs.declared.compiled.CompiledPattern.{CompiledPattern}
use Rattle.schema_patterns.specs.declared.table.PatternTable.{PatternTable}
use Rattle.schema_reports.specs.Told.{fault_of, faults_of, error_is_proper, are_proper, AreAll}
use Rattle.schema_reports.specs.declared.error.ValidationError.{ValidationError}
use Rattle.schema_reports.specs.Stands.{is_one_of, all_stand}
use Rattle.schema_reports.specs.Observers.{Hears}
use Rattle.schema_reports.specs.declared.all_faults.AllFaults.{AllFaults}
use Rattle.schema_reports.specs.declared.observer.Observation.TheVariants as kept
use Rattle.schema_reports.specs.declared.observer.Observer.TheVariants as observers
use Rattle.schema_reports.specs.declared.observer.Observer.{Observer}
use Rattle.schema_engine.specs.Graphs.{reading_of, IsSound}
use Rattle.schema_engine.specs.Hearing.{HearsMore}
use Rattle.schema_engine.specs.Matches.{Answers, Matches, Start, InEach, completed, known_or, none_matched}
use Rattle.engine_faults.specs.Told.{TellsCut}
use Rattle.schema_engine.specs.declared.node.Node.{Node}
use Rattle.graph_answers.specs.Answers.{keys_below, answer_by, IsDecided, IsVerdict, IsCertified, AreSame}
use Rattle.graph_answers.specs.Certain.{faults_in, AreShared, HasShared, MayRefuse, IsAccepting, IsCertain, IsUnfinishedOpen, HasOpen, AreThoseFaults, HaveThoseCertificates}
use Rattle.graph_answers.specs.Completions.{found_in, matches_with, start_at, asked_from, IsStop}
use Rattle.graph_answers.specs.Runs.{agrees, is_behind, is_left, verdict_in, IsOpen, AreSixOpen, IsDecision}
use Rattle.graph_answers.specs.Tables.{table_reads}
use Rattle.graph_answers.specs.declared.assumed.AssumedMatch.{AssumedMatch}
use Rattle.graph_answers.specs.declared.runs.Decision.{Decision}
use Rattle.graph_answers.specs.declared.runs.Decision.TheVariants as decision
use Rattle.graph_answers.proofs.Chains.{none_open}
use Rattle.graph_answers.proofs.Joined.{are_faults, have_certificates, is_verdict, is_certified}
use Rattle.graph_answers.proofs.Keys.{all_keys}
use Rattle.graph_answers.proofs.RunCounts.{asked_at_all}
use Rattle.graph_answers.proofs.RunLemmas.{agreeing, same_answers, without}

-- ---- one run after another

module _ {M : Type 0} (finds : M → List ℕ → Option Bool) (table : PatternTable M) (assumed : List AssumedMatch) (P : Answers → Type 0) where
  -- once a run says this of its completions, what is left comes behind what it assumed
  pub told_till : ((rest : Answers) → P (completed (matches_with finds table assumed) rest))
      → ((rest : Answers) → is_left assumed rest ≡ false → P (completed (matches_with finds table []) rest))
      → (rest : Answers) → is_behind assumed rest ≡ false → P (completed (matches_with finds table []) rest)
  told_till run before rest done = by_test (agrees assumed rest) refl
    where
      by_test : (b : Bool) → agrees assumed rest ≡ b → P (completed (matches_with finds table []) rest)
      by_test true e = subst P (agreeing finds table assumed rest e) (run rest)
      by_test false e = before rest (ap (λ a. a || is_behind assumed rest) e ∙ done)

-- what the runs so far have in common is told of a completion; where there was none, there is no such completion
abbrev pub Held : Option (Vec ValidationError Global) → Faults → Type 0
Held None fs = ⊥
Held (Some es) fs = (f : Fault) → Told f (faults_of es.items) → Told f fs

-- a fault is among what the runs so far have in common, if there was any
abbrev pub IsHeld : Option (Vec ValidationError Global) → Fault → Type 0
IsHeld o f = IfSome o (λ es. Told f (faults_of es.items))

abbrev pub Narrows : Option (Vec ValidationError Global) → Faults → Type 0
Narrows o fs = IfSome o (λ es. (f : Fault) → Told f fs → Told f (faults_of es.items))

-- a narrower one is held as well
pub held_narrower : (o : Option (Vec ValidationError Global)) (fs gs : Faults) → Narrows o gs → Held o fs → (f : Fault) → Told f gs → Told f fs
held_narrower None fs gs n h = absurd h
held_narrower (Some es) fs gs n h = λ f t. h f (n f t)

-- ---- faults and verdicts

none_at_all : (fs : Faults) → is_none fs ≡ true → fs ≡ none
none_at_all none e = refl
none_at_all (also f fs) e = absurd (true≢false (sym e))

some_left : (es : List ValidationError) → faults_of es ≡ none → es ≡ []
some_left [] e = refl
some_left (x ∷ xs) e = absurd (true≢false (sym (ap is_none e)))

module _ {K : Type 0} (shape : K → Shape ℕ) (nodes : List (Node K)) (start : ℕ) (d : Data) where
  -- an observer that was told by the engine heard the faults of the cut reading
  pub hears_in : IsSound shape nodes → (reads : Answers) (old new : Observer) → TellsCut shape reads nodes start d old new
      → HearsMore (faults_in shape nodes start d reads) old new
  unfolding faults_in
  hears_in sound reads old new told = told.hears (keys_below (length nodes) d) (all_keys shape reads nodes sound d start)

  pub agree_in : (reads : Answers) → is_none (faults_in shape nodes start d reads) ≡ verdict_in shape nodes start d reads
  unfolding faults_in verdict_in
  agree_in reads = cut_agrees ℕ (reading_of shape reads nodes) (keys_below (length nodes) d) [] start (whole d)

  -- where each completion accepts there are none
  pub certain_none : (m : Matches) → InEach m (λ reads. verdict_in shape nodes start d reads ≡ true) → IsCertain shape nodes start d m none
  certain_none m accepts = record {
    either = inl (λ rest. sym (none_at_all (faults_in shape nodes start d (completed m rest)) (agree_in (completed m rest) ∙ accepts rest)));
  }

  -- some that are shared, where there are any
  pub certain_some : (m : Matches) (es : List ValidationError) → (es ≡ [] → ⊥) → AreShared shape nodes start d m es → HasOpen m (start_at shape nodes start d)
      → IsCertain shape nodes start d m (faults_of es)
  certain_some m es some shared one = record {
    either = inr (inl (record { has_open = one; told = shared.told; all = shared.all; accepts = λ e. absurd (some (some_left es e)) }));
  }

  -- one alone
  pub certain_one : (m : Matches) (e : ValidationError) → MayRefuse shape nodes start d m → IsUnfinishedOpen shape nodes start d m e
      → HasShared shape nodes start d m none ⊎ AreSixOpen m (start_at shape nodes start d)
      → IsCertain shape nodes start d m (faults_of (e ∷ []))
  certain_one m e refuses one left = record {
    either = inr (inr (record {
      fault = fault_of e;
      alone = refl;
      pattern = one.pattern;
      text = one.text;
      kind = one.unfinished.kind;
      is_open = one.is_open;
      refuses = refuses;
      shares_none = left;
    }));
  }

  pub may_refuse : (m : Matches) (a : Decision) → IsDecision shape nodes start d m a → (a ≡ decision.Accepted → ⊥) → MayRefuse shape nodes start d m
  may_refuse m decision.Accepted h other = absurd (other refl)
  may_refuse m decision.Refused h other = inl h
  may_refuse m decision.Undecided h other = inr h

  module _ {M : Type 0} (finds : M → List ℕ → Option Bool) (table : PatternTable M) (assumed : List AssumedMatch) where
    -- a fault of every completion is told by each run
    pub shared_told : (f : Fault) → InEach (matches_with finds table []) (λ reads. Told f (faults_in shape nodes start d reads)) → (fs : Faults)
        → InEach (matches_with finds table assumed) (λ reads. fs ≡ faults_in shape nodes start d reads) → Told f fs
    shared_told f shared fs run =
        let m = matches_with finds table assumed in
        subst (Told f) (ap (faults_in shape nodes start d) (sym (without finds table assumed none_matched)) ∙ sym (run none_matched)) (shared (completed m none_matched))

module _ {M : Type 0} (finds : M → List ℕ → Option Bool) (table : PatternTable M) (s : Start) where
  -- what stopped a run by nothing that is assumed is open
  pub open_of_stop : (pattern text : List ℕ) → IsStop (asked_from s (matches_with finds table [])) pattern text → IsOpen (matches_with finds table []) s pattern text
  open_of_stop pattern text stop = record { unknown = stop.unknown; asked = ∥∥₁_map stop.asked (asked_at_all finds table s [] pattern text) }

  pub has_open_of : (pattern text : List ℕ) → IsStop (asked_from s (matches_with finds table [])) pattern text → HasOpen (matches_with finds table []) s
  has_open_of pattern text stop = record { pattern = pattern; text = text; is_open = open_of_stop pattern text stop }

-- ---- of documents

module _ {M : Type 0} (finds : M → List ℕ → Option Bool) (table : PatternTable M) where
  -- the completion without a match more is what is read of the table
  pub none_more : completed (matches_with finds table []) none_matched ≡ table_reads finds table
  unfolding completed
  none_more = same_answers _ _ (λ p t. by_pattern p t (pattern_for table p))
    where
      by_found : (o : Option Bool) → known_or false (or_else o None) ≡ is_yes o
      by_found None = refl
      by_found (Some b) = refl

      by_pattern : (p t : List ℕ) (o : Option (CompiledPattern M)) → known_or false (or_else (found_in finds t o) None) ≡ is_yes (option_and_then (λ c. found_by finds c t) o)
      by_pattern p t None = refl
      by_pattern p t (Some c) = by_found (found_by finds c t)

module _ {K M : Type 0} (shape : K → Shape ℕ) (finds : M → List ℕ → Option Bool) (nodes : List (Node K)) (table : PatternTable M) (start : ℕ) (d : Data) where
  abbrev base : Matches
  base = matches_with finds table []

  -- the completion without a match more tells what is read of the table
  pub verdict_by_table : verdict_in shape nodes start d (completed base none_matched) ≡ answer_by shape finds nodes table start d verdicts
  unfolding verdict_in answer_by
  verdict_by_table = ap (λ reads. cut verdicts (reading_of shape reads nodes) (keys_below (length nodes) d) [] start (whole d)) (none_more finds table)

  pub faults_by_table : faults_in shape nodes start d (completed base none_matched) ≡ answer_by shape finds nodes table start d bags
  unfolding faults_in answer_by
  faults_by_table = ap (λ reads. cut bags (reading_of shape reads nodes) (keys_below (length nodes) d) [] start (whole d)) (none_more finds table)

  -- where no match is open, it is what is read of the table
  pub accepting_is : (b : Bool) → IsAccepting shape nodes start d base b → (HasOpen base (start_at shape nodes start d) → ⊥) → b ≡ answer_by shape finds nodes table start d verdicts
  accepting_is b h shut = elim h.either [
    | inl all ↦ (all none_matched ∙ verdict_by_table)
    | inr one ↦ absurd (shut one.has_open)
  ]

  pub certain_is : (fs : Faults) → IsCertain shape nodes start d base fs → (HasOpen base (start_at shape nodes start d) → ⊥) → fs ≡ answer_by shape finds nodes table start d bags
  certain_is fs h shut = elim h.either [
    | inl all ↦ (all none_matched ∙ faults_by_table)
    | inr rest ↦ elim rest [
      | inl shared ↦ absurd (shut shared.has_open)
      | inr one ↦ absurd (shut (record { pattern = one.pattern; text = one.text; is_open = one.is_open }))
    ]
  ]

  -- none is where documents are decided that the graph means
  pub none_is_open : (docs : Documents) (makes : List ℕ → Bool) (matches : List ℕ → List ℕ → Bool) (root : Site) → IsDecided shape finds nodes table start d docs makes matches root
      → HasOpen base (start_at shape nodes start d) → ⊥
  none_is_open docs makes matches root h one = none_open shape finds nodes table start d docs makes matches root h one.pattern one.text one.is_open

  module _ (sound : IsSound shape nodes) where
    pub accepting_told : (b : Bool) → IsAccepting shape nodes start d base b → IsVerdict shape finds nodes table start d b
    accepting_told b h docs makes matches root decided =
        let is = accepting_is b h (none_is_open docs makes matches root decided) in
        subst (λ v. IsTold verdicts (plain docs makes matches) root (whole d) v) (sym is) (is_verdict shape finds nodes table start d sound docs makes matches root decided)

    pub accepting_certified : (b : Bool) → IsAccepting shape nodes start d base b → IsCertified shape finds nodes table start d b
    accepting_certified b h docs makes matches root decided =
        let is = accepting_is b h (none_is_open docs makes matches root decided) in
        let certified = is_certified shape finds nodes table start d sound docs makes matches root decided in
        (λ e. certified.0 (sym is ∙ e), λ i e c. is ∙ certified.1 i e c)

    pub certain_told : (fs : Faults) → IsCertain shape nodes start d base fs → AreThoseFaults shape finds nodes table start d fs
    certain_told fs h docs makes matches root decided =
        subst (AreSame shape finds nodes table start d docs makes matches root) (sym (certain_is fs h (none_is_open docs makes matches root decided)))
        (are_faults shape finds nodes table start d sound docs makes matches root decided)

    pub certain_certified : (fs : Faults) → IsCertain shape nodes start d base fs → HaveThoseCertificates shape finds nodes table start d fs
    certain_certified fs h docs makes matches root decided f told =
        have_certificates shape finds nodes table start d sound docs makes matches root decided f
        (subst (Told f) (certain_is fs h (none_is_open docs makes matches root decided)) told)

-- ---- runs that tell all

module _ {K : Type 0} (shape : K → Shape ℕ) (nodes : List (Node K)) (start : ℕ) (d : Data) where
  -- what one that heard of none before heard of a run
  pub run_heard : (m : Matches) (old : AllFaults) (new : Observer) (es : List ValidationError) → all_stand old none
      → InEach m (λ reads. HearsMore (faults_in shape nodes start d reads) (observers.All old) new) → ((fs : Faults) → Hears kept.All new fs → AreAll es fs)
      → InEach m (λ reads. AreAll es (faults_in shape nodes start d reads))
  run_heard m old new es before run says rest = says (faults_in shape nodes start d (completed m rest)) ((run rest).heard kept.All none before)

  module _ {M : Type 0} (finds : M → List ℕ → Option Bool) (table : PatternTable M) (assumed : List AssumedMatch) where
    -- what is left of it beside the runs before is told of all completions that are not left
    pub held_till : (before : Option (Vec ValidationError Global)) (es shared : List ValidationError)
        → InEach (matches_with finds table assumed) (λ reads. AreAll es (faults_in shape nodes start d reads))
        → ((f : Fault) → Told f (faults_of shared) → Told f (faults_of es)) → Narrows before (faults_of shared)
        → ((rest : Answers) → is_left assumed rest ≡ false → Held before (faults_in shape nodes start d (completed (matches_with finds table []) rest)))
        → (rest : Answers) → is_behind assumed rest ≡ false → (f : Fault) → Told f (faults_of shared) → Told f (faults_in shape nodes start d (completed (matches_with finds table []) rest))
    held_till before es shared run among narrows held =
        told_till finds table assumed (λ reads. (f : Fault) → Told f (faults_of shared) → Told f (faults_in shape nodes start d reads))
        (λ rest f t. subst (Told f) (run rest).told (among f t))
        (λ rest left. held_narrower before (faults_in shape nodes start d (completed (matches_with finds table []) rest)) (faults_of shared) narrows (held rest left))

-- ---- the first of some errors

both_so : (a b : Bool) → (a && b) ≡ true → a ≡ true
both_so true b e = refl
both_so false b e = absurd (true≢false (sym e))

-- a list of no length has no items
pub none_listed : (es : List ValidationError) → length es ≡ 0 → es ≡ []
none_listed [] e = refl
none_listed (x ∷ xs) e = absurd (omega (arith, e))

pub first_left : (before after : List ValidationError) (x : Option ValidationError) → MatchOption x ((before ≡ []) × (after ≡ [])) (λ e. before ≡ e ∷ after)
    → are_proper before ≡ true → is_one_of x (faults_of before)
first_left before after None h proper = ap faults_of h.0
first_left before after (Some e) h proper = record {
  told = subst (λ es. Told (fault_of e) (faults_of es)) (sym h) told_first;
  proper = both_so (error_is_proper e) (are_proper after) (sym (ap are_proper h) ∙ proper);
}
