-- What a value is told however the matches that stay unfinished are answered.
use Rattle.std.specs.Prelude.{◌≡◌, ◌⊎◌, ℕ, List, [], length, Bool, true, false, Option, string_bytes}
use Rattle.serde_json.specs.Data.{Data}
use Rattle.schema_meaning.specs.Certificates.{Certificate}
use Rattle.schema_meaning.specs.Cut.{cut}
use Rattle.schema_meaning.specs.Faults.{Fault, Faults, none, also, Told, Kind, instance_path, evaluation_path}
use Rattle.schema_meaning.specs.Faults as told
use Rattle.schema_meaning.specs.Keywords.{Shape}
use Rattle.schema_meaning.specs.Places.{whole}
use Rattle.schema_meaning.specs.Readings.{bags}
use Rattle.schema_definitions.specs.Bearers.{Documents}
use Rattle.schema_definitions.specs.Plain.{plain}
use Rattle.schema_definitions.specs.Sites.{Site}
use Rattle.schema_patterns.specs.declared.table.PatternTable.{PatternTable}
use Rattle.error_kinds.specs.Floats.{fault_has_float}
use Rattle.schema_reports.specs.Stands.{is_one_of}
use Rattle.schema_reports.specs.Told.{fault_of, fault_kind, faults_of, error_is_proper, are_proper}
use Rattle.schema_reports.specs.declared.error.ValidationError.{ValidationError}
use Rattle.schema_reports.specs.declared.observer.Observer.{Observer}
use Rattle.schema_engine.specs.Graphs.{reading_of}
use Rattle.schema_engine.specs.Hearing.{HearsMore}
use Rattle.schema_engine.specs.Matches.{Answers, Matches, Start, InEach, completed}
use Rattle.schema_engine.specs.declared.node.Node.{Node}
use Rattle.graph_answers.specs.Answers.{keys_below, IsDecided, AreSame}
use Rattle.graph_answers.specs.Completions.{start_at, asked_from, IsStop}
use Rattle.graph_answers.specs.Runs.{verdict_in, IsOpen, AreSixOpen}
use Rattle.graph_answers.specs.declared.telling.Telling.{Telling}
use Rattle.graph_answers.specs.declared.telling.Telling.TheVariants as telling

-- some match is asked for, and nothing is known of it
pub record HasOpen (m : Matches) (s : Start) : Type 0 where
  pub pattern : List ℕ
  pub text : List ℕ
  pub is_open : IsOpen m s pattern text

-- an error of a match of that pattern
pub record IsUnfinished (pattern : List ℕ) (e : ValidationError) : Type 0 where
  pub kind : fault_kind (fault_of e) ≡ told.UnfinishedMatch pattern
  pub proper : error_is_proper e ≡ true

module _ {K : Type 0} (shape : K → Shape ℕ) (nodes : List (Node K)) (start : ℕ) (d : Data) where
  -- the faults from a node on by these matches, a return of references telling none
  unfoldable pub faults_in : Answers → Faults
  faults_in reads = cut bags (reading_of shape reads nodes) (keys_below (length nodes) d) [] start (whole d)

  abbrev begin : Start
  begin = start_at shape nodes start d

  -- a run that was not stopped tells the faults of each completion, and one that was is at a match that is asked for, of which nothing is known
  abbrev pub IsTelling : Matches → Observer → Telling → Type 0
  IsTelling m old (telling.Told new) = InEach m (λ reads. HearsMore (faults_in reads) old new)
  IsTelling m old (telling.Stopped one) = IsStop (asked_from begin m) (string_bytes one.pattern) (string_bytes one.text)

  -- some completion refuses, or there are six matches that the value asks for and of which nothing is known
  abbrev pub MayRefuse : Matches → Type 0
  MayRefuse m = ((rest : Answers) × (verdict_in shape nodes start d (completed m rest) ≡ false)) ⊎ AreSixOpen m begin

  -- ---- verdicts

  -- some match is open, every completion accepts where the answer is yes, and else some may refuse
  pub record AcceptsOpen (m : Matches) (b : Bool) : Type 0 where
    pub has_open : HasOpen m begin
    pub accepts : b ≡ true → InEach m (λ reads. verdict_in shape nodes start d reads ≡ true)
    pub refuses : b ≡ false → MayRefuse m

  -- the verdict of every completion, if no match is open
  pub record IsAccepting (m : Matches) (b : Bool) : Type 0 where
    pub either : InEach m (λ reads. b ≡ verdict_in shape nodes start d reads) ⊎ AcceptsOpen m b

  -- ---- faults

  -- each fault of every completion is among these, but for one that carries a number that is not whole
  abbrev pub HasShared : Matches → Faults → Type 0
  HasShared m fs = (f : Fault) → fault_has_float f ≡ false → InEach m (λ reads. Told f (faults_in reads)) → Told f fs

  -- each error is of a fault in every completion; and all of these are there, unless there are six matches of which nothing is known
  pub record AreShared (m : Matches) (errors : List ValidationError) : Type 0 where
    pub told : InEach m (λ reads. (f : Fault) → Told f (faults_of errors) → Told f (faults_in reads))
    pub proper : are_proper errors ≡ true
    pub all : HasShared m (faults_of errors) ⊎ AreSixOpen m begin

  -- Some match is open. Each fault is one in every completion, all such are there, unless six matches are open, and there are none only where
  -- every completion accepts.
  pub record AreSharedFaults (m : Matches) (fs : Faults) : Type 0 where
    pub has_open : HasOpen m begin
    pub told : InEach m (λ reads. (f : Fault) → Told f fs → Told f (faults_in reads))
    pub all : HasShared m fs ⊎ AreSixOpen m begin
    pub accepts : fs ≡ none → InEach m (λ reads. verdict_in shape nodes start d reads ≡ true)

  -- one fault, of a match that is open, where some completion may refuse and no fault is one in every completion, unless six matches are open
  pub record IsOpenFault (m : Matches) (fs : Faults) : Type 0 where
    pub fault : Fault
    pub alone : fs ≡ also fault none
    pub pattern : List ℕ
    pub text : List ℕ
    pub kind : fault_kind fault ≡ told.UnfinishedMatch pattern
    pub is_open : IsOpen m begin pattern text
    pub refuses : MayRefuse m
    pub shares_none : HasShared m none ⊎ AreSixOpen m begin

  -- the faults of every completion, if no match is open
  pub record IsCertain (m : Matches) (fs : Faults) : Type 0 where
    pub either : InEach m (λ reads. fs ≡ faults_in reads) ⊎ (AreSharedFaults m fs ⊎ IsOpenFault m fs)

  -- one of some such faults, or none where there are none
  pub record IsOneCertain (m : Matches) (first : Option ValidationError) : Type 0 where
    pub faults : Faults
    pub certain : IsCertain m faults
    pub is : is_one_of first faults

  -- the first: one of the faults of every completion, or of such as are told where a match is open
  pub record IsFirst (m : Matches) (first : Option ValidationError) : Type 0 where
    pub either : InEach m (λ reads. is_one_of first (faults_in reads)) ⊎ IsOneCertain m first

  -- an error of an open match
  pub record IsUnfinishedOpen (m : Matches) (e : ValidationError) : Type 0 where
    pub pattern : List ℕ
    pub text : List ℕ
    pub is_open : IsOpen m begin pattern text
    pub unfinished : IsUnfinished pattern e

-- ---- of documents that the graph means, where each match that the value asks for finishes and no references come back

module _ {K M : Type 0} (shape : K → Shape ℕ) (finds : M → List ℕ → Option Bool) (nodes : List (Node K)) (table : PatternTable M) (start : ℕ) (d : Data) where
  -- the faults are theirs
  abbrev pub AreThoseFaults : Faults → Type 0
  AreThoseFaults fs = (docs : Documents) (makes : List ℕ → Bool) (matches : List ℕ → List ℕ → Bool) (root : Site)
      → IsDecided shape finds nodes table start d docs makes matches root → AreSame shape finds nodes table start d docs makes matches root fs

  -- the two paths of each are those of a chain of obliged steps to a keyword that refuses
  abbrev pub HaveThoseCertificates : Faults → Type 0
  HaveThoseCertificates fs = (docs : Documents) (makes : List ℕ → Bool) (matches : List ℕ → List ℕ → Bool) (root : Site)
      → IsDecided shape finds nodes table start d docs makes matches root
      → (f : Fault) → Told f fs → Certificate (plain docs makes matches) root (whole d) (instance_path f) (evaluation_path f)

  -- the error is of one of them
  pub record IsOneThere (first : Option ValidationError) : Type 0 where
    pub faults : Faults
    pub those : AreThoseFaults faults
    pub certified : HaveThoseCertificates faults
    pub is : is_one_of first faults

  abbrev pub IsOneOfThose : Option ValidationError → Type 0
  IsOneOfThose first = IsOneThere first
