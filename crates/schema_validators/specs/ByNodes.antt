-- What is heard of a validator's nodes, and what follows of the documents that they mean.
use Rattle.std.specs.Prelude.{◌≡◌, ◌⊎◌, [], Bool, Result}
use Rattle.serde_json.specs.Data.{Data}
use Rattle.compiled_keywords.specs.Shapes.{shape_of}
use Rattle.graph_answers.specs.Answers.{HearsAnswer, AreFaults, HaveCertificates}
use Rattle.graph_answers.specs.Certain.{HasOpen, IsAccepting, IsCertain, faults_in}
use Rattle.schema_engine.specs.Matches.{InEach}
use Rattle.graph_answers.specs.Completions.{matches_with, start_at}
use Rattle.graph_answers.specs.Runs.{IsDecision}
use Rattle.graph_answers.specs.declared.runs.Decision.{Decision}
use Rattle.schema_patterns.specs.declared.matcher.PatternMatcher.{Ghosts}
use Rattle.schema_meaning.specs.Faults.{Faults}
use Rattle.schema_reports.specs.declared.error.ValidationError.{ValidationError}
use Rattle.schema_reports.specs.declared.observer.Observer.{Observer}
use Rattle.schema_validators.specs.Heard.{SaysOne}
use Rattle.schema_validators.specs.Seen.{nodes_in, table_in}
use Rattle.schema_validators.specs.declared.validator.Validator.{Validator}

module _ {M : Type 0} {G : Ghosts M} (v : Validator M G) (d : Data) where
  abbrev pub HearsBy : Observer → Observer → Type 0
  HearsBy old new = HearsAnswer shape_of G.finds (nodes_in v) (table_in v) v.start d old new

  abbrev pub AreFaultsBy : Type 0
  AreFaultsBy = AreFaults shape_of G.finds (nodes_in v) (table_in v) v.start d

  abbrev pub HaveCertificatesBy : Type 0
  HaveCertificatesBy = HaveCertificates shape_of G.finds (nodes_in v) (table_in v) v.start d

  -- what is decided of every completion of what its patterns find, or of some
  abbrev pub Decides : Decision → Type 0
  Decides decision = IsDecision shape_of (nodes_in v) v.start d (matches_with G.finds (table_in v) []) decision

  -- a match that the value asks for stays unfinished
  abbrev pub HasOpenBy : Type 0
  HasOpenBy = HasOpen (matches_with G.finds (table_in v) []) (start_at shape_of (nodes_in v) v.start d)

  -- the verdict of every completion of what its patterns find; where a match stays unfinished, yes only where all of them accept
  abbrev pub AcceptsBy : Bool → Type 0
  AcceptsBy b = IsAccepting shape_of (nodes_in v) v.start d (matches_with G.finds (table_in v) []) b

  -- the faults of every completion; where a match stays unfinished, such as all of them have, or one of that match
  abbrev pub TellsBy : Faults → Type 0
  TellsBy fs = IsCertain shape_of (nodes_in v) v.start d (matches_with G.finds (table_in v) []) fs

  -- one of them, or none where there are none
  pub record SaysOneBy {T : Type 0} (answer : Result T ValidationError) : Type 0 where
    pub faults : Faults
    pub told : TellsBy faults
    pub says : SaysOne answer faults

  -- one of the faults of every completion; where a match stays unfinished, one of such as are told then
  pub record SaysFirstBy {T : Type 0} (answer : Result T ValidationError) : Type 0 where
    pub either : InEach (matches_with G.finds (table_in v) []) (λ reads. SaysOne answer (faults_in shape_of (nodes_in v) v.start d reads)) ⊎ SaysOneBy answer
