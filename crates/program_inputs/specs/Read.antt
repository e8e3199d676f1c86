-- What the program's words are, by the matches that clap's definitions give.
use Rattle.std.specs.Prelude.{◌≡◌, ℕ, List, [], Bool, false, bytes_eq, Option, Some, None, codes, option_map, unwrap_or}
use Rattle.clap.specs.Walk.{texts}
use Rattle.clap.specs.Words.{Row, first_of, all_of}
use Rattle.program_inputs.specs.declared.words.ProgramWords.{ProgramWords}

-- whether a flag was given: its value says so
abbrev pub says_true : Option (List ℕ) → Bool
says_true None = false
says_true (Some text) = bytes_eq text (codes "true")

-- the first value of the schema, each value of the files and of the instances in order, the first values of the base, of the draft, of the meta-schemas, of
-- the output and of the file that is checked where they have one, and the flag
pub record HasWordsOf (rows : List Row) (w : ProgramWords) : Type 0 where
  pub schema : Some w.schema.now ≡ first_of (codes "schema") rows
  pub files : texts w.files.items ≡ unwrap_or (all_of (codes "files") rows) []
  pub base : option_map (λ s. s.now) w.base ≡ first_of (codes "base") rows
  pub draft : option_map (λ s. s.now) w.draft ≡ first_of (codes "draft") rows
  pub meta : option_map (λ s. s.now) w.meta ≡ first_of (codes "meta") rows
  pub ref_siblings : w.ref_siblings ≡ says_true (first_of (codes "ref-siblings") rows)
  pub output : option_map (λ s. s.now) w.output ≡ first_of (codes "output") rows
  pub instances : texts w.instances.items ≡ unwrap_or (all_of (codes "instance") rows) []
  pub check : option_map (λ s. s.now) w.check ≡ first_of (codes "check") rows
