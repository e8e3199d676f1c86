-- Faults that a file lists for the instances that the words name.
use Rattle.std.proofs.Common.{◌≡◌, ◌∙◌, ℕ, List, Option, Some, option_map, ap, sym, subst, refl}
use Rattle.clap.specs.Walk.{texts}
use Rattle.clap.specs.Words.{Row}
use Rattle.line_runs.specs.Passed.{Root}
use Rattle.schema_registries.specs.declared.registry.SharedRegistry.{SharedRegistry}
use Rattle.program_inputs.specs.Held.{Held}
use Rattle.program_inputs.specs.Read.{HasWordsOf}
use Rattle.program_inputs.specs.declared.words.ProgramWords.{ProgramWords}
use Rattle.validator_program.specs.Given.{MayHold, Words, words_of}
use Rattle.validator_program.specs.Built.{IsPreparedOf}
use Rattle.validator_program.specs.Instances.{AreInstances}
use Rattle.validator_program.specs.Outputs.{form_of}
use Rattle.validator_program.specs.Answered.{words_in}
use Rattle.validator_program.specs.Checked.{IsListed}
use Rattle.validator_program.specs.declared.output.OutputForm.{OutputForm}

module _ (held : List ℕ → Held) (w : ProgramWords) (file : List ℕ) (parent : Option SharedRegistry) (root : Root) (listed : List ℕ) (instances : List (List ℕ)) (form : OutputForm) where
  pub is_listed : (rows : List Row) → HasWordsOf rows w → IsPreparedOf held (words_of w) parent root → form_of (option_map (λ s. s.now) w.output) ≡ Some form
      → MayHold (held file) listed → AreInstances held (texts w.instances.items) instances → IsListed file rows held root listed instances
  is_listed rows has prepared asked holds hold =
      let same : words_of w ≡ words_in w.schema.now rows = rw (has.files, has.base, has.draft, has.meta, has.ref_siblings) refl in
      record {
        schema = w.schema.now;
        is_schema = has.schema;
        parent = parent;
        prepared = subst (λ (words : Words). IsPreparedOf held words parent root) same prepared;
        form = form;
        is_form = sym (ap form_of has.output) ∙ asked;
        holds = holds;
        hold = subst (λ ns. AreInstances held ns instances) has.instances hold;
      }
