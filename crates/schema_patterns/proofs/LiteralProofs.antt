-- The laws.
use Rattle.schema_patterns.specs.LiteralLaws.{LiteralsAreReadBack, LiteralFormsAreTheGrammar, CompletionsKeepKnownMatches, EveryChoiceIsACompletion}
use Rattle.schema_patterns.proofs.Completions.{known_kept, some_completion}
use Rattle.schema_patterns.proofs.Grammar.{form_read, form_from}
use Rattle.schema_patterns.proofs.Literals.{literal_back}

pub literals_are_read_back : LiteralsAreReadBack
literals_are_read_back = literal_back

pub completions_keep_known_matches : CompletionsKeepKnownMatches
completions_keep_known_matches = known_kept

pub every_choice_is_a_completion : EveryChoiceIsACompletion
every_choice_is_a_completion = some_completion

pub literal_forms_are_the_grammar : LiteralFormsAreTheGrammar
literal_forms_are_the_grammar pattern l = (form_from pattern l, form_read pattern l)
