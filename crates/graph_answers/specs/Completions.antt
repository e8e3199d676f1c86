-- Matches of a table's patterns of which some stay unfinished.
use Rattle.std.specs.Prelude.{◌&&◌, ℕ, ◌≡◌, List, [], ◌∷◌, map, Bool, false, Option, Some, None, bytes_eq, string_bytes, if◌then◌else◌}
use Rattle.serde_json.specs.Data.{Data}
use Rattle.json_values.specs.Patterns.{or_else}
use Rattle.schema_meaning.specs.Keywords.{Shape}
use Rattle.schema_patterns.specs.Compiled.{found_by}
use Rattle.schema_patterns.specs.Tables.{pattern_for, texts_of_table}
use Rattle.schema_patterns.specs.declared.compiled.CompiledPattern.{CompiledPattern}
use Rattle.schema_patterns.specs.declared.table.PatternTable.{PatternTable}
use Rattle.schema_engine.specs.declared.node.Node.{Node}
use Rattle.schema_engine.specs.Graphs.{keywords_at}
use Rattle.schema_engine.specs.Led.{MayMatch}
use Rattle.schema_engine.specs.Matches.{Matches, Start}
use Rattle.graph_answers.specs.Tables.{table_texts}
use Rattle.graph_answers.specs.declared.assumed.AssumedMatch.{AssumedMatch}

-- what a pattern finds in a text, none where it gives up; there is no match where there is no pattern
abbrev pub found_in : {M : Type 0} → (M → List ℕ → Option Bool) → List ℕ → Option (CompiledPattern M) → Option Bool
found_in finds text None = Some false
found_in finds text (Some c) = found_by finds c text

abbrev pub table_finds : {M : Type 0} → (M → List ℕ → Option Bool) → PatternTable M → List ℕ → List ℕ → Option Bool
table_finds finds table pattern text = found_in finds text (pattern_for table pattern)

-- ---- what is assumed

abbrev pub is_of : AssumedMatch → List ℕ → List ℕ → Bool
is_of a pattern text = bytes_eq (string_bytes a.pattern) pattern && bytes_eq (string_bytes a.text) text

abbrev pub assumed_in : List AssumedMatch → List ℕ → List ℕ → Option Bool
assumed_in [] pattern text = None
assumed_in (a ∷ more) pattern text = if is_of a pattern text then Some a.is_match else assumed_in more pattern text

-- a table's texts by their numbers, and what is known of matches: what its patterns find, and else what is assumed
abbrev pub matches_with : {M : Type 0} → (M → List ℕ → Option Bool) → PatternTable M → List AssumedMatch → Matches
matches_with finds table assumed = record {
  pattern = table_texts (texts_of_table table);
  known = λ pattern text. or_else (table_finds finds table pattern text) (assumed_in assumed pattern text);
  from = None;
}

-- ---- which may be asked for

-- questions that begin with a node of a graph and a value
abbrev pub start_at : {K : Type 0} → (K → Shape ℕ) → List (Node K) → ℕ → Data → Start
start_at shape nodes n d = record { keywords = λ i. map shape (keywords_at nodes i); node = n; value = d }

-- none but those that such questions ask for
abbrev pub asked_from : Start → Matches → Matches
asked_from s m = record { pattern = m.pattern; known = m.known; from = Some s }

abbrev pub matches_from : {K M : Type 0} → (M → List ℕ → Option Bool) → PatternTable M → List AssumedMatch → (K → Shape ℕ) → List (Node K) → ℕ → Data → Matches
matches_from finds table assumed shape nodes n d = asked_from (start_at shape nodes n d) (matches_with finds table assumed)

-- a match of which nothing is known, and that may be asked for
pub record IsStop (m : Matches) (pattern text : List ℕ) : Type 0 where
  pub unknown : m.known pattern text ≡ None
  pub asked : ∥ MayMatch m pattern text ∥₁
