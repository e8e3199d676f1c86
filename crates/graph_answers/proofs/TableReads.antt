-- What is read of a table's patterns, and the matches that a value asks for.
use Rattle.std.proofs.Common.{◌≡◌, ℕ, List, [], ◌∷◌, ◌||◌, Bool, true, false, true≢false, cond, map, Option, Some, None, option_map, slice_get, bytes_eq, string_bytes, String, Global, refl, sym, ap, ◌∙◌}
use Rattle.std.specs.Prelude.{option_and_then}
use Rattle.std.specs.Map.{lookup}
use Rattle.std.proofs.lemmas.Option.{slice_get-map}
use Rattle.serde_json.specs.Data.{Data}
use Rattle.json_values.specs.Patterns.{Literal, literal_of, literal_or, means, matched, known}
use Rattle.schema_meaning.specs.Members.{is_listed}
use Rattle.schema_meaning.specs.Places.{whole}
use Rattle.schema_definitions.specs.Bearers.{Documents}
use Rattle.schema_definitions.specs.Sites.{Site}
use Rattle.schema_definitions.specs.Words.{or}
use Rattle.schema_definitions.specs.Plain.{plain}
use Rattle.meaning_laws.specs.MatchLaws.{SameOnTheWay}
use Rattle.schema_patterns.specs.Compiled.{found_by}
use Rattle.schema_patterns.specs.Read.{is_yes}
use Rattle.schema_patterns.specs.Tables.{entries_of, pattern_for, texts_of_table, AreMadeBy}
use Rattle.schema_patterns.specs.declared.compiled.CompiledPattern.{CompiledPattern}
use Rattle.schema_patterns.specs.declared.table.PatternTable.{PatternTable}
use Rattle.reading_laws.specs.Asked.{AreAmong, IsAsked, AreFinished}
use Rattle.reading_laws.proofs.Matched.{asked_matches_are_known}
use Rattle.schema_engine.specs.Matches.{Answers, InEach, completed}
use Rattle.graph_answers.specs.Completions.{matches_with}
use Rattle.graph_answers.proofs.Completing.{read_found}
use Rattle.graph_answers.specs.Tables.{table_texts, table_reads, matches_of, AreForms}

module _ {X : Type 0} where
  abbrev entry : String Global × X → List ℕ × X
  entry e = (string_bytes e.0, e.1)

  abbrev text_in : List ℕ × X → List ℕ
  text_in e = e.0

  abbrev value_of : List ℕ → List (String Global × X) → Option X
  value_of p es = lookup (λ (k : String Global). bytes_eq p (string_bytes k)) es

  -- a text among those of entries has a value there
  held : (es : List (String Global × X)) (p : List ℕ) → is_listed p (map text_in (map entry es)) ≡ true → (x : X) × (value_of p es ≡ Some x)
  held [] p h = absurd (true≢false (sym h))
  held (e ∷ es) p h = by (bytes_eq p (string_bytes e.0)) h (held es p)
    where
      by : (b : Bool) → (b || is_listed p (map text_in (map entry es))) ≡ true → (is_listed p (map text_in (map entry es)) ≡ true → (x : X) × (value_of p es ≡ Some x))
          → (x : X) × (cond b (Some e.1) (value_of p es) ≡ Some x)
      by true g again = (e.1, refl)
      by false g again = again g

-- the text of a number is that of its entry
pub text_at : {M : Type 0} (table : PatternTable M) (number : ℕ) → table_texts (texts_of_table table) number ≡ or [] (option_map (λ e. e.0) (slice_get (entries_of table) number))
text_at table number = ap (or []) (slice_get-map (λ e. e.0) (entries_of table) number)

module _ {M : Type 0} (finds : M → List ℕ → Option Bool) (table : PatternTable M) where
  -- every match is known, so that there is one completion
  pub reads_in_each : (rest : Answers) → completed (matches_of finds table) rest ≡ table_reads finds table
  unfolding completed
  reads_in_each rest = refl

  pub read_in_each : (rest : Answers) (pattern text : List ℕ) (b : Bool) → b ≡ matched (table_reads finds table) pattern text → b ≡ matched (completed (matches_of finds table) rest) pattern text
  read_in_each rest pattern text b read = read ∙ ap (λ a. matched a pattern text) (sym (reads_in_each rest))

  -- what a pattern of the table finds is what is read of its text
  pub reads_found : AreForms finds table → (pattern text : List ℕ) (c : CompiledPattern M) → pattern_for table pattern ≡ Some c
      → is_yes (found_by finds c text) ≡ matched (table_reads finds table) pattern text
  reads_found forms pattern text c at = by_form (literal_of pattern) refl
    where
      by_form : (o : Option Literal) → literal_of pattern ≡ o → is_yes (found_by finds c text) ≡ literal_or (λ l. means l text) (table_reads finds table pattern text) o
      by_form None e = sym (ap (λ o. is_yes (option_and_then (λ k. found_by finds k text) o)) at)
      by_form (Some l) e = ap is_yes (forms pattern c l text at e)

  -- nothing is read of the empty text where the table lacks it
  pub reads_nothing : (pattern text : List ℕ) → pattern_for table pattern ≡ None → pattern ≡ [] → false ≡ matched (table_reads finds table) pattern text
  reads_nothing pattern text none empty =
      sym (ap (λ p. matched (table_reads finds table) p text) empty
      ∙ sym (ap (λ p. table_reads finds table p text) empty)
      ∙ ap (λ o. is_yes (option_and_then (λ k. found_by finds k text) o)) none)

  -- in a table that was made of texts, literal forms find what they mean
  pub forms_of_made : (finished : List ℕ → List ℕ → Option Bool) → AreMadeBy finds finished table → AreForms finds table
  forms_of_made finished made pattern c l text at form = made.each pattern c at text ∙ ap (literal_or (λ k. Some (means k text)) (finished pattern text)) form

  -- what is known of a match of one of its patterns is read so
  reads_known : (finished : List ℕ → List ℕ → Option Bool) → AreMadeBy finds finished table → (p t : List ℕ) (b : Bool) → is_listed p (texts_of_table table) ≡ true
      → known finished p t ≡ Some b → b ≡ matched (table_reads finds table) p t
  reads_known finished made p t b among is =
      let at = held table.patterns.entries p among in
      sym (ap is_yes (made.each p at.0 at.1 t ∙ is)) ∙ reads_found (forms_of_made finished made) p t at.0 at.1

  -- it is what such a pattern finds
  pub found_known : (finished : List ℕ → List ℕ → Option Bool) → AreMadeBy finds finished table → (p t : List ℕ) (b : Bool) → is_listed p (texts_of_table table) ≡ true → known finished p t ≡ Some b
      → (c : CompiledPattern M) × (pattern_for table p ≡ Some c) × (found_by finds c t ≡ Some b)
  found_known finished made p t b among is = let at = held table.patterns.entries p among in (at.0, at.1, made.each p at.0 at.1 t ∙ is)

  -- so is the plain reading by each completion
  pub same_in_each : (docs : Documents) (makes : List ℕ → Bool) (matches : List ℕ → List ℕ → Bool) (root : Site) (d : Data) (finished : List ℕ → List ℕ → Option Bool)
      → AreMadeBy finds finished table → AreAmong docs makes root (texts_of_table table) → AreFinished docs makes root finished matches d
      → InEach (matches_with finds table []) (λ m. SameOnTheWay (plain docs makes matches) m root (whole d))
  same_in_each docs makes matches root d finished made among done rest keys s w chain = record {
    each = λ k i. record {
      same = λ p t j.
          let a : IsAsked docs makes root matches d p t = record { keys = keys; site = s; spot = w; chain = chain; keyword = k; stands = i; asked = j } in
          let of = asked_matches_are_known docs makes root matches d p t a in
          let found = found_known finished made p t (matched matches p t) (among.each s of.reached k i p of.pattern) (done.each p t a) in
          read_found finds table [] (forms_of_made finished made) p t found.0 (matched matches p t) found.1 found.2 rest;
    };
  }

  -- the plain reading by the table's matches is the same on the way, where the matches that the value asks for are finished
  pub same_by_table : (docs : Documents) (makes : List ℕ → Bool) (matches : List ℕ → List ℕ → Bool) (root : Site) (d : Data) (finished : List ℕ → List ℕ → Option Bool)
      → AreMadeBy finds finished table → AreAmong docs makes root (texts_of_table table) → AreFinished docs makes root finished matches d
      → SameOnTheWay (plain docs makes matches) (table_reads finds table) root (whole d)
  same_by_table docs makes matches root d finished made among done keys s w chain = record {
    each = λ k i. record {
      same = λ p t j.
          let a : IsAsked docs makes root matches d p t = record { keys = keys; site = s; spot = w; chain = chain; keyword = k; stands = i; asked = j } in
          let of = asked_matches_are_known docs makes root matches d p t a in
          reads_known finished made p t (matched matches p t) (among.each s of.reached k i p of.pattern) (done.each p t a);
    };
  }
