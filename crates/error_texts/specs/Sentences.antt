-- Lines that tell of errors in sentences.
use Rattle.std.specs.Prelude.{◌≡◌, ◌==◌, ℕ, List, [], ◌∷◌, Bool, Option, Some, None, reverse, drop, codes, map}
use Rattle.std.specs.List.{before_first, concat, position_or_len}
use Rattle.std.specs.Borrow.{Bor}
use Rattle.json_values.specs.Parts.{Part}
use Rattle.json_values.specs.Pointers.{pointer_text}
use Rattle.schema_meaning.specs.Faults.{instance_path, evaluation_path}
use Rattle.schema_reports.specs.KeywordLocations.{absolute_text}
use Rattle.schema_reports.specs.Phrases.{AreSpelled}
use Rattle.schema_reports.specs.Sentences.{description_of}
use Rattle.schema_reports.specs.Told.{fault_of}
use Rattle.schema_reports.specs.declared.error.ValidationError.{ValidationError}
use Rattle.schema_reports.specs.declared.keyword_location.KeywordLocation.{KeywordLocation}

-- a line end is the byte 10
abbrev pub is_end : ℕ → Bool
is_end b = b == 10

-- the first line of a text, and the rest from its line end on
abbrev pub first_line : List ℕ → List ℕ
first_line text = before_first is_end text

abbrev pub further_lines : List ℕ → List ℕ
further_lines text = drop (position_or_len is_end text) text

-- the paths of an error as pointers (RFC 6901)
abbrev pub place_text : ValidationError → List ℕ
place_text e = pointer_text (reverse (instance_path (fault_of e)))

abbrev pub road_text : ValidationError → List ℕ
road_text e = pointer_text (reverse (evaluation_path (fault_of e)))

-- the absolute location of a keyword (Core, section 12.3.3), and the road of evaluation where no validator told of it
abbrev pub location_in : List Part → List ℕ → Option KeywordLocation → List ℕ
location_in schema_path road None = road
location_in schema_path road (Some l) = absolute_text schema_path l

abbrev pub location_text : ValidationError → List ℕ
location_text e = location_in e.schema_path (road_text e) e.standing

-- `LABEL:PLACE: SENTENCE (LOCATION)`; further lines of the sentence stand below
abbrev pub sentence_line : List ℕ → List ℕ → List ℕ → List ℕ → List ℕ
sentence_line label place sentence location =
    concat (label ∷ codes ":" ∷ place ∷ codes ": " ∷ first_line sentence ∷ codes " (" ∷ location ∷ codes ")" ∷ further_lines sentence ∷ codes "\n" ∷ [])

pub record IsSentence (label : List ℕ) (e : ValidationError) (text : List ℕ) : Type 0 where
  pub description : List ℕ
  pub says : AreSpelled (description_of e) description
  pub is_text : text ≡ sentence_line label (place_text e) description (location_text e)

-- `LABEL: REASON` of a text that is no value
abbrev pub reason_line : List ℕ → List ℕ → List ℕ
reason_line label reason = concat (label ∷ codes ": " ∷ reason ∷ codes "\n" ∷ [])

abbrev pub joined : List (Bor (List ℕ)) → List ℕ
joined parts = concat (map (λ s. s.now) parts)
