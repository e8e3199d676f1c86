-- What a reader answers of a schema's keywords where it stands.
use Rattle.std.specs.Prelude.{ℕ, List, Bool, None, map}
use Rattle.schema_meaning.specs.Members.{all_true}
use Rattle.schema_meaning.specs.Places.{Spot, Key}
use Rattle.schema_meaning.specs.Questions.{Question}
use Rattle.schema_meaning.specs.Keywords.{Shape, rule}
use Rattle.schema_meaning.specs.Readings.{Reading, verdicts}
use Rattle.schema_meaning.specs.Cut.{cut_all, cut_asked, cut_within}
use Rattle.schema_definitions.specs.Bearers.{Documents}
use Rattle.schema_definitions.specs.Sites.{Site}
use Rattle.schema_definitions.specs.Plain.{plain}

-- the documents, how patterns are made and matched, the site and the spot, the references in progress, and how deep questions may go
pub record Setting : Type 0 where
  pub documents : Documents
  pub makes : List ℕ → Bool
  pub matches : List ℕ → List ℕ → Bool
  pub depth : ℕ
  pub keys : List Key
  pub site : Site
  pub spot : Spot

-- the same at a value, where it is at a name
abbrev pub uncalled : Setting → Setting
uncalled x = record {
  documents = x.documents;
  makes = x.makes;
  matches = x.matches;
  depth = x.depth;
  keys = x.keys;
  site = x.site;
  spot = record { value = x.spot.value; path = x.spot.path; called = None; road = x.spot.road };
}

abbrev pub reading_in : Setting → Reading Site
reading_in x = plain x.documents x.makes x.matches

-- whether the site accepts, by all its keywords
abbrev pub accepts_in : Setting → Bool
accepts_in x = cut_within verdicts (reading_in x) x.depth x.keys x.site x.spot

-- the answer to one question
unfoldable pub answer_in : Setting → Question Site → Bool
answer_in x q = cut_asked verdicts (reading_in x) (cut_within verdicts (reading_in x) x.depth) x.keys x.spot q

-- whether questions are all answered by yes, and whether keywords all accept
unfoldable pub all_yes : Setting → List (Question Site) → Bool
all_yes x qs = all_true (map (answer_in x) qs)

unfoldable pub all_accept : Setting → List (Shape Site) → Bool
all_accept x shapes = cut_all verdicts x.spot x.site.schema_path (answer_in x) (map (rule x.matches x.spot.value) shapes)
