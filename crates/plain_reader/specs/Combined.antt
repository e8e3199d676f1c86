-- What the answers to an applicator's questions come to, taken together.
use Rattle.std.specs.Prelude.{◌≡◌, ◌≤◌, ℕ, nat_lt, List, map, Bool, Some, None}
use Rattle.serde_json.specs.Data.{Data}
use Rattle.serde_json.specs.View.{view}
use Rattle.json_values.specs.Parts.{Part}
use Rattle.schema_meaning.specs.Members.{In, count_true}
use Rattle.schema_meaning.specs.Places.{Key}
use Rattle.schema_meaning.specs.Rules.{is_enough}
use Rattle.schema_definitions.specs.Sites.{Site}
use Rattle.applicators.specs.Combined.{decided}
use Rattle.applicators.specs.Applied.{Applicator}
use Rattle.applicators.specs.declared.combining.Combining.{Combining}
use Rattle.applicators.specs.declared.combining.Combining.TheVariants as code
use Rattle.schema_sites.specs.Seen.{documents_at}
use Rattle.schema_sites.specs.declared.site.Site as sites
use Rattle.plain_reader.specs.Spots.{Spots}
use Rattle.plain_reader.specs.Settings.{Setting, answer_in}
use Rattle.plain_reader.specs.Verdicts.{Fits, AreRead, room}
use Rattle.plain_reader.specs.Applied.{applied_leads, applied_questions}

-- the answers to its questions
abbrev pub answers_in : Applicator → Data → Setting → List Bool
answers_in a d x = map (answer_in x) (applied_questions a d x)

-- whether so many answers, of which so many are yes, settle the verdict, whatever the others are
abbrev pub settles : Combining → ℕ → ℕ → Bool
settles code.SomeBranch answered accepted = nat_lt 0 accepted
settles code.OneBranch answered accepted = nat_lt 1 accepted
settles (code.Counted least None) answered accepted = is_enough least accepted
settles (code.Counted least (Some most)) answered accepted = nat_lt most accepted
settles c answered accepted = nat_lt accepted answered

-- where the sites that the keyword leads to are read
module _ (c : sites.Site) (whole : Spots) (d : Data) (path : List Part) (progress : List Key) (a : Applicator) where
  -- this number decides of so many questions as that of the answers that are yes does
  pub record Counts (asked n : ℕ) : Type 0 where
    pub counted : (x : Setting) → Fits c d path progress x → ((t : Site) → In t (applied_leads a x) → AreRead x.documents x.makes t)
        → room (documents_at c) whole progress (view c.contents.now) ≤ x.depth → decided a d asked n ≡ decided a d asked (count_true (answers_in a d x))
