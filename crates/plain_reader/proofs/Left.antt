-- What a loop of the reader has still to ask.
use Rattle.std.proofs.Common.{◌≡◌, ◌≤◌, ◌+◌, ℕ, List, map}
use Rattle.serde_json.specs.Data.{Data, Members}
use Rattle.serde_json.specs.View.{view}
use Rattle.json_values.specs.Parts.{Part}
use Rattle.schema_meaning.specs.Members.{In, count_true}
use Rattle.schema_meaning.specs.Places.{Key}
use Rattle.schema_meaning.specs.Questions.{listed_members}
use Rattle.schema_definitions.specs.Sites.{Site, below}
use Rattle.applicators.specs.Questions.{questions_of}
use Rattle.applicators.specs.Applied.{Applicator}
use Rattle.applicators.specs.declared.question.Question.{Question}
use Rattle.schema_sites.specs.Seen.{documents_at}
use Rattle.schema_sites.specs.declared.site.Site as code
use Rattle.plain_reader.specs.Spots.{Spots}
use Rattle.plain_reader.specs.Settings.{Setting, answer_in, all_accept, all_yes}
use Rattle.plain_reader.specs.Verdicts.{Fits, AreRead, room}
use Rattle.plain_reader.specs.Applied.{applied_leads, applied_questions}
use Rattle.plain_reader.specs.Combined.{answers_in}
use Rattle.plain_reader.specs.Shapes.{shapes_among}

module _ (c : code.Site) (whole : Spots) (d : Data) (path : List Part) (progress : List Key) where
  -- all accept where the rest do
  pub record MembersLeft (all rest : Members) : Type 0 where
    pub among : (k : List ℕ) (e : Data) → In (k, e) (listed_members rest) → In (k, e) (listed_members all)
    pub left : (x : Setting) → Fits c d path progress x → room (documents_at c) whole progress (view c.contents.now) ≤ x.depth
        → all_accept x (shapes_among all all x) ≡ all_accept x (shapes_among all rest x)

  -- all are answered by yes where the rest are
  pub record QuestionsLeft (a : Applicator) (all rest : List Question) : Type 0 where
    pub among : (q : Question) → In q rest → In q all
    pub left : (x : Setting) → Fits c d path progress x → ((t : Site) → In t (applied_leads a x) → AreRead x.documents x.makes t)
        → room (documents_at c) whole progress (view c.contents.now) ≤ x.depth
        → all_yes x (applied_questions a d x) ≡ all_yes x (questions_of (below x.documents x.site) rest)

  -- so many answers were yes so far
  pub record CountLeft (a : Applicator) (all rest : List Question) (n : ℕ) : Type 0 where
    pub among : (q : Question) → In q rest → In q all
    pub left : (x : Setting) → Fits c d path progress x → ((t : Site) → In t (applied_leads a x) → AreRead x.documents x.makes t)
        → room (documents_at c) whole progress (view c.contents.now) ≤ x.depth
        → count_true (answers_in a d x) ≡ n + count_true (map (answer_in x) (questions_of (below x.documents x.site) rest))
