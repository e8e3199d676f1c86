-- What is noted of the value itself, and whether a keyword refuses by it.
use Rattle.std.proofs.Common.{◌≡◌, ◌∙◌, ◌≤◌, List, [], ◌∷◌, Bool, true, false, not, ◌&&◌, refl, ap}
use Rattle.serde_json.specs.Data.{Data, depth}
use Rattle.serde_json.specs.View.{view}
use Rattle.schema_meaning.specs.Members.{first, all_true, is_empty}
use Rattle.schema_meaning.specs.Rules.{Rule, Note, accepts}
use Rattle.schema_meaning.specs.Keywords.{rule}
use Rattle.schema_definitions.specs.Sites.{Site, below}
use Rattle.schema_definitions.specs.Plain.{deepest}
use Rattle.applicators.specs.Shapes.{shape_of}
use Rattle.applicators.specs.Combined.{is_every, notes_by}
use Rattle.applicators.specs.Applied.{Applicator}
use Rattle.applicators.proofs.CombinedLemmas.{every_rule}
use Rattle.certificate_laws.proofs.Answers.{answers_there}
use Rattle.plain_reader.specs.Passed.{documents_at}
use Rattle.plain_reader.specs.Passed as code
use Rattle.certificate_laws.proofs.Begun.{rules_stand}
use Rattle.fault_checks.specs.Scenes.{reading_of}
use Rattle.fault_checks.specs.Rows.{applied_row}
use Rattle.fault_checks.specs.Verdicts.{IsRefusal}
use Rattle.fault_checks.proofs.Right.{told_there}
use Rattle.fault_checks.proofs.Children.{meets_shallow}

pub empty_is : (notes : List Note) (b : Bool) → b ≡ not (is_empty notes) → b ≡ false → notes ≡ []
empty_is [] b is unnoted = refl
empty_is (note ∷ notes) b is unnoted = cc

pub some_noted : (notes : List Note) (b : Bool) → b ≡ not (is_empty notes) → b ≡ true → is_empty notes ≡ false
some_noted [] b is noted_so = cc
some_noted (note ∷ notes) b is noted_so = refl

-- where something is noted, it refuses, whatever the answers
pub by_note : (c : code.Site) (d : Data) (a : Applicator) → depth (view c.contents.now) ≤ deepest (documents_at c) → is_every a ≡ true → is_empty (notes_by a d) ≡ false
    → IsRefusal c d (code.Applicator a) true
by_note c d a shallow each noted = record {
  decides = λ x s n stage.
      let site = below x.documents s in
      let k : Rule Site = rule x.matches d (shape_of site a) in
      let told = told_there x s d (meets_shallow c x s stage.meets shallow) stage.straight in
      let bs = answers_there (reading_of x) s d _ told k (rules_stand x.documents x.makes x.matches s (applied_row a x s) d stage.stands k first) in
      (k, bs.0, first, bs.1, ap (λ (r : Rule Site). accepts r bs.0) (every_rule a each site x.matches d) ∙ ap (λ v. v && all_true bs.0) noted);
}
