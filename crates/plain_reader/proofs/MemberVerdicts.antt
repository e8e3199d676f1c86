-- Whether the members of a schema accept, one after another.
use Rattle.std.proofs.Common.{◌≡◌, ◌&&◌, ◌∙◌, ℕ, List, Bool, true, false, refl, ap}
use Rattle.serde_json.specs.Data.{Data, Members, no_members, member}
use Rattle.json_values.specs.Parts.{Part}
use Rattle.schema_meaning.specs.Members.{In, first, later}
use Rattle.schema_meaning.specs.Places.{Key}
use Rattle.schema_meaning.specs.Questions.{listed_members}
use Rattle.schema_sites.specs.declared.site.Site as code
use Rattle.plain_reader.specs.Spots.{Spots}
use Rattle.plain_reader.specs.Settings.{all_accept}
use Rattle.plain_reader.specs.Verdicts.{ShapesAccept}
use Rattle.plain_reader.specs.Shapes.{no_leads, shapes_among, shapes_at}
use Rattle.plain_reader.proofs.VerdictLemmas.{all_accept-none, all_accept-append}
use Rattle.plain_reader.proofs.Left.{MembersLeft}

module _ (c : code.Site) (whole : Spots) (d : Data) (path : List Part) (progress : List Key) where
  pub members_first : (all : Members) → MembersLeft c whole d path progress all all
  members_first all = record { among = λ k e i. i; left = λ x fits fit. refl }

  pub members_step : (all rest : Members) (k : List ℕ) (e : Data) (b : Bool) → b ≡ true → MembersLeft c whole d path progress all (member k e rest)
      → ShapesAccept c whole d path progress no_leads (shapes_at all k e) b → MembersLeft c whole d path progress all rest
  members_step all rest k e b said_yes m one = record {
    among = λ l f i. m.among l f (later i);
    left = λ x fits fit.
        m.left x fits fit ∙ all_accept-append x (shapes_at all k e x) (shapes_among all rest x)
        ∙ ap (λ v. v && all_accept x (shapes_among all rest x)) (one.is x fits (λ t i. elim i [ ]) fit ∙ said_yes);
  }

  pub members_refused : (all rest : Members) (k : List ℕ) (e : Data) (b : Bool) → b ≡ false → MembersLeft c whole d path progress all (member k e rest)
      → ShapesAccept c whole d path progress no_leads (shapes_at all k e) b → ShapesAccept c whole d path progress no_leads (shapes_among all all) false
  members_refused all rest k e b said_no m one = record {
    is = λ x fits leads fit.
        m.left x fits fit ∙ all_accept-append x (shapes_at all k e x) (shapes_among all rest x)
        ∙ ap (λ v. v && all_accept x (shapes_among all rest x)) (one.is x fits leads fit ∙ said_no);
  }

  pub members_last : (all : Members) → MembersLeft c whole d path progress all no_members → ShapesAccept c whole d path progress no_leads (shapes_among all all) true
  members_last all m = record { is = λ x fits leads fit. m.left x fits fit ∙ all_accept-none x }

  pub members_listed : (all rest : Members) (k : List ℕ) (e : Data) → MembersLeft c whole d path progress all (member k e rest) → In (k, e) (listed_members all)
  members_listed all rest k e m = m.among k e first
