-- Whether the children of a site accept.
use Rattle.std.proofs.Common.{◌≡◌, ◌≤◌, ◌<◌, ◌+◌, ◌*◌, ℕ, List, Bool, Option, None, refl, sym, ap, ap₂, subst, ◌∙◌, arith}
use Rattle.std.specs.Borrow.{Bor}
use Rattle.schema_patterns.specs.Read.{reads}
use Rattle.schema_patterns.specs.declared.matches.Matches.{Matches}
use Rattle.serde_json.specs.Data.{Data, depth}
use Rattle.serde_json.specs.View.{view}
use Rattle.json_values.specs.Parts.{Part}
use Rattle.schema_definitions.specs.Scopes.{entered_scope}
use Rattle.schema_meaning.specs.Places.{Spot, Step, after, value_after, path_after, called_after, Key}
use Rattle.schema_meaning.specs.Questions.{Question, question}
use Rattle.schema_definitions.specs.Sites.{Site, below}
use Rattle.schema_definitions.specs.Plain.{deepest}
use Rattle.schema_sites.specs.Passed.{base_of, scope_of}
use Rattle.schema_sites.specs.Seen.{documents_at, Stands}
use Rattle.schema_sites.specs.declared.site.Site as code
use Rattle.plain_reader.specs.Spots.{Spots}
use Rattle.plain_reader.specs.Settings.{Setting, uncalled, accepts_in, answer_in}
use Rattle.plain_reader.specs.Verdicts.{Fits, AreRead, Accepts, AcceptsCalled, room, value_at}
use Rattle.plain_reader.proofs.VerdictLemmas.{answer_inside, led_to}

-- ---- a child of a site

pub record Child (c b : code.Site) (d : Data) : Type 0 where
  pub contents : view b.contents.now ≡ d
  pub documents : documents_at b ≡ documents_at c
  pub scope : scope_of b.resolver ≡ entered_scope (base_of b.resolver) (base_of c.resolver) (scope_of c.resolver)
  pub stands : (s : Site) (added : List Part) → Stands c s → Stands b (below (documents_at c) s added d)
  pub matches : b.matches ≡ c.matches

pub child_shallow : (c b : code.Site) (d : Data) → Child c b d → depth d < depth (view c.contents.now) → depth (view c.contents.now) ≤ deepest (documents_at c)
    → depth (view b.contents.now) ≤ deepest (documents_at b)
child_shallow c b d child inside shallow =
    subst (λ e. depth e ≤ deepest (documents_at b)) (sym child.contents) (subst (λ docs. depth d ≤ deepest docs) (sym child.documents) (omega (arith, inside, shallow)))

deeper_room : (n : ℕ) (a b : ℕ) → a < b → 12 * (n + a) + 11 < 12 * (n + b)
deeper_room n a b h = omega (arith, h)

pub child_falls : (c b : code.Site) (d : Data) (whole : Spots) (keys : List Key) → Child c b d → depth d < depth (view c.contents.now)
    → 12 * room (documents_at b) whole keys (view b.contents.now) + 11 < 12 * room (documents_at c) whole keys (view c.contents.now)
child_falls c b d whole keys child inside =
    subst (λ e. 12 * room (documents_at b) whole keys e + 11 < 12 * room (documents_at c) whole keys (view c.contents.now)) (sym child.contents)
    (subst (λ docs. 12 * room docs whole keys d + 11 < 12 * room (documents_at c) whole keys (view c.contents.now)) (sym child.documents) (deeper_room _ _ _ inside))

-- what a site asks of a child
abbrev asks : Data → List Part → Step → Setting → Question Site
asks d added step x = question (below x.documents x.site added d) step added

abbrev as_value : Spot → Spot
as_value w = value_at w.value w.path w.road

module _ (c b : code.Site) (d : Data) (whole : Spots) (value : Data) (path : List Part) (keys : List Key) (added : List Part) (step : Step) where
  pub child_fits : (x : Setting) → Child c b d → Fits c value path keys x → AreRead x.documents x.makes (below x.documents x.site added d)
      → Fits b (value_after value step) (path_after path step) keys (uncalled (led_to x (asks d added step x) x.keys))
  child_fits x child fits read =
      let inner = below x.documents x.site added d in
      let stands : Stands b (below x.documents x.site added d) = subst (λ docs. Stands b (below docs x.site added d)) (sym fits.documents) (child.stands x.site added fits.stands) in
      record {
        documents = fits.documents ∙ sym child.documents;
        stands = stands;
        scope = ap₂ (λ new present. entered_scope new present x.site.scope) stands.base fits.stands.base ∙ ap (entered_scope (base_of b.resolver) (base_of c.resolver)) fits.scope ∙ sym child.scope;
        spot = ap (λ (w : Spot). as_value (after w step added)) fits.spot;
        keys = fits.keys;
        matches = fits.matches ∙ ap (λ (m : Bor Matches). reads m.now) (sym child.matches);
        read = read;
      }

  pub child_accepts : (v : Bool) → Child c b d → depth d < depth (view c.contents.now)
      → AcceptsCalled b whole (value_after value step) (path_after path step) keys (called_after None step) v
      → (x : Setting) → Fits c value path keys x → AreRead x.documents x.makes (below x.documents x.site added d) → room (documents_at c) whole keys (view c.contents.now) ≤ x.depth
      → answer_in x (asks d added step x) ≡ v
  child_accepts v child inside answer x fits read enough =
      let deep : room (documents_at b) whole keys (view b.contents.now) < x.depth = omega (arith, child_falls c b d whole keys child inside, enough) in
      answer_inside x (asks d added step x) refl
      ∙ answer.is (led_to x (asks d added step x) x.keys) (child_fits x child fits read) (ap (λ (w : Spot). called_after w.called step) fits.spot) deep

-- ---- a value is called nothing

pub accepts_uncalled : (c : code.Site) (whole : Spots) (d : Data) (path : List Part) (keys : List Key) (b : Bool) → Accepts c whole d path keys b → AcceptsCalled c whole d path keys None b
accepts_uncalled c whole d path keys b answer = record {
  is = λ x fits called enough.
      let w = x.spot in
      let same : uncalled x ≡ x =
      ap (λ (o : Option (List ℕ)). record { documents = x.documents; makes = x.makes; matches = x.matches; depth = x.depth; keys = x.keys; site = x.site; spot = record { value = w.value; path = w.path; called = o; road = w.road } }) (sym called) in
      subst (λ (y : Setting). accepts_in y ≡ b) same (answer.is (uncalled x) fits enough);
}
