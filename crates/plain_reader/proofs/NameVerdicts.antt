-- Whether a schema accepts the names of members.
use Rattle.std.proofs.Common.{◌≡◌, ◌≤◌, ◌*◌, ◌+◌, ℕ, suc, List, [], ◌∷◌, Bool, None, Option, Some, refl, sym, ap, ap₂, ◌∙◌, subst, arith}
use Rattle.std.proofs.Math.Nat.{mul-le-mul_right}
use Rattle.std.proofs.Math.Logic.{∥∥₁_elim}
use Rattle.std.specs.Coded.{le_prop}
use Rattle.serde_json.specs.Data.{Data, string, depth}
use Rattle.serde_json.specs.View.{view}
use Rattle.json_values.specs.Parts.{Part}
use Rattle.schema_meaning.specs.Members.{In, first, later}
use Rattle.schema_meaning.specs.Places.{Spot, Key}
use Rattle.schema_meaning.specs.Faults.{is_none}
use Rattle.schema_meaning.specs.Readings.{verdicts}
use Rattle.schema_meaning.specs.Cut.{cut_within, left}
use Rattle.meaning_laws.proofs.Verdicts.{cut_within_agrees}
use Rattle.schema_definitions.specs.Bearers.{Documents}
use Rattle.schema_definitions.specs.Plain.{deepest}
use Rattle.schema_definitions.specs.AllKeys.{spots_in}
use Rattle.reading_laws.specs.NameLaws.{AreUncalled, keys_among}
use Rattle.reading_laws.proofs.NameRooms.{have_room_among}
use Rattle.reading_laws.proofs.NameTexts.{read_as_text}
use Rattle.schema_sites.specs.Seen.{documents_at}
use Rattle.schema_sites.specs.declared.site.Site as sites
use Rattle.plain_reader.specs.Keys.{keys_in}
use Rattle.plain_reader.specs.declared.progress.Progress.{Progress, Nothing, Target'}
use Rattle.plain_reader.specs.Spots.{Spots}
use Rattle.plain_reader.specs.Settings.{Setting, reading_in, accepts_in}
use Rattle.plain_reader.specs.Verdicts.{Fits, Accepts, AcceptsCalled, room, value_at}

-- ---- a name, as a text

-- what is in progress is asked of values
pub are_uncalled : (p : Progress) → AreUncalled (keys_in p)
are_uncalled Nothing key i = elim i [ ]
are_uncalled (Target' document path at p before) key first = refl
are_uncalled (Target' document path at p before) key (later i) = are_uncalled before key i

room_enough : (a b m x : ℕ) → a ≤ b → a * suc m + x ≤ b * suc m + x
room_enough a b m x h = let p : a * suc m ≤ b * suc m = mul-le-mul_right (suc m) h in omega (arith, p)

pub name_falls : (docs : Documents) (whole alone : Spots) (path : List Part) (k : List ℕ) (keys : List Key) (schema : Data) → alone ≡ (path, None) ∷ [] → AreUncalled keys → ∥ In (path, Some k) whole ∥₁
    → room docs alone [] schema ≤ room docs whole keys schema
name_falls docs whole alone path k keys schema stands values named = subst (λ (s : Spots). room docs s [] schema ≤ room docs whole keys schema) (sym stands)
    (room_enough (left [] (keys_among docs ((path, None) ∷ []))) (left keys (keys_among docs whole)) (deepest docs) (depth schema)
    (∥∥₁_elim named le_prop (λ n. have_room_among docs whole path path k keys values n)))

pub stands_alone : (path : List Part) (text : Data) (k : List ℕ) → text ≡ string k → spots_in path text ≡ (path, None) ∷ []
stands_alone path text k is = ap (spots_in path) is

-- the reading of the text alone
abbrev as_text : Setting → Setting
as_text x = record {
  documents = x.documents;
  makes = x.makes;
  matches = x.matches;
  depth = x.depth;
  keys = [];
  site = x.site;
  spot = record { value = x.spot.value; path = x.spot.path; called = None; road = x.spot.road };
}

accepts_as_text : (x : Setting) (k : List ℕ) → AreUncalled x.keys → x.spot.value ≡ string k → x.spot.called ≡ Some k → accepts_in x ≡ accepts_in (as_text x)
accepts_as_text x k values is called =
    let w = x.spot in
    let r = reading_in x in
    let accepts : List Key → Data → Option (List ℕ) → Bool = λ keys d o. cut_within verdicts r x.depth keys x.site (record { value = d; path = w.path; called = o; road = w.road }) in
    ap₂ (λ (d : Data) (o : Option (List ℕ)). accepts x.keys d o) is called
    ∙ sym (cut_within_agrees r x.depth x.keys x.site (record { value = string k; path = w.path; called = Some k; road = w.road }))
    ∙ ap is_none (read_as_text r x.depth k w.path w.road x.keys x.site values)
    ∙ cut_within_agrees r x.depth [] x.site (record { value = string k; path = w.path; called = None; road = w.road }) ∙ ap (λ (d : Data). accepts [] d None) (sym is)

pub name_accepts : (c : sites.Site) (whole : Spots) (k : List ℕ) (path : List Part) (keys : List Key) (alone : Spots) (text : Data) (b : Bool) → text ≡ string k → alone ≡ (path, None) ∷ []
    → AreUncalled keys → ∥ In (path, Some k) whole ∥₁ → Accepts c alone text path [] b → AcceptsCalled c whole (string k) path keys (Some k) b
name_accepts c whole k path keys alone text b is stands values named answer = record {
  is = λ x fits called enough.
      let y = as_text x in
      let value : x.spot.value ≡ string k = ap (λ (w : Spot). w.value) fits.spot in
      let fits_too : Fits c text path [] y = record {
        documents = fits.documents;
        stands = fits.stands;
        scope = fits.scope;
        spot = fits.spot ∙ ap (λ (d : Data). value_at d path x.spot.road) (sym is);
        keys = refl;
        matches = fits.matches;
        read = fits.read;
      } in
      let schema = view c.contents.now in
      let less = name_falls (documents_at c) whole alone path k keys schema stands values named in
      accepts_as_text x k (subst AreUncalled (sym fits.keys) values) value called ∙ answer.is y fits_too (omega (arith, less, enough));
}
