-- Whether a schema accepts a whole value.
use Rattle.std.proofs.Common.{◌≡◌, ◌<◌, ◌≤◌, ◌+◌, ◌*◌, ℕ, suc, List, [], Bool, refl, sym, ap, subst, arith}
use Rattle.schema_patterns.specs.Read.{reads}
use Rattle.serde_json.specs.Data.{Data, depth}
use Rattle.serde_json.specs.View.{view}
use Rattle.json_values.specs.Parts.{Part}
use Rattle.schema_meaning.specs.Places.{whole}
use Rattle.schema_meaning.specs.Cut.{cut, left}
use Rattle.schema_definitions.specs.Bearers.{Documents}
use Rattle.schema_definitions.specs.Plain.{deepest}
use Rattle.schema_definitions.specs.AllKeys.{keys_of, spots_in}
use Rattle.schema_sites.specs.Seen.{documents_at}
use Rattle.schema_sites.specs.declared.site.Site as code
use Rattle.plain_reader.specs.Settings.{Setting}
use Rattle.plain_reader.specs.Sites.{SiteAccepts}
use Rattle.plain_reader.specs.Verdicts.{Fits, room, Accepts, value_at}

first_fits : (a m x : ℕ) → x ≤ m → a * suc m + x < suc a * suc m
first_fits a m x i = omega (arith, i)

pub root_shallow : (docs other : Documents) (e f : Data) → other ≡ docs → f ≡ e → depth e ≤ deepest docs → depth f ≤ deepest other
root_shallow docs other e f same contents h =
    subst (λ (ds : Documents). depth f ≤ deepest ds) (sym same) (subst (λ (x : Data). depth x ≤ deepest docs) (sym contents) h)

pub site_accepts : (c : code.Site) (d : Data) (at : List Part) (b : Bool) → at ≡ [] → depth (view c.contents.now) ≤ deepest (documents_at c) → Accepts c (spots_in at d) d at [] b → SiteAccepts c d b
unfolding cut
site_accepts c d at b nowhere shallow answer = record {
  is = λ makes s stands scope read.
      let docs : Documents = documents_at c in
      let n : ℕ = suc (left [] (keys_of docs d)) * suc (deepest docs) in
      let x : Setting = record { documents = docs; makes = makes; matches = reads c.matches.now; depth = n; keys = []; site = s; spot = whole d } in
      let fits : Fits c d at [] x = record {
        documents = refl;
        stands = stands;
        scope = scope;
        spot = ap (λ (p : List Part). value_at d p []) (sym nowhere);
        keys = refl;
        matches = refl;
        read = read;
      } in
      let there : room docs (spots_in at d) [] (view c.contents.now) ≡ room docs (spots_in [] d) [] (view c.contents.now) =
      ap (λ (p : List Part). room docs (spots_in p d) [] (view c.contents.now)) nowhere in
      let less : room docs (spots_in [] d) [] (view c.contents.now) < n = first_fits (left [] (keys_of docs d)) (deepest docs) (depth (view c.contents.now)) shallow in
      sym (answer.is x fits (omega (arith, there, less)));
}
