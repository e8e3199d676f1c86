-- Whether a schema accepts a whole value, from a site on.
use Rattle.std.specs.Prelude.{◌≡◌, ℕ, List, [], Bool}
use Rattle.serde_json.specs.Data.{Data}
use Rattle.schema_meaning.specs.Places.{whole}
use Rattle.schema_meaning.specs.Readings.{verdicts}
use Rattle.schema_meaning.specs.Circular.{IsCircular}
use Rattle.schema_meaning.specs.Cut.{cut}
use Rattle.schema_definitions.specs.Sites.{Site}
use Rattle.schema_definitions.specs.Plain.{plain}
use Rattle.schema_definitions.specs.AllKeys.{keys_of}
use Rattle.schema_sites.specs.Passed.{scope_of}
use Rattle.schema_sites.specs.Seen.{documents_at, Stands}
use Rattle.schema_sites.specs.declared.site.Site as code
use Rattle.schema_patterns.specs.Read.{reads}
use Rattle.plain_reader.specs.Verdicts.{AreRead}

-- where every schema reached from the site is read, the answer is the cut reading's verdict from there on
pub record SiteAccepts (c : code.Site) (d : Data) (b : Bool) : Type 0 where
  pub is : (makes : List ℕ → Bool) (s : Site) → Stands c s → s.scope ≡ scope_of c.resolver → AreRead (documents_at c) makes s
      → b ≡ cut verdicts (plain (documents_at c) makes (reads c.matches.now)) (keys_of (documents_at c) d) [] s (whole d)

-- where every schema reached from the site is read, references come back from there on
pub record SiteReturns (c : code.Site) (d : Data) : Type 0 where
  pub circular : (makes : List ℕ → Bool) (s : Site) → Stands c s → s.scope ≡ scope_of c.resolver → AreRead (documents_at c) makes s
      → IsCircular (plain (documents_at c) makes (reads c.matches.now)) s (whole d)
