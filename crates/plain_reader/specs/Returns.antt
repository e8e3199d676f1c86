-- Where a chain of references comes back to a target at one place of the value.
use Rattle.std.specs.Prelude.{◌≡◌, ◌++◌, ◌∷◌, ℕ, List, Option}
use Rattle.serde_json.specs.Data.{Data}
use Rattle.json_values.specs.Parts.{Part}
use Rattle.schema_meaning.specs.Members.{In}
use Rattle.schema_meaning.specs.Places.{Spot, Key}
use Rattle.schema_meaning.specs.Questions.{Question}
use Rattle.schema_meaning.specs.Keywords.{Shape}
use Rattle.schema_meaning.specs.Readings.{Asks}
use Rattle.schema_meaning.specs.Circular.{Leads}
use Rattle.schema_definitions.specs.Sites.{Site}
use Rattle.schema_definitions.specs.Plain.{keywords_at}
use Rattle.schema_sites.specs.declared.site.Site as code
use Rattle.plain_reader.specs.declared.stop.Stop.{Stop}
use Rattle.plain_reader.specs.declared.stop.Stop.TheVariants.{Memory, Circular}
use Rattle.plain_reader.specs.Settings.{Setting, reading_in, uncalled}
use Rattle.plain_reader.specs.Verdicts.{Fits}

-- some chain of references from here comes to a target that is in progress, or that it has come to before
pub record ComesBack (x : Setting) : Type 0 where
  pub key : Key
  pub keys : List Key
  pub site : Site
  pub spot : Spot
  pub chain : Leads (reading_in x) x.site x.spot (key ∷ keys) site spot
  pub again : In key (keys ++ x.keys)

-- a reading stops for want of memory, or because of this
abbrev pub Stops : Type 0 → Stop → Type 0
Stops P Memory = Unit {0}
Stops P Circular = P

module _ (c : code.Site) (d : Data) (path : List Part) (progress : List Key) where
  -- below the schema
  pub record Returns : Type 0 where
    pub back : (x : Setting) → Fits c d path progress x → ComesBack x

  -- the same of a name, or of a value, that is called so
  pub record ReturnsCalled (called : Option (List ℕ)) : Type 0 where
    pub back : (x : Setting) → Fits c d path progress (uncalled x) → x.spot.called ≡ called → ComesBack x

  -- below keywords of the schema
  pub record ShapesReturn (shapes : Setting → List (Shape Site)) : Type 0 where
    pub back : (x : Setting) → Fits c d path progress x → ((shape : Shape Site) → In shape (shapes x) → In shape (keywords_at x.documents x.makes x.site)) → ComesBack x

  -- below questions that the schema asks
  pub record AskedReturn (questions : Setting → List (Question Site)) : Type 0 where
    pub back : (x : Setting) → Fits c d path progress x → ((q : Question Site) → In q (questions x) → Asks (reading_in x) x.site x.spot q) → ComesBack x
