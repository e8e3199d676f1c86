-- Meta-schemas that are awaited, among schema places.
use Rattle.std.specs.Prelude.{◌≡◌, ℕ, List, Option, option_and_then}
use Rattle.schema_definitions.specs.Words.{last_that}
use Rattle.schema_definitions.specs.Bearers.{Documents, Standing, standings, meta}
use Rattle.schema_definitions.specs.DocumentCauses.{DocumentCause, unknown_specification, circular_metaschema, would_bear}
use Rattle.document_index.specs.declared.awaited.Unsettled.{Unsettled}
use Rattle.document_index.specs.declared.awaited.Unsettled.TheVariants.{Unknown, Circular}

abbrev pub cause_of : Unsettled → DocumentCause
cause_of (Unknown uri) = unknown_specification uri
cause_of (Circular uri) = circular_metaschema uri

-- what the last of these places awaits that would bear a URI
abbrev pub awaited_among : List Standing → List ℕ → Option (List ℕ)
awaited_among ss uri = option_and_then (λ s. s.place.awaits) (last_that (would_bear uri) ss)

-- these are the schema places of documents under all of which they tell
abbrev pub AwaitedIn : Documents → List Standing → Type 0
AwaitedIn docs ss = ss ≡ standings (meta docs) docs
