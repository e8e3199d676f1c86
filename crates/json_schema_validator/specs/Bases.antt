-- Where the base and the dialect of a target come from, whether a schema place stands there or not (Core 8.2.1). Paths have their last part first.
use Rattle.std.specs.Prelude.{◌≡◌, List, [], ◌++◌, true}
use Rattle.std.specs.List.{list_all}
use Rattle.json_values.specs.Parts.{Part}
use Rattle.schema_meaning.specs.Members.{In}
use Rattle.schema_definitions.specs.Bearers.{Documents, Standing, standings, meta}
use Rattle.schema_definitions.specs.DocumentCauses.{document_causes}
use Rattle.schema_definitions.specs.Lookup.{Target}
use Rattle.document_laws.specs.TargetLaws.{are_apart, contents_rise, IsTarget}

-- a path is the other, or leads further from it
pub record LeadsFrom (outer path : List Part) : Type 0 where
  pub parts : List Part
  pub is : path ≡ parts ++ outer

-- A schema place of the list of a target's document, which the target is at or below. Among documents whose names are apart it is the nearest:
-- each other one that the target is at or below is above it.
pub record IsNearest (docs : Documents) (t : Target) (s : Standing) : Type 0 where
  pub listed : In s (standings (meta docs) docs)
  pub document : s.document ≡ t.document
  pub below : LeadsFrom s.place.path t.path
  pub nearest : are_apart docs ≡ true → (r : Standing) → In r (standings (meta docs) docs) → r.document ≡ t.document → LeadsFrom r.place.path t.path
      → LeadsFrom r.place.path s.place.path

-- a target has the base and the dialect of the nearest one
pub record IsBased (docs : Documents) (t : Target) : Type 0 where
  pub place : Standing
  pub nearest : IsNearest docs t place
  pub base : t.base ≡ place.place.base
  pub dialect : t.dialect ≡ place.place.dialect

-- of documents in which members' names rise, without a cause to be refused
abbrev pub BasesAreListed : Type 0
BasesAreListed = (docs : Documents) → list_all contents_rise docs ≡ true → document_causes docs ≡ [] → (t : Target) → IsTarget docs t → IsBased docs t
