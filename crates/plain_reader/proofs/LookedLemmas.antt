-- What is looked up by the keywords of references.
use Rattle.std.proofs.Common.{◌≡◌, ℕ, List, Ok}
use Rattle.schema_definitions.specs.Bearers.{Documents}
use Rattle.schema_definitions.specs.Lookup.{Target}
use Rattle.document_laws.specs.TargetLaws.{Lies}
use Rattle.document_laws.proofs.TargetsLooked.{lookups_lie, dynamic_lookups_lie, recursive_lookups_lie}
use Rattle.schema_sites.specs.References.{looked_up}
use Rattle.schema_sites.specs.declared.reference_keyword.ReferenceKeyword.{ReferenceKeyword}
use Rattle.schema_sites.specs.declared.reference_keyword.ReferenceKeyword.TheVariants.{Ref, DynamicRef, RecursiveRef}

-- a target is a place of the documents
pub looked_up_lies : (w : ReferenceKeyword) (docs : Documents) (base : List ℕ) (scope : List (List ℕ)) (text : List ℕ) (t : Target) → looked_up w docs base scope text ≡ Ok t → Lies docs t
looked_up_lies Ref docs base scope text t e = lookups_lie docs base text t e
looked_up_lies DynamicRef docs base scope text t e = dynamic_lookups_lie docs base scope text t e
looked_up_lies RecursiveRef docs base scope text t e = recursive_lookups_lie docs base scope t e
