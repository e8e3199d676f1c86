-- What references lead to in a registry, and the list of its schema places.
use Rattle.std.proofs.Common.{◌≡◌, List, [], ◌∷◌, true, refl}
use Rattle.schema_meaning.specs.Members.{is_empty}
use Rattle.schema_definitions.specs.DocumentCauses.{DocumentCause, document_causes}
use Rattle.document_laws.specs.ListedLaws.{TargetsAgree}
use Rattle.document_laws.proofs.TargetsListed.{targets_are_listed}
use Rattle.referencing.specs.Seen.{documents_of}
use Rattle.referencing.specs.declared.registry.Registry.{Registry}

none : (cs : List DocumentCause) → is_empty cs ≡ true → cs ≡ []
none [] e = refl
none (c ∷ cs) e = absurd (cc (e))

pub causeless : (r : Registry) → document_causes (documents_of r) ≡ []
causeless r = none (document_causes (documents_of r)) r.stands.accepted

pub agreeing : (r : Registry) → TargetsAgree (documents_of r)
agreeing r = targets_are_listed (documents_of r) r.stands.rising
