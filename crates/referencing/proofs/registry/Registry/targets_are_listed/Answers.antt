use Rattle.referencing.specs.Seen.{documents_of, told_by}
use Rattle.document_laws.proofs.Placing.{places_are_one}
use Rattle.referencing.proofs.ListedLemmas.{agreeing, causeless}
use Rattle.referencing.proofs.registry.Registry.targets_are_listed.Goals as goal

pub returns-clause-listed : goal.returns-clause-listed
returns-clause-listed c = (let registry = c.args.self.now in (agreeing registry).accepted (causeless registry))

pub returns-clause-one : goal.returns-clause-one
returns-clause-one c = (let registry = c.args.self.now in (agreeing registry).one (causeless registry))

pub returns-clause-once : goal.returns-clause-once
returns-clause-once c = λ apart. (let registry = c.args.self.now in places_are_one (documents_of registry) apart registry.stands.rising (told_by registry))
