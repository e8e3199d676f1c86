use Rattle.std.proofs.Common.{codes, refl}
use Rattle.serde_json.specs.View.{view}
use Rattle.applicator_reading.proofs.NamedLemmas.{read-at, named-at}
use Rattle.applicator_reading.proofs.reading.read.Goals as goal

pub returns-in-items-clause-read : goal.returns-in-items-clause-read
returns-in-items-clause-read c = read-at c.args.name.now (codes "items") c.args.neighbours (view c.args.value.now) c.items.result c.in-items.is (λ x s. c.items.ensures.read x s)

pub returns-in-items-clause-named : goal.returns-in-items-clause-named
returns-in-items-clause-named c = named-at c.args.name.now (codes "items") c.in-items.is refl

pub returns-in-prefixItems-clause-read : goal.returns-in-prefixItems-clause-read
returns-in-prefixItems-clause-read c = read-at c.args.name.now (codes "prefixItems") c.args.neighbours (view c.args.value.now) c.list.result c.in-prefixItems.is (λ x s. c.list.ensures.read x)

pub returns-in-prefixItems-clause-named : goal.returns-in-prefixItems-clause-named
returns-in-prefixItems-clause-named c = named-at c.args.name.now (codes "prefixItems") c.in-prefixItems.is refl

pub returns-in-additionalItems-clause-read : goal.returns-in-additionalItems-clause-read
returns-in-additionalItems-clause-read c = read-at c.args.name.now (codes "additionalItems") c.args.neighbours (view c.args.value.now) c.additional_items.result c.in-additionalItems.is (λ x s. c.additional_items.ensures.read x s)

pub returns-in-additionalItems-clause-named : goal.returns-in-additionalItems-clause-named
returns-in-additionalItems-clause-named c = named-at c.args.name.now (codes "additionalItems") c.in-additionalItems.is refl

pub returns-in-contains-clause-read : goal.returns-in-contains-clause-read
returns-in-contains-clause-read c = read-at c.args.name.now (codes "contains") c.args.neighbours (view c.args.value.now) c.contains.result c.in-contains.is (λ x s. c.contains.ensures.read x s)

pub returns-in-contains-clause-named : goal.returns-in-contains-clause-named
returns-in-contains-clause-named c = named-at c.args.name.now (codes "contains") c.in-contains.is refl

pub returns-in-minContains-clause-read : goal.returns-in-minContains-clause-read
returns-in-minContains-clause-read c = read-at c.args.name.now (codes "minContains") c.args.neighbours (view c.args.value.now) c.bound.result c.in-minContains.is (λ x s. c.bound.ensures.read x (codes "minContains") s)

pub returns-in-minContains-clause-named : goal.returns-in-minContains-clause-named
returns-in-minContains-clause-named c = named-at c.args.name.now (codes "minContains") c.in-minContains.is refl

pub returns-in-maxContains-clause-read : goal.returns-in-maxContains-clause-read
returns-in-maxContains-clause-read c = read-at c.args.name.now (codes "maxContains") c.args.neighbours (view c.args.value.now) c.bound-in-maxContains.result c.in-maxContains.is (λ x s. c.bound-in-maxContains.ensures.read x (codes "maxContains") s)

pub returns-in-maxContains-clause-named : goal.returns-in-maxContains-clause-named
returns-in-maxContains-clause-named c = named-at c.args.name.now (codes "maxContains") c.in-maxContains.is refl

pub returns-in-properties-clause-read : goal.returns-in-properties-clause-read
returns-in-properties-clause-read c = read-at c.args.name.now (codes "properties") c.args.neighbours (view c.args.value.now) c.map.result c.in-properties.is (λ x s. c.map.ensures.read x)

pub returns-in-properties-clause-named : goal.returns-in-properties-clause-named
returns-in-properties-clause-named c = named-at c.args.name.now (codes "properties") c.in-properties.is refl

pub returns-in-propertyNames-clause-read : goal.returns-in-propertyNames-clause-read
returns-in-propertyNames-clause-read c = read-at c.args.name.now (codes "propertyNames") c.args.neighbours (view c.args.value.now) c.property_names.result c.in-propertyNames.is (λ x s. c.property_names.ensures.read x)

pub returns-in-propertyNames-clause-named : goal.returns-in-propertyNames-clause-named
returns-in-propertyNames-clause-named c = named-at c.args.name.now (codes "propertyNames") c.in-propertyNames.is refl

pub returns-in-dependentSchemas-clause-read : goal.returns-in-dependentSchemas-clause-read
returns-in-dependentSchemas-clause-read c = read-at c.args.name.now (codes "dependentSchemas") c.args.neighbours (view c.args.value.now) c.map-in-dependentSchemas.result c.in-dependentSchemas.is (λ x s. c.map-in-dependentSchemas.ensures.read x)

pub returns-in-dependentSchemas-clause-named : goal.returns-in-dependentSchemas-clause-named
returns-in-dependentSchemas-clause-named c = named-at c.args.name.now (codes "dependentSchemas") c.in-dependentSchemas.is refl

pub returns-in-allOf-clause-read : goal.returns-in-allOf-clause-read
returns-in-allOf-clause-read c = read-at c.args.name.now (codes "allOf") c.args.neighbours (view c.args.value.now) c.list-in-allOf.result c.in-allOf.is (λ x s. c.list-in-allOf.ensures.read x)

pub returns-in-allOf-clause-named : goal.returns-in-allOf-clause-named
returns-in-allOf-clause-named c = named-at c.args.name.now (codes "allOf") c.in-allOf.is refl

pub returns-in-anyOf-clause-read : goal.returns-in-anyOf-clause-read
returns-in-anyOf-clause-read c = read-at c.args.name.now (codes "anyOf") c.args.neighbours (view c.args.value.now) c.list-in-anyOf.result c.in-anyOf.is (λ x s. c.list-in-anyOf.ensures.read x)

pub returns-in-anyOf-clause-named : goal.returns-in-anyOf-clause-named
returns-in-anyOf-clause-named c = named-at c.args.name.now (codes "anyOf") c.in-anyOf.is refl

pub returns-in-oneOf-clause-read : goal.returns-in-oneOf-clause-read
returns-in-oneOf-clause-read c = read-at c.args.name.now (codes "oneOf") c.args.neighbours (view c.args.value.now) c.list-in-oneOf.result c.in-oneOf.is (λ x s. c.list-in-oneOf.ensures.read x)

pub returns-in-oneOf-clause-named : goal.returns-in-oneOf-clause-named
returns-in-oneOf-clause-named c = named-at c.args.name.now (codes "oneOf") c.in-oneOf.is refl

pub returns-in-not-clause-read : goal.returns-in-not-clause-read
returns-in-not-clause-read c = read-at c.args.name.now (codes "not") c.args.neighbours (view c.args.value.now) c.negation.result c.in-not.is (λ x s. c.negation.ensures.read x)

pub returns-in-not-clause-named : goal.returns-in-not-clause-named
returns-in-not-clause-named c = named-at c.args.name.now (codes "not") c.in-not.is refl

pub returns-in-patternProperties-clause-read : goal.returns-in-patternProperties-clause-read
returns-in-patternProperties-clause-read c = read-at c.args.name.now (codes "patternProperties") c.args.neighbours (view c.args.value.now) c.map-in-patternProperties.result c.in-patternProperties.is (λ x s. c.map-in-patternProperties.ensures.read x)

pub returns-in-patternProperties-clause-named : goal.returns-in-patternProperties-clause-named
returns-in-patternProperties-clause-named c = named-at c.args.name.now (codes "patternProperties") c.in-patternProperties.is refl

pub returns-in-additionalProperties-clause-read : goal.returns-in-additionalProperties-clause-read
returns-in-additionalProperties-clause-read c = read-at c.args.name.now (codes "additionalProperties") c.args.neighbours (view c.args.value.now) c.additional_properties.result c.in-additionalProperties.is (λ x s. c.additional_properties.ensures.read x s)

pub returns-in-additionalProperties-clause-named : goal.returns-in-additionalProperties-clause-named
returns-in-additionalProperties-clause-named c = named-at c.args.name.now (codes "additionalProperties") c.in-additionalProperties.is refl
