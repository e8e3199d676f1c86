-- Entries of a map of validators: the faults of an instance under an entry, and under what its reference leads to as a root by itself.
use Rattle.std.specs.Prelude.{◌≡◌, ◌++◌, ℕ, List, [], ◌∷◌, true, false, Option, Some, None, codes, Result, Ok, Err, option_map}
use Rattle.schema_drafts.specs.declared.draft.Draft.{Draft}
use Rattle.schema_drafts.specs.declared.draft.Draft.TheVariants.{Draft201909, Draft202012}
use Rattle.schema_definitions.specs.Bearers.{Documents}
use Rattle.schema_definitions.specs.Lookup.{LookupCause, Target, lookup}
use Rattle.schema_definitions.specs.Plain.{plain}
use Rattle.schema_meaning.specs.Places.{whole}
use Rattle.schema_meaning.specs.Readings.{bags, told}
use Rattle.schema_registries.specs.Pointers.{reference_to}
use Rattle.schema_registries.specs.Roots.{Root, root_inside, site_of_root}
use Rattle.worked_examples.specs.DocumentTexts.{documents, json, paths_of}

-- a document under a URI, a pointer into it, and an instance
pub record Entry : Type 0 where
  pub draft : Draft
  pub uri : List ℕ
  pub text : List ℕ
  pub pointer : List ℕ
  pub instance : List ℕ
  pub faults : List (List ℕ × List ℕ)
  pub alone : List (List ℕ × List ℕ)

abbrev pub from_root : Root → List ℕ → Result Target LookupCause → Option (List (List ℕ × List ℕ))
from_root r instance (Ok t) = option_map paths_of (told bags (plain r.documents (λ p. true) (λ p t. false)) 2 (site_of_root r t) (whole (json instance)))
from_root r instance (Err e) = None

abbrev pub entry_root : Entry → Root
entry_root e = root_inside (documents e.draft ((e.uri, e.text) ∷ [])) e.uri (reference_to e.pointer)

-- with nothing entered before
abbrev pub root_alone : Entry → Root
root_alone e = record (entry_root e) { before = [] }

abbrev pub lines_of : Entry → Root → Option (List (List ℕ × List ℕ))
lines_of e r = from_root r e.instance (lookup r.documents r.base r.reference)

abbrev pub IsEntry : Entry → Type 0
IsEntry e = (lines_of e (entry_root e) ≡ Some e.faults) × (lines_of e (root_alone e) ≡ Some e.alone)

abbrev pub entries : List Entry
entries =
    -- the document's own resource is entered before the entry's
    record {
      draft = Draft202012;
      uri = codes "http://a.test/r";
      text = codes "{\"$id\":\"http://a.test/r\",\"$defs\":{\"e\":{\"$id\":\"http://a.test/e\",\"$dynamicAnchor\":\"n\",\"properties\":{\"x\":{\"$dynamicRef\":\"#n\"}}},\"s\":{\"$dynamicAnchor\":\"n\",\"type\":\"string\"}}}";
      pointer = codes "/$defs/e";
      instance = codes "{\"x\":1}";
      faults = ((codes "/x", codes "/properties/x/$dynamicRef/type") ∷ []);
      alone = [];
    }
    ∷ record {
      draft = Draft202012;
      uri = codes "http://a.test/r";
      text = codes "{\"$id\":\"http://a.test/r\",\"$defs\":{\"e\":{\"$id\":\"http://a.test/e\",\"$dynamicAnchor\":\"n\",\"properties\":{\"x\":{\"$dynamicRef\":\"#n\"}}},\"s\":{\"$dynamicAnchor\":\"n\",\"type\":\"string\"}}}";
      pointer = codes "/$defs/e";
      instance = codes "{\"x\":\"a\"}";
      faults = [];
      alone = [];
    }
    -- under whatever URI the document was added
    ∷ record {
      draft = Draft202012;
      uri = codes "http://a.test/given";
      text = codes "{\"$id\":\"http://a.test/r\",\"$defs\":{\"e\":{\"$id\":\"http://a.test/e\",\"$dynamicAnchor\":\"n\",\"properties\":{\"x\":{\"$dynamicRef\":\"#n\"}}},\"s\":{\"$dynamicAnchor\":\"n\",\"type\":\"string\"}}}";
      pointer = codes "/$defs/e";
      instance = codes "{\"x\":1}";
      faults = ((codes "/x", codes "/properties/x/$dynamicRef/type") ∷ []);
      alone = [];
    }
    -- a resource that the pointer passes on its way is not entered
    ∷ record {
      draft = Draft202012;
      uri = codes "http://a.test/r";
      text = codes "{\"$id\":\"http://a.test/r\",\"$defs\":{\"m\":{\"$id\":\"http://a.test/m\",\"$defs\":{\"e\":{\"$id\":\"http://a.test/e\",\"$dynamicAnchor\":\"n\",\"properties\":{\"x\":{\"$dynamicRef\":\"#n\"}}},\"s\":{\"$dynamicAnchor\":\"n\",\"type\":\"string\"}}}}}";
      pointer = codes "/$defs/m/$defs/e";
      instance = codes "{\"x\":1}";
      faults = [];
      alone = [];
    }
    -- 2019-09
    ∷ record {
      draft = Draft201909;
      uri = codes "http://a.test/r";
      text = codes "{\"$id\":\"http://a.test/r\",\"$recursiveAnchor\":true,\"required\":[\"v\"],\"$defs\":{\"e\":{\"$id\":\"http://a.test/e\",\"$recursiveAnchor\":true,\"properties\":{\"x\":{\"$recursiveRef\":\"#\"}}}}}";
      pointer = codes "/$defs/e";
      instance = codes "{\"x\":{}}";
      faults = ((codes "/x", codes "/properties/x/$recursiveRef/required") ∷ []);
      alone = [];
    }
    ∷ []
