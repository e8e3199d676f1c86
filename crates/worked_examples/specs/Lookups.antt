-- References looked up in documents: the document and the path that each leads to with the base URI there, or why it leads nowhere.
use Rattle.std.specs.Prelude.{◌≡◌, ℕ, List, [], ◌∷◌, Option, Some, None, codes, Result, Ok, Err}
use Rattle.schema_drafts.specs.declared.draft.Draft.{Draft}
use Rattle.schema_drafts.specs.declared.draft.Draft.TheVariants.{Draft7, Draft202012}
use Rattle.schema_definitions.specs.Words.{result_map}
use Rattle.schema_definitions.specs.Lookup.{LookupCause, unretrievable, pointer_to_nowhere, invalid_percent_encoding, invalid_array_index, no_such_anchor, invalid_anchor, invalid_uri, Target, lookup}
use Rattle.schema_definitions.specs.Scopes.{dynamic_lookup}
use Rattle.schema_definitions.specs.Bearers.{Documents, uri_in}
use Rattle.schema_definitions.specs.DocumentCauses.{DocumentCause, no_reference, unretrieved, unknown_specification, circular_metaschema, document_causes}
use Rattle.worked_examples.specs.DocumentTexts.{documents, spelled}

-- with a scope the reference is a dynamic one
pub record Lookup : Type 0 where
  pub draft : Draft
  pub texts : List (List ℕ × List ℕ)
  pub base : List ℕ
  pub scope : Option (List (List ℕ))
  pub reference : List ℕ
  pub answer : Result (List ℕ × List ℕ × List ℕ) LookupCause

abbrev pub told_of : Target → List ℕ × List ℕ × List ℕ
told_of t = (uri_in t.document, spelled t.path, t.base)

abbrev pub by_scope : Documents → List ℕ → List ℕ → Option (List (List ℕ)) → Result Target LookupCause
by_scope docs base reference None = lookup docs base reference
by_scope docs base reference (Some scope) = dynamic_lookup docs base scope reference

abbrev pub Answers : Lookup → Type 0
Answers l = result_map told_of (by_scope (documents l.draft l.texts) l.base l.reference l.scope) ≡ l.answer

abbrev pub lookups : List Lookup
lookups =
    record { draft = Draft202012; texts = ((codes "http://a.test/list", codes "{\"$id\":\"http://a.test/list\",\"type\":\"array\",\"items\":{\"$dynamicRef\":\"#item\"},\"$defs\":{\"d\":{\"$dynamicAnchor\":\"item\"}}}") ∷ (codes "http://a.test/strings", codes "{\"$id\":\"http://a.test/strings\",\"$ref\":\"list\",\"$defs\":{\"s\":{\"$dynamicAnchor\":\"item\",\"type\":\"string\"}}}") ∷ []); base = codes "http://a.test/list"; scope = None; reference = codes "#item"; answer = Ok (codes "http://a.test/list", codes "/$defs/d", codes "http://a.test/list") }
    ∷ record { draft = Draft202012; texts = ((codes "http://b.test/", codes "{\"$id\":\"http://a.test/m/\"}") ∷ []); base = codes "http://b.test/"; scope = None; reference = []; answer = Ok (codes "http://b.test/", [], codes "http://a.test/m/") }
    ∷ record { draft = Draft202012; texts = ((codes "http://a.test/r", codes "{\"$defs\":{\"d\":{\"$id\":\"d/\"}}}") ∷ []); base = codes "http://a.test/r"; scope = None; reference = codes "d/"; answer = Ok (codes "http://a.test/r", codes "/$defs/d", codes "http://a.test/d/") }
    ∷ record { draft = Draft202012; texts = ((codes "http://a.test/r", codes "{\"$defs\":{\"d\":{\"$id\":\"d/\"}}}") ∷ []); base = codes "http://a.test/r"; scope = None; reference = codes "#/$defs/d"; answer = Ok (codes "http://a.test/r", codes "/$defs/d", codes "http://a.test/d/") }
    ∷ record { draft = Draft202012; texts = ((codes "http://a.test/d", codes "{\"a<b\":{\"c d\":1}}") ∷ []); base = codes "http://a.test/d"; scope = None; reference = codes "#/a<b/c d"; answer = Ok (codes "http://a.test/d", codes "/a<b/c d", codes "http://a.test/d") }
    ∷ record { draft = Draft202012; texts = ((codes "http://a.test/d", codes "{\"a<b\":{\"c d\":1}}") ∷ []); base = codes "http://a.test/d"; scope = None; reference = codes "#/a%3Cb/c%20d"; answer = Ok (codes "http://a.test/d", codes "/a<b/c d", codes "http://a.test/d") }
    ∷ record { draft = Draft202012; texts = ((codes "http://a.test/d", codes "{\"a\":[1]}") ∷ []); base = codes "http://a.test/d"; scope = None; reference = codes "#/a/01"; answer = Err (invalid_array_index (codes "01") (codes "/a/01")) }
    ∷ record { draft = Draft202012; texts = ((codes "http://a.test/d", codes "{\"a\":[1]}") ∷ []); base = codes "http://a.test/d"; scope = None; reference = codes "#/a/1"; answer = Err (pointer_to_nowhere (codes "/a/1")) }
    ∷ record { draft = Draft202012; texts = ((codes "http://a.test/d", codes "{}") ∷ []); base = codes "http://a.test/d"; scope = None; reference = codes "#/%FF"; answer = Err (invalid_percent_encoding (codes "/%FF")) }
    ∷ record { draft = Draft202012; texts = ((codes "http://a.test/d", codes "{}") ∷ []); base = codes "http://a.test/d"; scope = None; reference = codes "#unknownAnchor"; answer = Err (no_such_anchor (codes "unknownAnchor")) }
    ∷ record { draft = Draft202012; texts = ((codes "http://a.test/d", codes "{}") ∷ []); base = codes "http://a.test/d"; scope = None; reference = codes "#a/b"; answer = Err (invalid_anchor (codes "a/b")) }
    ∷ record { draft = Draft202012; texts = ((codes "http://a.test/d", codes "{}") ∷ []); base = codes "http://a.test/d"; scope = None; reference = codes "e"; answer = Err (unretrievable (codes "http://a.test/e")) }
    ∷ record { draft = Draft202012; texts = ((codes "http://a.test/d", codes "{}") ∷ []); base = codes "http://a.test/d"; scope = None; reference = codes "%zz"; answer = Err (invalid_uri (codes "%zz")) }
    ∷ record { draft = Draft202012; texts = ((codes "http://a.test/d", codes "{\"$defs\":{\"a\":{\"$id\":\"http://a.test/x\",\"type\":\"string\"},\"b\":{\"$id\":\"http://a.test/x\",\"type\":\"integer\"}}}") ∷ []); base = codes "http://a.test/d"; scope = None; reference = codes "x"; answer = Ok (codes "http://a.test/d", codes "/$defs/b", codes "http://a.test/x") }
    ∷ record { draft = Draft7; texts = ((codes "http://a.test/d", codes "{\"definitions\":{\"a\":{\"$id\":\"#n\",\"$ref\":\"#\"},\"b\":{\"$id\":\"#m\"}}}") ∷ []); base = codes "http://a.test/d"; scope = None; reference = codes "#m"; answer = Ok (codes "http://a.test/d", codes "/definitions/b", codes "http://a.test/d") }
    ∷ record { draft = Draft7; texts = ((codes "http://a.test/d", codes "{\"definitions\":{\"a\":{\"$id\":\"#n\",\"$ref\":\"#\"},\"b\":{\"$id\":\"#m\"}}}") ∷ []); base = codes "http://a.test/d"; scope = None; reference = codes "#n"; answer = Err (no_such_anchor (codes "n")) }
    ∷ record { draft = Draft202012; texts = ((codes "http://a.test/list", codes "{\"$id\":\"http://a.test/list\",\"type\":\"array\",\"items\":{\"$dynamicRef\":\"#item\"},\"$defs\":{\"d\":{\"$dynamicAnchor\":\"item\"}}}") ∷ (codes "http://a.test/strings", codes "{\"$id\":\"http://a.test/strings\",\"$ref\":\"list\",\"$defs\":{\"s\":{\"$dynamicAnchor\":\"item\",\"type\":\"string\"}}}") ∷ []); base = codes "http://a.test/list"; scope = Some ((codes "http://a.test/list" ∷ codes "http://a.test/strings" ∷ [])); reference = codes "#item"; answer = Ok (codes "http://a.test/strings", codes "/$defs/s", codes "http://a.test/strings") }
    ∷ []

-- documents that are no registry, and why
pub record Refusal : Type 0 where
  pub texts : List (List ℕ × List ℕ)
  pub causes : List DocumentCause

abbrev pub Refuses : Refusal → Type 0
Refuses r = document_causes (documents Draft202012 r.texts) ≡ r.causes

abbrev pub refusals : List Refusal
refusals =
    record { texts = (codes "json-schema:///", codes "{\"$schema\":\"http://a.test/m\"}") ∷ []; causes = unknown_specification (codes "http://a.test/m") ∷ [] }
    ∷ record {
      texts = (codes "http://a.test/a", codes "{\"$schema\":\"http://a.test/b\"}") ∷ (codes "http://a.test/b", codes "{\"$schema\":\"http://a.test/a\"}") ∷ [];
      causes = circular_metaschema (codes "http://a.test/a") ∷ circular_metaschema (codes "http://a.test/b") ∷ [];
    }
    ∷ record {
      texts = (codes "http://a.test/m", codes "{\"$schema\":\"https://json-schema.org/draft/2020-12/schema\"}") ∷ (codes "http://a.test/b", codes "{\"$schema\":\"http://a.test/m\",\"$defs\":{\"x\":{\"$schema\":\"http://json-schema.org/draft-04/schema#\",\"id\":\"http://a.test/m\"}}}") ∷ [];
      causes = circular_metaschema (codes "http://a.test/m") ∷ [];
    }
    ∷ record { texts = (codes "http://a.test/a", codes "{\"$id\":\"#%zz\"}") ∷ []; causes = no_reference (codes "#%zz") ∷ [] }
    ∷ record { texts = (codes "http://a.test/a", codes "{\"items\":{\"$ref\":\"b\"}}") ∷ []; causes = unretrieved (codes "http://a.test/b") ∷ [] }
    ∷ record { texts = (codes "http://a.test/a", codes "{\"const\":{\"$ref\":\"b\"}}") ∷ []; causes = [] }
    ∷ []
