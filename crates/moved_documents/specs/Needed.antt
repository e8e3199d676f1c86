-- Pairs of documents that show what premises are for.
use Rattle.std.specs.Prelude.{ℕ, ◌≡◌, List, [], Bool, true, false, codes, is_some, Option, Some, Result, Ok}
use Rattle.serde_json.specs.Data.{Data}
use Rattle.schema_meaning.specs.Places.{whole as whole_value}
use Rattle.schema_meaning.specs.Readings.{verdicts, told}
use Rattle.schema_drafts.specs.declared.draft.Draft.TheVariants.{Draft202012}
use Rattle.schema_definitions.specs.Words.{result_map}
use Rattle.schema_definitions.specs.Bearers.{Documents, meta, bearer}
use Rattle.schema_definitions.specs.BuildCauses.{Reached}
use Rattle.schema_definitions.specs.DocumentCauses.{document_causes}
use Rattle.schema_definitions.specs.Lookup.{LookupCause, Target, lookup}
use Rattle.schema_definitions.specs.Plain.{plain}
use Rattle.schema_definitions.specs.Rounds.{wants}
use Rattle.schema_definitions.specs.Sites.{Site, root_site}
use Rattle.added_documents.specs.Added.{EachNamedBy, IsToldAlike, NamesDraft, IsFree}
use Rattle.added_documents.specs.Needed.{all_made}
use Rattle.added_documents.specs.ReadingLaws.{Builds}
use Rattle.moved_documents.specs.Forms.{Pair, root_alone, moved_alone, added, inside}
use Rattle.moved_documents.specs.Premises.{CanMove, KeepsApart}
use Rattle.moved_documents.specs.Example.{value, layer}

-- ---- what is borne twice

-- What is told of `m` changes with every stage: `x` bears it where it is 2020-12, and then it is Draft 4. So at each second stage `q` bears `u`
-- as the root does below its `not`. Of the two documents the moved one counts then, and `u` is Draft 4, by which `w` bears `v`, as the root does.
-- Inside, what is deepest counts, which is the root's.
abbrev pub shifting : Pair
shifting = record {
  layer = layer;
  root_uri = codes "http://a.test/root.json";
  root = value (codes "{\"$id\":\"http://a.test/root.json\",\"$schema\":\"https://json-schema.org/draft/2020-12/schema\",\"if\":{\"$id\":\"http://a.test/v\"},\"not\":{\"not\":{\"not\":{\"not\":{\"not\":{\"not\":{\"$id\":\"http://a.test/u\"}}}}}}}");
  moved_uri = codes "http://a.test/leaf.json";
  moved = value (codes "{\"$defs\":{\"b\":{\"$defs\":{\"q\":{\"$schema\":\"http://json-schema.org/draft-04/schema#\",\"id\":\"http://a.test/u\"},\"x\":{\"$schema\":\"http://json-schema.org/draft-04/schema#\",\"id\":\"http://a.test/m\"}},\"$id\":\"http://a.test/b\",\"$schema\":\"http://a.test/m\"},\"m\":{\"$id\":\"http://a.test/m\",\"$schema\":\"https://json-schema.org/draft/2020-12/schema\"},\"w\":{\"$id\":\"http://a.test/w\",\"$schema\":\"http://a.test/u\",\"id\":\"http://a.test/v\"}},\"$id\":\"http://a.test/leaf.json\",\"$schema\":\"https://json-schema.org/draft/2020-12/schema\"}");
  fresh = codes "leaf";
}

-- the root with the other inside
abbrev pub shifting_whole : Data
shifting_whole = value (codes "{\"$id\":\"http://a.test/root.json\",\"$schema\":\"https://json-schema.org/draft/2020-12/schema\",\"if\":{\"$id\":\"http://a.test/v\"},\"not\":{\"not\":{\"not\":{\"not\":{\"not\":{\"not\":{\"$id\":\"http://a.test/u\"}}}}}},\"$defs\":{\"leaf\":{\"$defs\":{\"b\":{\"$defs\":{\"q\":{\"$schema\":\"http://json-schema.org/draft-04/schema#\",\"id\":\"http://a.test/u\"},\"x\":{\"$schema\":\"http://json-schema.org/draft-04/schema#\",\"id\":\"http://a.test/m\"}},\"$id\":\"http://a.test/b\",\"$schema\":\"http://a.test/m\"},\"m\":{\"$id\":\"http://a.test/m\",\"$schema\":\"https://json-schema.org/draft/2020-12/schema\"},\"w\":{\"$id\":\"http://a.test/w\",\"$schema\":\"http://a.test/u\",\"id\":\"http://a.test/v\"}},\"$id\":\"http://a.test/leaf.json\",\"$schema\":\"https://json-schema.org/draft/2020-12/schema\"}}}")

abbrev pub shared : List ℕ
shared = codes "http://a.test/v"

-- the one document can be moved into the other, and by what the two tell both bear `shared`
pub record BothMayBear : Type 0 where
  pub can : CanMove shifting Draft202012 shifting_whole
  pub accepted : document_causes (root_alone shifting) ≡ []
  pub drafts : EachNamedBy NamesDraft (root_alone shifting)
  pub root_bears : is_some (bearer (root_alone shifting) shared) ≡ true
  pub moved_bears : IsFree (moved_alone shifting) (added shifting) shared → ⊥

-- ---- where the root by itself wants no document, and yet does not leave the other out

-- nothing is wrong with documents, and the root builds there
pub record AreRight (p : Pair) (docs : Documents) : Type 0 where
  pub accepted : document_causes docs ≡ []
  pub builds : (t : Target) → lookup docs p.root_uri [] ≡ Ok t → Builds docs all_made p.root_uri [] t

-- the root's verdict on 2
abbrev pub verdict : Pair → Documents → Result (Option Bool) LookupCause
verdict p docs = result_map (λ t. told verdicts (plain docs all_made (λ q s. true)) 2 (root_site t) (whole_value (value (codes "2")))) (lookup docs p.root_uri [])

-- The one document can be moved into the other, and nothing is wrong in any form. The root by itself wants none, so where the moved one would be
-- retrieved the root is alone; and there the verdict is another.
pub record IsLeftBehind (p : Pair) (whole : Data) : Type 0 where
  pub can : CanMove p Draft202012 whole
  pub wants_none : wants (root_alone p) ≡ []
  pub alone : AreRight p (root_alone p)
  pub beside : AreRight p (added p)
  pub within : AreRight p (inside p whole)
  pub refused : verdict p (root_alone p) ≡ Ok (Some false)
  pub accepted : verdict p (added p) ≡ Ok (Some true)
  pub accepted_inside : verdict p (inside p whole) ≡ Ok (Some true)

-- a schema at no schema place has the base that the moved document bears, so that a dynamic reference finds the anchor there
abbrev pub entering : Pair
entering = record {
  layer = layer;
  root_uri = codes "http://a.test/root.json";
  root = value (codes "{\"$id\":\"http://a.test/root.json\",\"$schema\":\"https://json-schema.org/draft/2020-12/schema\",\"$ref\":\"#/x\",\"x\":{\"allOf\":[{\"$id\":\"leaf.json\",\"$dynamicRef\":\"c#n\"}]},\"$defs\":{\"c\":{\"$id\":\"c\",\"$dynamicAnchor\":\"n\",\"type\":\"string\"}}}");
  moved_uri = codes "http://a.test/leaf.json";
  moved = value (codes "{\"$id\":\"http://a.test/leaf.json\",\"$schema\":\"https://json-schema.org/draft/2020-12/schema\",\"$dynamicAnchor\":\"n\"}");
  fresh = codes "leaf";
}

abbrev pub entering_whole : Data
entering_whole = value (codes "{\"$id\":\"http://a.test/root.json\",\"$schema\":\"https://json-schema.org/draft/2020-12/schema\",\"$ref\":\"#/x\",\"x\":{\"allOf\":[{\"$id\":\"leaf.json\",\"$dynamicRef\":\"c#n\"}]},\"$defs\":{\"c\":{\"$id\":\"c\",\"$dynamicAnchor\":\"n\",\"type\":\"string\"},\"leaf\":{\"$id\":\"http://a.test/leaf.json\",\"$schema\":\"https://json-schema.org/draft/2020-12/schema\",\"$dynamicAnchor\":\"n\"}}}")

-- a schema at no schema place names a meta-schema that the moved document is: it is read by another vocabulary, which has no `const`
abbrev pub reading : Pair
reading = record {
  layer = layer;
  root_uri = codes "http://a.test/root.json";
  root = value (codes "{\"$id\":\"http://a.test/root.json\",\"$schema\":\"https://json-schema.org/draft/2020-12/schema\",\"$ref\":\"#/x\",\"x\":{\"allOf\":[{\"$id\":\"q\",\"$schema\":\"http://a.test/leaf.json\",\"const\":1}]}}");
  moved_uri = codes "http://a.test/leaf.json";
  moved = value (codes "{\"$id\":\"http://a.test/leaf.json\",\"$schema\":\"https://json-schema.org/draft/2020-12/schema\",\"$vocabulary\":{\"https://json-schema.org/draft/2020-12/vocab/core\":true}}");
  fresh = codes "leaf";
}

abbrev pub reading_whole : Data
reading_whole = value (codes "{\"$id\":\"http://a.test/root.json\",\"$schema\":\"https://json-schema.org/draft/2020-12/schema\",\"$ref\":\"#/x\",\"x\":{\"allOf\":[{\"$id\":\"q\",\"$schema\":\"http://a.test/leaf.json\",\"const\":1}]},\"$defs\":{\"leaf\":{\"$id\":\"http://a.test/leaf.json\",\"$schema\":\"https://json-schema.org/draft/2020-12/schema\",\"$vocabulary\":{\"https://json-schema.org/draft/2020-12/vocab/core\":true}}}}")

-- the two examples: of the first the dialects are told alike, and of the second each schema that is reached keeps apart
pub record LeavesOutIsNeeded : Type 0 where
  pub by_base : IsLeftBehind entering entering_whole
  pub told : EachNamedBy (IsToldAlike (meta (root_alone entering)) (meta (added entering))) (root_alone entering)
  pub by_dialect : IsLeftBehind reading reading_whole
  pub apart : (root : Target) → lookup (root_alone reading) reading.root_uri [] ≡ Ok root
      → (s : Site) → Reached (root_alone reading) all_made (root_site root) s → KeepsApart reading s
