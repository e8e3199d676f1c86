-- What documents tell of meta-schemas, and what references lead to under it.
use Rattle.std.proofs.Common.{◌≡◌, ◌∙◌, sym, ap, ℕ, List, [], Option, Ok, if◌then◌else◌, Err}
use Rattle.std.specs.Str.{is_utf8}
use Rattle.uri_grammar.specs.Texts.{cut_at, pieces}
use Rattle.schema_definitions.specs.Words.{or, result_map, ok_or, and_then}
use Rattle.schema_definitions.specs.Places.{Dialect}
use Rattle.schema_definitions.specs.Bearers.{Document, Documents, Standing, meta, bearer_under, bearer, anchored_under, anchored, dynamically_anchored}
use Rattle.schema_definitions.specs.Lookup.{Walk, at_place, ended, behind_first, by_pointer, invalid_percent_encoding, lookup, unretrievable, Target, target_of}
use Rattle.schema_definitions.specs.Scopes.{dynamic_lookup, recursive_lookup}
use Rattle.schema_dialects.specs.Dialects.{dialects_in}
use Rattle.schema_dialects.specs.declared.meta_schemas.MetaSchemas.{MetaSchemas}
use Rattle.schema_definitions.specs.CompileKeys.{dynamic_names, run_end}
use Rattle.document_laws.proofs.Alike.{alike_tell}
use Rattle.document_index.specs.Answers.{dynamically_anchored_under}
use Rattle.document_index.specs.Located.{located_standings}
use Rattle.document_index.specs.Indexes.{Indexes, dynamic_names_in, dynamic_names_among}
use Rattle.document_index.specs.declared.index.Index.{Index}
use Rattle.document_index.proofs.LocatedLemmas.{standings-located}
use Rattle.referencing.specs.Found.{redirect}

-- bearers under the meta-schemas that are known, where these are what the documents tell
module _ (known : MetaSchemas) (own : List Document) (told : (uri : List ℕ) → dialects_in known uri ≡ meta own uri) where
  pub told-bearer : (uri : List ℕ) → bearer_under (dialects_in known) own uri ≡ bearer own uri
  told-bearer uri = (alike_tell (dialects_in known) (meta own) told).bearers own uri

  pub told-anchored : (base k : List ℕ) → anchored_under (dialects_in known) own base k ≡ anchored own base k
  told-anchored base k = (alike_tell (dialects_in known) (meta own) told).anchored own base k

  pub told-dynamic : (base k : List ℕ) → dynamically_anchored_under (dialects_in known) own base k ≡ dynamically_anchored own base k
  told-dynamic base k = (alike_tell (dialects_in known) (meta own) told).dynamic own base k

-- the names that an index has are those of the documents
pub names-told : (known : MetaSchemas) (index : Index) (own : List Document) → ((uri : List ℕ) → dialects_in known uri ≡ meta own uri) → Indexes index (located_standings (dialects_in known) own)
    → dynamic_names_in index ≡ dynamic_names own
unfolding dynamic_names
names-told known index own told indexed =
    indexed.dynamic_names
    ∙ ap dynamic_names_among (standings-located (dialects_in known) own)
    ∙ ap dynamic_names_among ((alike_tell (dialects_in known) (meta own) told).standing own)

-- a pointer leads to the same under two that tell the same
pub same_pointer : (m n : List ℕ → Option Dialect) → ((uri : List ℕ) → m uri ≡ n uri) → (s : Standing) (written decoded : List ℕ)
    → by_pointer m s written decoded ≡ by_pointer n s written decoded
same_pointer m n h s written decoded =
    let begun : Walk = record { path = s.place.path; contents = s.place.contents; last = s.place; within = at_place } in
    ap (λ w. if is_utf8 decoded then result_map (ended s) w else Err (invalid_percent_encoding written))
    ((alike_tell m n h).walks written (behind_first (pieces 47 decoded)) begun)

-- the target of a recursive reference, by who bears the end of the run
pub recursive-at : (docs : Documents) (base : List ℕ) (scope : List (List ℕ)) (text : List ℕ) (o : Option Standing)
    → text ≡ run_end docs base scope → o ≡ bearer docs text
    → recursive_lookup docs base scope ≡ result_map target_of (ok_or (unretrievable (run_end docs base scope)) o)
recursive-at docs base scope text o same borne =
    ap (λ p. result_map target_of (ok_or (unretrievable (run_end docs base scope)) p)) (ap (bearer docs) (sym same) ∙ sym borne)

-- what a dynamic reference leads to, by what it leads to as a plain one
pub dynamic-at : (docs : Documents) (base : List ℕ) (scope : List (List ℕ)) (reference : List ℕ) (t : Target)
    → lookup docs base reference ≡ Ok t
    → dynamic_lookup docs base scope reference ≡ redirect docs scope (or [] (cut_at 35 reference).1) t
dynamic-at docs base scope reference t found = ap (λ r. and_then r (redirect docs scope (or [] (cut_at 35 reference).1))) found
