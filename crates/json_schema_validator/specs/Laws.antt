-- Under the premises of moving, what two forms say of an instance is one text. Each statement is promised by a function of this crate.
use Rattle.std.specs.Prelude.{◌≡◌, ◌⊎◌, ℕ, List, [], Bool, true, false, bytes_eq, codes, is_some, Result, Ok, Err, String, string_bytes}
use Rattle.std.specs.declared.alloc.Global.{Global}
use Rattle.serde_json.specs.Data.{Data}
use Rattle.serde_json.specs.View.{view}
use Rattle.json_values.specs.Rising.{rises}
use Rattle.uri_references.specs.Identity.{identity_of}
use Rattle.schema_drafts.specs.Drafts.{newest}
use Rattle.schema_drafts.specs.declared.draft.Draft.{Draft}
use Rattle.schema_definitions.specs.Bearers.{bearer, meta}
use Rattle.schema_definitions.specs.DocumentCauses.{document_causes}
use Rattle.schema_definitions.specs.Lookup.{Target}
use Rattle.schema_definitions.specs.Rounds.{wants}
use Rattle.referencing.specs.Built.{first_layer}
use Rattle.schema_registries.specs.Roots.{Root, Patterns, Finds, IsSound}
use Rattle.schema_registries.specs.Answers.{Finish, ComesBack}
use Rattle.added_documents.specs.Added.{IsFree}
use Rattle.moved_documents.specs.Forms.{Pair, root_alone, moved_alone, added, inside}
use Rattle.moved_documents.specs.Premises.{BornOnce, CanMove, LeavesOut}
use Rattle.schema_validators.specs.Seen.{root_of}
use Rattle.schema_validators.specs.declared.error.BuildError.{BuildError}
use Rattle.json_schema_validator.specs.Answers.{IsTextOf}
use Rattle.json_schema_validator.specs.declared.roads.Moving.{Moving}
use Rattle.json_schema_validator.specs.declared.roads.Roads.{Roads}

-- under a root the matches that an instance asks for finish, and no references come back
abbrev pub IsDecided : Patterns → (List ℕ → List ℕ → Bool) → Root → Data → Type 0
IsDecided p matches r d = (target : Target) → Finds r target → Finish p r matches target d × (ComesBack p r matches target d → ⊥)

-- under both roots, by matches that are the same
pub record AreDecided (p : Patterns) (r s : Root) (d : Data) : Type 0 where
  pub matches : List ℕ → List ℕ → Bool
  pub one : IsDecided p matches r d
  pub other : IsDecided p matches s d

-- the roots that one reference leads to with a document added, and with it inside, where nothing is wrong with the documents of that form
abbrev pub RootsAgree : Type 0
RootsAgree = (m : Pair) (draft : Draft) (whole : Data) → CanMove m draft whole → document_causes (inside m whole) ≡ []
    → (p : Patterns) (base reference : List ℕ)
    → IsSound p (root_of (added m) base reference) → IsSound p (root_of (inside m whole) base reference)
    → (d : Data) → AreDecided p (root_of (added m) base reference) (root_of (inside m whole) base reference) d
    → (text other : List ℕ) → IsTextOf p (root_of (added m) base reference) d text → IsTextOf p (root_of (inside m whole) base reference) d other → text ≡ other

-- ---- what is said on three roads

abbrev pub pair_of : Moving → Pair
pair_of m = record {
  layer = first_layer newest false;
  root_uri = identity_of m.root_uri.now;
  root = view m.root.now;
  moved_uri = identity_of m.moved_uri.now;
  moved = view m.moved.now;
  fresh = m.fresh.now;
}

-- the roots of both forms, against the base that stands until it is said otherwise
abbrev pub root_beside : Moving → Root
root_beside m = root_of (added (pair_of m)) (codes "json-schema:///") m.root_uri.now

abbrev pub root_inside : Moving → Data → Root
root_inside m whole = root_of (inside (pair_of m) whole) (codes "json-schema:///") m.root_uri.now

-- the root by itself
abbrev pub root_by_itself : Moving → Root
root_by_itself m = root_of (root_alone (pair_of m)) (codes "json-schema:///") m.root_uri.now

-- the two documents have two URIs
abbrev pub AreApart : Moving → Type 0
AreApart m = bytes_eq (identity_of m.root_uri.now) (identity_of m.moved_uri.now) ≡ false

-- no URI is borne by both
abbrev pub BearApart : Moving → Type 0
BearApart m = (uri : List ℕ) → is_some (bearer (root_alone (pair_of m)) uri) ≡ true → IsFree (moved_alone (pair_of m)) (added (pair_of m)) uri

-- the one can be moved into the other: the names of members rise in each value that is kept, so that is not asked of the root
abbrev pub CanMoveAsKept : Moving → Draft → Data → Type 0
CanMoveAsKept m draft whole = rises (view m.root.now) ≡ true → CanMove (pair_of m) draft whole

-- no URI is borne by both; or by what the two tell of meta-schemas nothing is borne twice, with the other added, or with it inside, where it can be moved:
-- then none is
abbrev pub ShareNone : Moving → Type 0
ShareNone m =
    BearApart m
    ⊎ (BornOnce (meta (added (pair_of m))) (added (pair_of m))
    ⊎ ((draft : Draft) × (whole : Data) × CanMoveAsKept m draft whole × BornOnce (meta (added (pair_of m))) (inside (pair_of m) whole)))

-- the root by itself wants a document
abbrev pub IsWanting : Moving → Type 0
IsWanting m = wants (root_alone (pair_of m)) ≡ [] → ⊥

-- the root by itself leaves the other document out
abbrev pub IsLeftOut : Patterns → Moving → Type 0
IsLeftOut p m = (root : Target) → Finds (root_by_itself m) root → LeavesOut (pair_of m) p.makes root

-- the one document can be moved into the other, and both roots are decided
pub record MayMove (p : Patterns) (m : Moving) (d : Data) : Type 0 where
  pub draft : Draft
  pub whole : Data
  pub can : CanMoveAsKept m draft whole
  pub decided : AreDecided p (root_beside m) (root_inside m whole) d

-- two texts are one, where there are two
abbrev pub AreOne : Result (String Global) BuildError → Result (String Global) BuildError → Type 0
AreOne (Ok text) (Ok other) = string_bytes text ≡ string_bytes other
AreOne (Ok text) (Err e) = Unit {0}
AreOne (Err e) other = Unit {0}

-- what is said is one text: with the document added and inside, added and retrieved, retrieved and inside
pub record SayOne (p : Patterns) (m : Moving) (d : Data) (r : Roads) : Type 0 where
  pub inside : MayMove p m d → AreOne r.added r.inside
  pub retrieved : AreApart m → IsWanting m ⊎ (ShareNone m × IsLeftOut p m) → (matches : List ℕ → List ℕ → Bool) → IsDecided p matches (root_beside m) d
      → AreOne r.added r.retrieved
  pub moved : IsWanting m ⊎ IsLeftOut p m → MayMove p m d → AreOne r.retrieved r.inside
