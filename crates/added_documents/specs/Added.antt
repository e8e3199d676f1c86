-- Documents added to others, and what the added ones may not do.
use Rattle.std.specs.Prelude.{ℕ, ◌≡◌, List, [], ◌∷◌, true, codes, Option, Some, None, is_some, IfSome, ⊤}
use Rattle.std.specs.List.{AllByRecursion}
use Rattle.serde_json.specs.Data.{Data, null, boolean, number, string, array, object, Items, no_items, item, Members, no_members, member}
use Rattle.schema_drafts.specs.Drafts.{draft_named}
use Rattle.schema_definitions.specs.Words.{text_at}
use Rattle.schema_definitions.specs.Places.{Dialect, uri_named}
use Rattle.schema_definitions.specs.Bearers.{Document, Documents, meta, bearer_under, bearer}

-- documents, others, and both together: each keep their order, whatever their layers are
pub data Joined : Documents → Documents → Documents → Type 0 where
  neither : Joined [] [] []
  one_kept : {old more new : Documents} (d : Document) → Joined old more new → Joined (d ∷ old) more (d ∷ new)
  one_added : {old more new : Documents} (d : Document) → Joined old more new → Joined old (d ∷ more) (d ∷ new)

-- ---- each `$schema` inside a value, at a schema place or not

abbrev mutual
  pub EachNamed : (List ℕ → Type 0) → Data → Type 0
  EachNamed P null = ⊤
  EachNamed P (boolean b) = ⊤
  EachNamed P (number n) = ⊤
  EachNamed P (string s) = ⊤
  EachNamed P (array ds) = EachNamedIn P ds
  EachNamed P (object ms) = IfSome (text_at (codes "$schema") (object ms)) P × EachNamedAmong P ms

  pub EachNamedIn : (List ℕ → Type 0) → Items → Type 0
  EachNamedIn P no_items = ⊤
  EachNamedIn P (item d ds) = EachNamed P d × EachNamedIn P ds

  pub EachNamedAmong : (List ℕ → Type 0) → Members → Type 0
  EachNamedAmong P no_members = ⊤
  EachNamedAmong P (member k d ms) = EachNamed P d × EachNamedAmong P ms

abbrev pub EachNamedBy : (List ℕ → Type 0) → Documents → Type 0
EachNamedBy P docs = AllByRecursion (λ d. EachNamed P d.contents) docs

-- two tell the same of the meta-schema that a `$schema` names, where it is none of the drafts' own
abbrev pub IsToldAlike : (List ℕ → Option Dialect) → (List ℕ → Option Dialect) → List ℕ → Type 0
IsToldAlike told after t = (uri : List ℕ) → uri_named t (draft_named t) ≡ Some uri → after uri ≡ told uri

abbrev pub NamesDraft : List ℕ → Type 0
NamesDraft t = is_some (draft_named t) ≡ true

-- ---- what is added leaves the others alone

-- no added document bears the URI
abbrev pub IsFree : Documents → Documents → List ℕ → Type 0
IsFree more new uri = bearer_under (meta new) more uri ≡ None

pub record LeftAlone (old more new : Documents) : Type 0 where
  pub joined : Joined old more new
  -- the dialects of the meta-schemas that the old documents name stay as they are
  pub told : EachNamedBy (IsToldAlike (meta old) (meta new)) old
  -- no added document bears a URI that an old one bears
  pub apart : (uri : List ℕ) → is_some (bearer old uri) ≡ true → IsFree more new uri
