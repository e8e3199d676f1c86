-- What is required is what a meta-schema names, and what is known under a URI.
use Rattle.std.proofs.Common.{◌≡◌, ◌∙◌, ℕ, List, [], ◌∷◌, Bool, true, false, ◌||◌, cond, if◌then◌else◌, Option, Some, None, option_map, String, Global, string_bytes, bytes_eq, map, get_or, refl, sym, ap}
use Rattle.std.specs.Prelude.{Result, Ok, Err, OnErr}
use Rattle.std.specs.List.{list_any, filter}
use Rattle.std.specs.Ordering.{nat_cmp}
use Rattle.std.specs.String.{string_cmp}
use Rattle.std.specs.Cmp.Lexicographic.{slice_cmp}
use Rattle.std.specs.BTreeMap.{BTreeMap, get_by_text, is_at, UpdatesBy}
use Rattle.std.specs.Map.{lookup}
use Rattle.std.proofs.lemmas.Map.Text.{btree_map_updates_text}
use Rattle.schema_drafts.specs.Vocabularies.{Vocabulary, core, applicator, unevaluated, validation, metadata, format, format_annotation, format_assertion, content, custom, is_same, the_known, known_among}
use Rattle.schema_dialects.specs.Sets.{marked, flags, required}
use Rattle.schema_drafts.specs.declared.draft.Draft.{Draft}
use Rattle.schema_definitions.specs.Places as places
use Rattle.schema_dialects.specs.Dialects.{in_force, dialect_of}
use Rattle.schema_dialects.specs.declared.known.KnownVocabularies.{KnownVocabularies}
use Rattle.schema_dialects.specs.declared.dialect.Dialect.{Dialect}
use Rattle.schema_dialects.proofs.Listed.{is_marked}

-- ---- those that are required

marked_as : (f : Vocabulary → Bool) (vs : List Vocabulary) → marked (map f vs) vs ≡ filter f vs
marked_as f [] = refl
marked_as f (v ∷ vs) = ap (λ rest. cond (f v) (v ∷ rest) rest) (marked_as f vs)

or_false : (b : Bool) → (b || false) ≡ b
or_false true = refl
or_false false = refl

module _ (k : KnownVocabularies) (vs : List Vocabulary)
    (same : (test : Vocabulary → Bool) → ((uri : List ℕ) → test (custom uri) ≡ false) → (list_any test (required k) || false) ≡ list_any test vs) where
  flag_of : (v : Vocabulary) (b : Bool) → ((uri : List ℕ) → is_same v (custom uri) ≡ false) → b ≡ list_any (is_same v) (required k) → b ≡ list_any (is_same v) vs
  flag_of v b never told = told ∙ sym (or_false (list_any (is_same v) (required k))) ∙ same (is_same v) never

  each : flags k ≡ map (λ v. list_any (is_same v) vs) the_known
  each =
      let among : Vocabulary → Bool = λ v. list_any (is_same v) vs in
      let c : k.core ≡ among core = flag_of core k.core (λ uri. refl) (is_marked (is_same core) k.core k refl) in
      let a : k.applicator ≡ among applicator = flag_of applicator k.applicator (λ uri. refl) (is_marked (is_same applicator) k.applicator k refl) in
      let u : k.unevaluated ≡ among unevaluated = flag_of unevaluated k.unevaluated (λ uri. refl) (is_marked (is_same unevaluated) k.unevaluated k refl) in
      let v : k.validation ≡ among validation = flag_of validation k.validation (λ uri. refl) (is_marked (is_same validation) k.validation k refl) in
      let m : k.metadata ≡ among metadata = flag_of metadata k.metadata (λ uri. refl) (is_marked (is_same metadata) k.metadata k refl) in
      let f : k.format ≡ among format = flag_of format k.format (λ uri. refl) (is_marked (is_same format) k.format k refl) in
      let n : k.format_annotation ≡ among format_annotation = flag_of format_annotation k.format_annotation (λ uri. refl) (is_marked (is_same format_annotation) k.format_annotation k refl) in
      let s : k.format_assertion ≡ among format_assertion = flag_of format_assertion k.format_assertion (λ uri. refl) (is_marked (is_same format_assertion) k.format_assertion k refl) in
      let t : k.content ≡ among content = flag_of content k.content (λ uri. refl) (is_marked (is_same content) k.content k refl) in
      rw (c, a, u, v, m, f, n, s, t) refl

  pub required_as : required k ≡ known_among vs
  required_as = ap (λ bs. marked bs the_known) each ∙ marked_as (λ v. list_any (is_same v) vs) the_known

-- ---- meta-schemas by their URIs

pub none_known : (names : BTreeMap (String Global) Dialect) → names.entries ≡ [] → (q : List ℕ) → option_map dialect_of (get_by_text names q) ≡ None
none_known names e q = ap (λ es. option_map dialect_of (lookup (is_at (λ t. slice_cmp nat_cmp q (string_bytes t))) es)) e

pub entries_alike : (old new : BTreeMap (String Global) Dialect) → new.entries ≡ old.entries → (q : List ℕ)
    → option_map dialect_of (get_by_text new q) ≡ option_map dialect_of (get_by_text old q)
entries_alike old new e q = ap (λ es. option_map dialect_of (lookup (is_at (λ t. slice_cmp nat_cmp q (string_bytes t))) es)) e

by_case : (b : Bool) (d : Dialect) (old : Option Dialect) → option_map dialect_of (cond b (Some d) old) ≡ (if b then Some (dialect_of d) else option_map dialect_of old)
by_case true d old = refl
by_case false d old = refl

pub where_refused : {T E X : Type 0} (r : Result T E) → X → OnErr r X
where_refused (Ok t) x = tt
where_refused (Err e) x = x

pub one_known : (key uri : List ℕ) (old new : BTreeMap (String Global) Dialect) (d : Dialect) → key ≡ uri
    → UpdatesBy string_cmp (λ t. slice_cmp nat_cmp key (string_bytes t)) old new (Some d) → (q : List ℕ)
    → option_map dialect_of (get_by_text new q) ≡ (if bytes_eq uri q then Some (dialect_of d) else option_map dialect_of (get_by_text old q))
one_known key uri old new d text put q =
    ap (option_map dialect_of) (btree_map_updates_text key old new (Some d) put q)
    ∙ ap (λ t. option_map dialect_of (cond (bytes_eq t q) (Some d) (get_by_text old q))) text
    ∙ by_case (bytes_eq uri q) d (get_by_text old q)

-- ---- dialects that stand for one

from_flags : List Bool → KnownVocabularies
from_flags bs = record {
  core = get_or bs 0 false;
  applicator = get_or bs 1 false;
  unevaluated = get_or bs 2 false;
  validation = get_or bs 3 false;
  metadata = get_or bs 4 false;
  format = get_or bs 5 false;
  format_annotation = get_or bs 6 false;
  format_assertion = get_or bs 7 false;
  content = get_or bs 8 false;
}

from_flags-back : (k : KnownVocabularies) → from_flags (flags k) ≡ k
unfolding from_flags
from_flags-back k = refl

module _ (k j : KnownVocabularies) (e : required k ≡ required j) where
  flag_alike : (v : Vocabulary) (b b' : Bool) → b ≡ list_any (is_same v) (required k) → b' ≡ list_any (is_same v) (required j) → b ≡ b'
  flag_alike v b b' told told' = told ∙ ap (list_any (is_same v)) e ∙ sym told'

  flags_alike : flags k ≡ flags j
  flags_alike =
      let c : k.core ≡ j.core = flag_alike core k.core j.core (is_marked (is_same core) k.core k refl) (is_marked (is_same core) j.core j refl) in
      let a : k.applicator ≡ j.applicator = flag_alike applicator k.applicator j.applicator (is_marked (is_same applicator) k.applicator k refl) (is_marked (is_same applicator) j.applicator j refl) in
      let u : k.unevaluated ≡ j.unevaluated = flag_alike unevaluated k.unevaluated j.unevaluated (is_marked (is_same unevaluated) k.unevaluated k refl) (is_marked (is_same unevaluated) j.unevaluated j refl) in
      let v : k.validation ≡ j.validation = flag_alike validation k.validation j.validation (is_marked (is_same validation) k.validation k refl) (is_marked (is_same validation) j.validation j refl) in
      let m : k.metadata ≡ j.metadata = flag_alike metadata k.metadata j.metadata (is_marked (is_same metadata) k.metadata k refl) (is_marked (is_same metadata) j.metadata j refl) in
      let f : k.format ≡ j.format = flag_alike format k.format j.format (is_marked (is_same format) k.format k refl) (is_marked (is_same format) j.format j refl) in
      let n : k.format_annotation ≡ j.format_annotation = flag_alike format_annotation k.format_annotation j.format_annotation (is_marked (is_same format_annotation) k.format_annotation k refl) (is_marked (is_same format_annotation) j.format_annotation j refl) in
      let s : k.format_assertion ≡ j.format_assertion = flag_alike format_assertion k.format_assertion j.format_assertion (is_marked (is_same format_assertion) k.format_assertion k refl) (is_marked (is_same format_assertion) j.format_assertion j refl) in
      let t : k.content ≡ j.content = flag_alike content k.content j.content (is_marked (is_same content) k.content k refl) (is_marked (is_same content) j.content j refl) in
      rw (c, a, u, v, m, f, n, s, t) refl

  known_alike : k ≡ j
  known_alike = sym (from_flags-back k) ∙ ap from_flags flags_alike ∙ from_flags-back j

required_alike : (o p : Option KnownVocabularies) → in_force o ≡ in_force p → o ≡ p
required_alike None None e = refl
required_alike None (Some j) e = absurd cc
required_alike (Some k) None e = absurd cc
required_alike (Some k) (Some j) e = let same : required k ≡ required j = cc in ap Some (known_alike k j same)

dialect_from : Draft → Option KnownVocabularies → Bool → Dialect
dialect_from draft o siblings = record { draft = draft; required = o; siblings = siblings }

dialect_from-back : (d : Dialect) → dialect_from d.draft d.required d.siblings ≡ d
unfolding dialect_from
dialect_from-back d = refl

dialect_alike : (d e : Dialect) → dialect_of d ≡ dialect_of e → d ≡ e
dialect_alike d e same =
    let draft : d.draft ≡ e.draft = ap (λ (x : places.Dialect). x.draft) same in
    let required : d.required ≡ e.required = required_alike d.required e.required (ap (λ (x : places.Dialect). x.vocabularies) same) in
    let siblings : d.siblings ≡ e.siblings = ap (λ (x : places.Dialect). x.siblings) same in
    sym (dialect_from-back d) ∙ ap (λ x. dialect_from x d.required d.siblings) draft ∙ ap (λ x. dialect_from e.draft x d.siblings) required
    ∙ ap (dialect_from e.draft e.required) siblings ∙ dialect_from-back e

-- two that stand for one are one
pub same_dialects : (o p : Option Dialect) → option_map dialect_of o ≡ option_map dialect_of p → o ≡ p
same_dialects None None e = refl
same_dialects None (Some d) e = absurd cc
same_dialects (Some c) None e = absurd cc
same_dialects (Some c) (Some d) e = let same : dialect_of c ≡ dialect_of d = cc in ap Some (dialect_alike c d same)
