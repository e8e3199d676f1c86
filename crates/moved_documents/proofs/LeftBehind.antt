-- A root that wants no document, and does not leave the moved one out, has another verdict by itself.
use Rattle.std.proofs.Common.{◌≡◌, ◌∙◌, ◌⊎◌, inl, inr, ◌||◌, ◌&&◌, ℕ, zero, suc, List, [], ◌∷◌, Bool, true, false, Option, Some, None, is_some, Result, Ok, refl, sym, ap}
use Rattle.std.specs.Prelude.{is_none}
use Rattle.std.specs.List.{flat_map, list_all}
use Rattle.std.specs.Str.{is_utf8, chars}
use Rattle.std.specs.Fmt.{digits}
use Rattle.serde_json.proofs.OnLiterals.{serde_json_on_literals}
use Rattle.percent_encoding.specs.Percent.{percent_decode}
use Rattle.uri_grammar.specs.Parts.{split}
use Rattle.uri_grammar.specs.Grammar.{is_reference}
use Rattle.uri_references.specs.Resolution.{resolve}
use Rattle.uri_references.specs.NormalForm.{normal}
use Rattle.uri_references.specs.Dots.{remove_dots}
use Rattle.schema_drafts.specs.declared.draft.Draft.TheVariants.{Draft202012}
use Rattle.schema_meaning.specs.Members.{In, first}
use Rattle.schema_meaning.specs.Readings.{told, through}
use Rattle.schema_definitions.specs.Words.{levels, result_map}
use Rattle.schema_definitions.specs.Identifiers.{resolved, identifier}
use Rattle.schema_definitions.specs.Places.{places}
use Rattle.schema_definitions.specs.Bearers.{Documents, standings, dialects, meta, bearer, bearer_under}
use Rattle.schema_definitions.specs.BuildCauses.{Reached, at_root, by_keyword}
use Rattle.schema_definitions.specs.Lookup.{LookupCause, Target, lookup, lookup_under}
use Rattle.schema_definitions.specs.Rounds.{wants_under}
use Rattle.schema_definitions.specs.Rows.{Row, rows_at}
use Rattle.schema_definitions.specs.Sites.{Site, root_site}
use Rattle.document_laws.proofs.Listed.{in_flat_map}
use Rattle.added_documents.specs.Added.{EachNamedBy, IsToldAlike, NamesDraft}
use Rattle.added_documents.specs.Needed.{all_made}
use Rattle.added_documents.specs.ReadingLaws.{Builds}
use Rattle.added_documents.proofs.Drafts.{drafts_are_told_alike}
use Rattle.added_documents.proofs.Levelled.{Levels, Levelled, sites_led, wrong_at, far_below, none_wrong}
use Rattle.moved_documents.specs.Forms.{root_alone, moved_alone, added, inside}
use Rattle.moved_documents.specs.Premises.{BornOnce, CanMove, KeepsApart}
use Rattle.moved_documents.specs.Needed.{AreRight, entering, entering_whole, reading, reading_whole, LeavesOutIsNeeded}
use Rattle.moved_documents.proofs.Computed.{leaf_fresh, leaf_normal}
use Rattle.moved_documents.proofs.Clashes.{born_once, each_so, both_first, both_second}

-- ---- a root that is looked up builds, where its levels say so

module _ (docs : Documents) (n : ℕ) where
  levels_at : Target → Levels
  levels_at t = record { below = far_below docs n (root_site t ∷ []); wrong = flat_map (wrong_at docs) (levels (sites_led docs) n (root_site t ∷ [])) }

  abbrev levels_of : List ℕ → Result Levels LookupCause
  levels_of uri =
      result_map (λ t. record { below = far_below docs n (root_site t ∷ []); wrong = flat_map (wrong_at docs) (levels (sites_led docs) n (root_site t ∷ [])) }) (lookup docs uri [])

  levels_found : (uri : List ℕ) (ls : Levels) → levels_of uri ≡ Ok ls → (t : Target) → lookup docs uri [] ≡ Ok t → levels_at t ≡ ls
  unfolding levels_at
  levels_found uri ls e t found =
      let told : Result Levels LookupCause = Ok (levels_at t) in
      let both : told ≡ Ok ls = sym (ap (result_map levels_at) found) ∙ e in cc

  builds_at : (uri : List ℕ) → levels_of uri ≡ Ok (record { below = []; wrong = [] }) → (t : Target) → lookup docs uri [] ≡ Ok t → Builds docs all_made uri [] t
  unfolding levels_at
  builds_at uri e t found =
      let same = levels_found uri (record { below = []; wrong = [] }) e t found in
      let levelled : Levelled docs n (root_site t) = record { ended = ap (λ (l : Levels). l.below) same; right = ap (λ (l : Levels). l.wrong) same } in
      record { found = found; right = none_wrong docs n (root_site t) levelled }

-- ---- what holds of all that is reached

module _ (docs : Documents) where
  level_next : (k : ℕ) (ss : List Site) (s t : Site) → In s (far_below docs k ss) → In t (sites_led docs s) → In t (far_below docs (suc k) ss)
  level_next zero ss s t i j = in_flat_map (sites_led docs) s ss t i j
  level_next (suc k) ss s t i j = level_next k (flat_map (sites_led docs) ss) s t i j

  reached_below : (start s : Site) → Reached docs all_made start s → (k : ℕ) × In s (far_below docs k (start ∷ []))
  reached_below start _ at_root = (0, first)
  reached_below start _ (by_keyword {s = s} row t r i j) =
      let above = reached_below start s r in
      (suc above.0, level_next above.0 (start ∷ []) s t above.1 (in_flat_map (λ (x : Row). x.leads) row (rows_at docs all_made s) t i j))

  module _ (good : Site → Bool) where
    -- all are, level by level, until one has none
    abbrev are_good : ℕ → List Site → Bool
    are_good zero [] = true
    are_good zero (s ∷ ss) = false
    are_good (suc n) ss = list_all good ss && are_good n (flat_map (sites_led docs) ss)

    none_below : (k : ℕ) (s : Site) → In s (far_below docs k []) → ⊥
    none_below zero s i = elim i [ ]
    none_below (suc k) s i = none_below k s i

    is_good : (n k : ℕ) (ss : List Site) (s : Site) → are_good n ss ≡ true → In s (far_below docs k ss) → good s ≡ true
    is_good zero k [] s e i = absurd (none_below k s i)
    is_good zero k (x ∷ ss) s e i = (let no : false ≡ true = e in absurd (cc))
    is_good (suc n) zero ss s e i = each_so good s ss i (both_first (list_all good ss) (are_good n (flat_map (sites_led docs) ss)) e)
    is_good (suc n) (suc k) ss s e i = is_good n k (flat_map (sites_led docs) ss) s (both_second (list_all good ss) (are_good n (flat_map (sites_led docs) ss)) e) i

    abbrev root_good : ℕ → List ℕ → Result Bool LookupCause
    root_good n uri = result_map (λ t. are_good n (root_site t ∷ [])) (lookup docs uri [])

    reached_good : (n : ℕ) (uri : List ℕ) → root_good n uri ≡ Ok true → (root : Target) → lookup docs uri [] ≡ Ok root → (s : Site) → Reached docs all_made (root_site root) s
        → good s ≡ true
    reached_good n uri e root found s r =
        let told : Result Bool LookupCause = Ok (are_good n (root_site root ∷ [])) in
        let both : told ≡ Ok true = sym (ap (result_map (λ t. are_good n (root_site t ∷ []))) found) ∙ e in
        let same : are_good n (root_site root ∷ []) ≡ true = cc in
        let below = reached_below (root_site root) s r in
        is_good n below.0 (root_site root ∷ []) s same below.1

-- ---- a base that the moved document bears

entering_once : BornOnce (meta (inside entering entering_whole)) (inside entering entering_whole)
unfolding digits serde_json_on_literals lib.Utf8.encode is_utf8 chars split is_reference resolve normal remove_dots resolved places standings dialects
entering_once = born_once (meta (inside entering entering_whole)) (inside entering entering_whole) refl

entering_can : CanMove entering Draft202012 entering_whole
unfolding digits serde_json_on_literals lib.Utf8.encode is_utf8 chars split is_reference resolve normal remove_dots resolved
entering_can = record {
  joined = refl;
  fresh = leaf_fresh;
  embeds = refl;
  root = refl;
  moved = refl;
  normal = leaf_normal;
  identified = refl;
  rises = refl;
  once = entering_once;
}

entering_right : AreRight entering (root_alone entering) × AreRight entering (added entering) × AreRight entering (inside entering entering_whole)
unfolding digits serde_json_on_literals lib.Utf8.encode is_utf8 chars percent_decode split is_reference resolve normal remove_dots resolved places standings dialects lookup_under rows_at
entering_right = (
  record { accepted = refl; builds = builds_at (root_alone entering) 5 entering.root_uri refl },
  record { accepted = refl; builds = builds_at (added entering) 5 entering.root_uri refl },
  record { accepted = refl; builds = builds_at (inside entering entering_whole) 5 entering.root_uri refl },
)

entering_drafts : EachNamedBy NamesDraft (root_alone entering)
unfolding digits serde_json_on_literals lib.Utf8.encode is_utf8 chars
entering_drafts = ((refl, ((tt, ((tt, (tt, (tt, (tt, tt)))), tt)), (tt, (tt, (tt, ((tt, (((tt, (tt, (tt, tt))), tt), tt)), tt)))))), tt)

entering_told : EachNamedBy (IsToldAlike (meta (root_alone entering)) (meta (added entering))) (root_alone entering)
entering_told = drafts_are_told_alike (meta (root_alone entering)) (meta (added entering)) (root_alone entering) entering_drafts

-- ---- a meta-schema that the moved document is

reading_once : BornOnce (meta (inside reading reading_whole)) (inside reading reading_whole)
unfolding digits serde_json_on_literals lib.Utf8.encode is_utf8 chars split is_reference resolve normal remove_dots resolved places standings dialects
reading_once = born_once (meta (inside reading reading_whole)) (inside reading reading_whole) refl

reading_can : CanMove reading Draft202012 reading_whole
unfolding digits serde_json_on_literals lib.Utf8.encode is_utf8 chars split is_reference resolve normal remove_dots resolved
reading_can = record {
  joined = refl;
  fresh = leaf_fresh;
  embeds = refl;
  root = refl;
  moved = refl;
  normal = leaf_normal;
  identified = refl;
  rises = refl;
  once = reading_once;
}

reading_right : AreRight reading (root_alone reading) × AreRight reading (added reading) × AreRight reading (inside reading reading_whole)
unfolding digits serde_json_on_literals lib.Utf8.encode is_utf8 chars percent_decode split is_reference resolve normal remove_dots resolved places standings dialects lookup_under rows_at
reading_right = (
  record { accepted = refl; builds = builds_at (root_alone reading) 4 reading.root_uri refl },
  record { accepted = refl; builds = builds_at (added reading) 4 reading.root_uri refl },
  record { accepted = refl; builds = builds_at (inside reading reading_whole) 4 reading.root_uri refl },
)

-- each schema that is reached has no identifier, or its base is borne by the root, or is not by the moved document
abbrev keeps : Site → Bool
keeps s = is_none (identifier s.dialect s.contents) || (is_some (bearer (root_alone reading) s.base) || is_none (bearer_under (meta (added reading)) (moved_alone reading) s.base))

none_of : {A : Type 0} (o : Option A) → is_none o ≡ true → o ≡ None
none_of None e = refl
none_of (Some x) e = (let no : false ≡ true = e in absurd (cc))

one_of : (a b : Bool) → (a || b) ≡ true → (a ≡ true) ⊎ (b ≡ true)
one_of true b e = inl refl
one_of false b e = inr e

kept_apart : (s : Site) → keeps s ≡ true → KeepsApart reading s
kept_apart s e =
    let born = is_some (bearer (root_alone reading) s.base) in
    let free = is_none (bearer_under (meta (added reading)) (moved_alone reading) s.base) in
    elim (one_of (is_none (identifier s.dialect s.contents)) (born || free) e) [
      | inl a ↦ inl (none_of (identifier s.dialect s.contents) a)
      | inr b ↦ elim (one_of born free b) [
        | inl c ↦ inr (inl c)
        | inr d ↦ inr (inr (none_of (bearer_under (meta (added reading)) (moved_alone reading) s.base) d))
      ]
    ]

reading_kept : root_good (root_alone reading) keeps 4 reading.root_uri ≡ Ok true
unfolding digits serde_json_on_literals lib.Utf8.encode is_utf8 chars percent_decode split is_reference resolve normal remove_dots resolved places standings dialects lookup_under rows_at
reading_kept = refl

pub leaves_out_is_needed : LeavesOutIsNeeded
unfolding digits serde_json_on_literals lib.Utf8.encode is_utf8 chars percent_decode split is_reference resolve normal remove_dots resolved places standings dialects lookup_under rows_at wants_under told through
leaves_out_is_needed = record {
  by_base = record {
    can = entering_can;
    wants_none = refl;
    alone = entering_right.0;
    beside = entering_right.1;
    within = entering_right.2;
    refused = refl;
    accepted = refl;
    accepted_inside = refl;
  };
  told = entering_told;
  by_dialect = record {
    can = reading_can;
    wants_none = refl;
    alone = reading_right.0;
    beside = reading_right.1;
    within = reading_right.2;
    refused = refl;
    accepted = refl;
    accepted_inside = refl;
  };
  apart = λ root found s r. kept_apart s (reached_good (root_alone reading) keeps 4 reading.root_uri reading_kept root found s r);
}
