-- The dialects of meta-schemas are told alike by the two documents, and by the one with the other inside.
use Rattle.std.proofs.Common.{◌≡◌, ◌∙◌, ℕ, zero, suc, List, [], Option, Some, None, option_map, refl, sym, ap, ap₂, subst, arith}
use Rattle.serde_json.specs.Data.{Data}
use Rattle.schema_drafts.specs.declared.draft.Draft.{Draft}
use Rattle.schema_meaning.specs.Members.{In}
use Rattle.schema_definitions.specs.Places.{Dialect}
use Rattle.schema_definitions.specs.Bearers.{Standing, standings, bears, last_standing, dialect_by, dialects, how_many, meta}
use Rattle.schema_definitions.specs.DocumentCauses.{document_causes}
use Rattle.document_laws.specs.Agreeing.{TellAlike}
use Rattle.document_laws.proofs.Alike.{alike_tell}
use Rattle.moved_documents.specs.Forms.{Pair, added, inside}
use Rattle.moved_documents.specs.Premises.{BornOnce, CanMove}
use Rattle.moved_documents.specs.Laws.{OnceBeside}
use Rattle.moved_documents.proofs.NearTexts.{required_near}
use Rattle.moved_documents.proofs.Roots.{named_whole}
use Rattle.moved_documents.proofs.Standings.{Alike, BothFound, neither_found, each_found, both_found}
use Rattle.moved_documents.proofs.Kept.{once_at_each}

module _ (p : Pair) (draft : Draft) (whole : Data) (can : CanMove p draft whole) where
  -- standings that are alike give their schemas one dialect
  same_dialect : (s t : Standing) → Alike p s t → dialect_by s ≡ dialect_by t
  same_dialect s t a =
      ap₂ (λ (x : Dialect) vs. record { draft = x.draft; vocabularies = vs; siblings = x.siblings }) a.dialect
      (sym (required_near p.fresh p.moved can.fresh s.place.contents t.place.contents a.near))

  by_found : (o q : Option Standing) → BothFound p o q → option_map dialect_by o ≡ option_map dialect_by q
  by_found _ _ neither_found = refl
  by_found _ _ (each_found {s = s} {t = t} a) = ap Some (same_dialect s t a)

  bearers_found : (told : List ℕ → Option Dialect) → BornOnce told (inside p whole) → (uri : List ℕ)
      → BothFound p (last_standing (bears uri) told (added p)) (last_standing (bears uri) told (inside p whole))
  bearers_found told once uri = both_found p draft whole can told (bears uri) (λ s t a. a.bears_alike uri) (once.uris uri)

  -- ---- by what the one document tells, where nothing is wrong with it

  abbrev pub told : List ℕ → Option Dialect
  told = meta (inside p whole)

  module _ (accepted : document_causes (inside p whole) ≡ []) where
    stage : (n : ℕ) (uri : List ℕ) → dialects (added p) n uri ≡ dialects (inside p whole) n uri
    unfolding dialects
    stage zero uri = refl
    stage (suc n) uri =
        let so_far = dialects (inside p whole) n in
        ap (λ o. option_map dialect_by o) ((alike_tell (dialects (added p) n) so_far (stage n)).last (bears uri) (added p))
        ∙ by_found _ _ (bearers_found so_far (once_at_each (inside p whole) accepted can.once n) uri)

    same_many : how_many (added p) ≡ how_many (inside p whole)
    same_many = (let h = named_whole p draft whole can (λ uri. None) in omega (arith, h))

    same_meta : (uri : List ℕ) → meta (added p) uri ≡ meta (inside p whole) uri
    same_meta uri = stage (suc (how_many (added p))) uri ∙ ap (λ n. dialects (inside p whole) (suc n) uri) same_many

    pub tell : TellAlike (meta (added p)) (meta (inside p whole))
    tell = alike_tell (meta (added p)) (meta (inside p whole)) same_meta

    by_the_two : BornOnce (meta (added p)) (inside p whole)
    by_the_two =
        let same : standings (meta (added p)) (inside p whole) ≡ standings (meta (inside p whole)) (inside p whole) = tell.standing (inside p whole) in
        record {
          uris = λ uri s t i j e f. can.once.uris uri s t (subst (λ ss. In s ss) same i) (subst (λ ss. In t ss) same j) e f;
          names = λ base k s t i j e f. can.once.names base k s t (subst (λ ss. In s ss) same i) (subst (λ ss. In t ss) same j) e f;
        }

-- so by what the two tell nothing is borne twice either
pub once_beside : OnceBeside
once_beside = by_the_two
