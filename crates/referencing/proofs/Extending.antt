-- Documents added in turn, and one more.
use Rattle.std.proofs.Common.{◌≡◌, ◌∙◌, ◌++◌, ◌&&◌, ℕ, List, [], ◌∷◌, Bool, true, Option, ap, refl, map, sym}
use Rattle.std.proofs.lemmas.List.{map-append}
use Rattle.std.proofs.lemmas.List.Folds.{list_all-append}
use Rattle.serde_json.specs.Data.{Data}
use Rattle.schema_drafts.specs.declared.draft.Draft.{Draft}
use Rattle.document_sources.specs.Given.{Given, with_given, with_all}
use Rattle.document_sources.specs.Uris.{is_document_uri}
use Rattle.referencing.specs.Built.{given_by, givens_by, are_document_uris}

with_all-more : (hs gs : List Given) (g : Given) → with_all hs (gs ++ g ∷ []) ≡ with_given (with_all hs gs) g
with_all-more hs [] g = refl
with_all-more hs (x ∷ gs) g = with_all-more (with_given hs x) gs g

-- t is the text of one more pair, and r what is added with it
pub givens_by-more : {U R : Type 0} (text : U → List ℕ) (contents : R → Data) (draft : R → Option Draft) (hs built new : List Given) (before : List (U × R)) (u : U) (r : R) (t : List ℕ)
    → built ≡ with_all hs (givens_by text contents draft before) → t ≡ text u → new ≡ with_given built (given_by contents draft t r)
    → new ≡ with_all hs (givens_by text contents draft (before ++ (u, r) ∷ []))
givens_by-more {U} {R} text contents draft hs built new before u r t earlier same added =
    let given : U × R → Given = λ x. given_by contents draft (text x.0) x.1 in
    added
    ∙ ap (λ t. with_given built (given_by contents draft t r)) same
    ∙ ap (λ hs. with_given hs (given (u, r))) earlier
    ∙ sym (with_all-more hs (map given before) (given (u, r)))
    ∙ ap (with_all hs) (sym (map-append given before ((u, r) ∷ [])))

both : (a b : Bool) → a ≡ true → b ≡ true → (a && (b && true)) ≡ true
both a b e f = ap (λ t. t && (b && true)) e ∙ ap (λ t. t && true) f

pub are_document_uris-more : {U R : Type 0} (text : U → List ℕ) (before : List (U × R)) (u : U) (r : R)
    → are_document_uris text before ≡ true → is_document_uri (text u) ≡ true → are_document_uris text (before ++ (u, r) ∷ []) ≡ true
are_document_uris-more {U} {R} text before u r e f =
    let test : U × R → Bool = λ x. is_document_uri (text x.0) in
    list_all-append test before ((u, r) ∷ []) ∙ both (are_document_uris text before) (is_document_uri (text u)) e f
