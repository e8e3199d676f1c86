-- What a reference is read as, by its target.
use Rattle.std.proofs.Common.{◌≡◌, ◌∙◌, refl, sym, ap, subst, ℕ, List, [], ◌∷◌, ◌++◌, Bool, true, false, codes, if◌then◌else◌, Option, Some, Result, Ok, ◌⊎◌, inl, inr}
use Rattle.serde_json.specs.Data.{Data, Members}
use Rattle.referencing.specs.Resolved.{base_of, scope_of}
use Rattle.document_sources.specs.Causes.{IsMemory, NamesLookup, RefusesLookup}
use Rattle.document_sources.specs.declared.error.Error.{Error}
use Rattle.schema_definitions.specs.Bearers.{Documents}
use Rattle.schema_definitions.specs.Lookup.{LookupCause, Target}
use Rattle.schema_definitions.specs.Scopes.{recursive_lookup}
use Rattle.schema_definitions.specs.Places.{is_schema}
use Rattle.schema_meaning.specs.Keywords.{Reference, recursive, reference}
use Rattle.schema_meaning.specs.Members.{In, first, later}
use Rattle.schema_definitions.specs.Rows.{Row, BuildCause, keyword_value, bad_reference, Context, place_at, at, bad_value, with_causes, no_schema_there, is_hash, led_to, ref_row, dynamic_row, reads}
use Rattle.schema_definitions.specs.Sites.{target_site}
use Rattle.schema_sites.specs.Errors.{IsRefusalOf}
use Rattle.schema_sites.specs.Read.{Surrounds}
use Rattle.schema_sites.specs.References.{kind_of, name_of, reference_row, looked_up, Says}
use Rattle.assertions.specs.Reads.{IsCause}
use Rattle.schema_sites.specs.Refused.{Refuses}
use Rattle.schema_sites.specs.Seen.{documents_at}
use Rattle.schema_sites.specs.declared.keyword.Refusal.{Refusal}
use Rattle.schema_sites.specs.declared.reference_keyword.ReferenceKeyword.{ReferenceKeyword}
use Rattle.schema_sites.specs.declared.reference_keyword.ReferenceKeyword.TheVariants.{Ref, DynamicRef, RecursiveRef}
use Rattle.schema_sites.specs.declared.site.Site as code

in-before : {A : Type 0} {x : A} (xs ys : List A) → In x xs → In x (xs ++ ys)
in-before {x = x} [] ys i = elim i [ ]
in-before (y ∷ xs) ys first = first
in-before (y ∷ xs) ys (later i) = later (in-before xs ys i)

with-cause : (causes : List BuildCause) (cause : BuildCause) (row : Row) → In cause causes → IsCause cause (with_causes causes row)
with-cause [] cause row i = elim i [ ]
with-cause (b ∷ bs) cause row i = record { stands = in-before (b ∷ bs) row.causes i; alone = refl }

abbrev no_schema : Target → BuildCause
no_schema target = keyword_value (record { document = target.document; path = target.path }) (codes "schema")

no-memory : (cause : LookupCause) (e : Error) → NamesLookup cause e → IsMemory e → ⊥
no-memory cause e n m = subst (NamesLookup cause) m n

-- of a keyword by its name and its kind
module _ (k : List ℕ) (kind : Reference) (x : Context) where
  abbrev led_row : List ℕ → Target → Row
  led_row t target = reads (target_site x.site t target ∷ []) (reference kind (target_site x.site t target) ∷ [])

  pub led-read : (t : List ℕ) (target : Target) → is_schema target.contents ≡ true → led_to x k kind t (Ok target) ≡ led_row t target
  led-read t target schema = ap (λ (b : Bool). with_causes (if b then [] else no_schema target ∷ []) (led_row t target)) schema

  pub led-elsewhere : (t : List ℕ) (target : Target) → is_schema target.contents ≡ false → IsCause (no_schema target) (led_to x k kind t (Ok target))
  led-elsewhere t target other =
      let there = subst (λ (b : Bool). In (no_schema target) (if b then [] else no_schema target ∷ [])) (sym other) first in
      with-cause (no_schema_there target) (no_schema target) (led_row t target) there

  refused-with : (d : Data) (row : Row) (cause : LookupCause) (e : Error) (r : Refusal) → IsRefusalOf e r → NamesLookup cause e → IsCause (bad_reference (place_at x (at k)) cause) row
      → Refuses x k d row r
  refused-with d row cause e r is names wrong = subst (Refuses x k d row) (sym (is.other (no-memory cause e names))) (cause, names, wrong)

  without-memory : (d : Data) (row : Row) (e : Error) (r : Refusal) → IsRefusalOf e r → IsMemory e → Refuses x k d row r
  without-memory d row e r is m = subst (Refuses x k d row) (sym (is.memory m)) tt

  pub lookup-refused : (d : Data) (t : List ℕ) (answer : Result Target LookupCause) (e : Error) (r : Refusal) → IsRefusalOf e r → RefusesLookup answer e
      → Refuses x k d (led_to x k kind t answer) r
  lookup-refused d t answer e r is (inl m) = without-memory d _ e r is m
  lookup-refused d t answer e r is (inr n) =
      refused-with d _ n.0 e r is n.2
      (subst (λ (a : Result Target LookupCause). IsCause (bad_reference (place_at x (at k)) n.0) (led_to x k kind t a)) (sym n.1) (record { stands = first; alone = refl }))

-- a reference leads to what is looked up
said-row : (w : ReferenceKeyword) (x : Context) (d : Data) (t : List ℕ) → Says w d t
    → reference_row w x d ≡ led_to x (name_of w) (kind_of w) t (looked_up w x.documents x.site.base x.site.scope t)
said-row Ref x d t s = ap (ref_row x (codes "$ref")) s.text
said-row DynamicRef x d t s = ap (dynamic_row x (codes "$dynamicRef")) s.text
said-row RecursiveRef x d t s =
    let found = recursive_lookup x.documents x.site.base x.site.scope in
    ap (λ (o : Option (List ℕ)). if is_hash o then led_to x (codes "$recursiveRef") recursive (codes "#") found else bad_value x (codes "$recursiveRef") (codes "text #")) (s.text ∙ ap Some s.may_be)
    ∙ ap (λ (u : List ℕ). led_to x (codes "$recursiveRef") recursive u found) (sym s.may_be)

-- as the code's site says
pub looked-up : (c : code.Site) (ms : Members) (w : ReferenceKeyword) (x : Context) (d : Data) (t : List ℕ) → Surrounds c ms x → Says w d t
    → reference_row w x d ≡ led_to x (name_of w) (kind_of w) t (looked_up w (documents_at c) (base_of c.resolver) (scope_of c.resolver) t)
looked-up c ms w x d t s says =
    let led : Documents → List ℕ → List (List ℕ) → Row = λ docs base scope. led_to x (name_of w) (kind_of w) t (looked_up w docs base scope t) in
    said-row w x d t says ∙ ap (λ (docs : Documents). led docs x.site.base x.site.scope) s.documents
    ∙ ap (λ (b : List ℕ). led (documents_at c) b x.site.scope) s.stands.base ∙ ap (λ (us : List (List ℕ)). led (documents_at c) (base_of c.resolver) us) s.scope
