use Rattle.std.proofs.Common.{◌≡◌, ◌∙◌, ◌<◌, ◌+◌, ℕ, zero, suc, List, [], ◌∷◌, ◌++◌, get_or, length, map, take, reverse, string_bytes, arith, ap, sym, subst}
use Rattle.std.proofs.lemmas.List.{take_all, take_more, map-append}
use Rattle.std.proofs.lemmas.List.Elements.{All-append}
use Rattle.std.specs.List.{All, IsDistinct}
use Rattle.std.specs.Prelude.{bytes_eq}
use Rattle.json_values.specs.Pointers.{PathFits}
use Rattle.schema_definitions.specs.Places.{places}
use Rattle.schema_dialects.specs.Dialects.{dialects_in}
use Rattle.schema_places.specs.Seen.{place_of}
use Rattle.document_index.specs.Seen.{document_of}
use Rattle.schema_registries.specs.Pointers.{pointer_of}
use Rattle.schema_registries.proofs.Distinct.{pointers_distinct}
use Rattle.schema_registries.proofs.place_pointers.pointers_under.Goals as goal

pub returns-clause-distinct : goal.returns-clause-distinct
returns-clause-distinct c =
    let told = dialects_in c.args.known.now in
    let d = document_of c.args.document.now in
    let items = c.deref-place-items.result.now in
    let all : map place_of (take c.loop-place.place-index items) ≡ places told d.uri d.default d.contents =
    ap (map place_of) (take_all c.loop-place.place-index items c.loop-place-test.false ∙ c.deref-place-items.ensures.value)
    ∙ c.in_ok-places.ensures ∙ ap (places told d.uri d.default) c.value.ensures in
    subst (IsDistinct bytes_eq) (sym (c.loop-place.invariant.written ∙ ap (map pointer_of) all))
    (pointers_distinct told d c.requires (subst (All (λ p. PathFits (reverse p.path))) all c.loop-place.invariant.fit))

all-of-one : {X : Type 0} (P : X → Type 0) (x : X) → P x → All P (x ∷ [])
all-of-one P x h zero d i = h
all-of-one P x h (suc k) d i = absurd (omega (arith, i))

-- src/place_pointers.rt:48:5
pub loop-place-preserved : goal.loop-place-preserved
loop-place-preserved c =
    let items = c.deref-place-items.result.now in
    let i = c.loop-place.place-index in
    let place = c.place-item.result in
    let text = c.in_ok-to_pointer.field-0 in
    let more : map place_of (take (i + 1) items) ≡ map place_of (take i items) ++ place_of place ∷ [] =
    ap (map place_of) (take_more items i place c.loop-place-test.true ∙ ap (λ x. take i items ++ x ∷ []) (sym c.place-item.is))
    ∙ map-append place_of (take i items) (place ∷ []) in
    record {
      written =
          ap (map string_bytes) c.in_ok-push.ensures.items ∙ map-append string_bytes c.loop-place.pointers.items (text ∷ []) ∙ ap (λ l. l ++ string_bytes text ∷ []) c.loop-place.invariant.written
          ∙ ap (λ t. map pointer_of (map place_of (take i items)) ++ t ∷ []) c.in_ok-to_pointer.ensures.text
          ∙ sym (ap (map pointer_of) more ∙ map-append pointer_of (map place_of (take i items)) (place_of place ∷ []));
      fit = subst (All (λ p. PathFits (reverse p.path))) (sym more)
          (All-append (λ p. PathFits (reverse p.path)) (map place_of (take i items)) (place_of place ∷ []) c.loop-place.invariant.fit
          (all-of-one (λ p. PathFits (reverse p.path)) (place_of place) c.in_ok-to_pointer.ensures.fits));
    }
