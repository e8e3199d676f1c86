-- A location's text, one step at a time.
use Rattle.std.proofs.Common.{◌≡◌, [], ◌∷◌, ◌++◌, reverse, Some, Bor, ap, ◌∙◌, rules}
use Rattle.std.proofs.lemmas.List.{reverse-append}
use Rattle.json_values.specs.Pointers.{part_text, pointer_text}
use Rattle.json_pointers.proofs.NodeLemmas.{pointer_text-push}
use Rattle.location_texts.specs.Locations.{part_of, location_of}
use Rattle.location_texts.specs.declared.lazy_location.LazyLocation.{LazyLocation, out-LazyLocation, the_lemmas}

module _ (location : LazyLocation) (above : Bor LazyLocation) (e : (out-LazyLocation location).above ≡ Some above) where
  path_step : location_of location ≡ part_of (out-LazyLocation location).part ∷ location_of above.now
  path_step = search (rules, the_lemmas)

  pub text_step : pointer_text (reverse (location_of location))
      ≡ pointer_text (reverse (location_of above.now)) ++ 47 ∷ part_text (part_of (out-LazyLocation location).part)
  text_step =
      ap (λ path. pointer_text (reverse path)) path_step
      ∙ ap pointer_text (reverse-append (part_of (out-LazyLocation location).part ∷ []) (location_of above.now))
      ∙ pointer_text-push (reverse (location_of above.now)) (part_of (out-LazyLocation location).part)
