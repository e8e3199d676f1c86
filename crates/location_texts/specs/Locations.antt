-- What the locations of the code stand for.
use Rattle.std.specs.Prelude.{List, [], ◌∷◌}
use Rattle.json_values.specs.Parts.{Part, name, index}
use Rattle.location_texts.specs.declared.lazy_location.LazyPart.{LazyPart}
use Rattle.location_texts.specs.declared.lazy_location.LazyPart.TheVariants.{Name, Index}
use Rattle.location_texts.specs.declared.lazy_location.LazyLocation.{LazyLocation, LazyLocation', Held-LazyLocation-above, None', Some'}

abbrev pub part_of : LazyPart → Part
part_of (Name text) = name text.now
part_of (Index n) = index n

-- the path of a location, its last part first; the part of a location with none above it is none of the path
abbrev mutual
  pub location_of : LazyLocation → List Part
  location_of (LazyLocation' part above) = path_below above (part_of part)

  pub path_below : Held-LazyLocation-above → Part → List Part
  path_below None' part = []
  path_below (Some' p location) part = part ∷ location_of location
