-- Places below places.
use Rattle.std.proofs.Common.{◌≡◌, ◌∙◌, ℕ, List, ◌∷◌, sym, ap, ap₂}
use Rattle.json_values.specs.Parts.{Part, name, index}
use Rattle.schema_definitions.specs.Rows.{Place}
use Rattle.document_index.specs.Seen.{name_of}
use Rattle.reached_sites.specs.Places.{place_in}
use Rattle.reached_sites.specs.declared.place.SchemaPlace.{SchemaPlace}

abbrev pub placed : List ℕ → List Part → Place
placed document path = record { document = document; path = path }

pub placed-in : (document : List ℕ) (path : List Part) (p : SchemaPlace) → name_of p.document ≡ document → p.path ≡ path → placed document path ≡ place_in p
placed-in document path p d e = ap₂ placed (sym d) (sym e)

pub member-in : (document : List ℕ) (path : List Part) (n : List ℕ) (outer inner : SchemaPlace) → placed document path ≡ place_in outer → name_of inner.document ≡ name_of outer.document
    → inner.path ≡ name n ∷ outer.path → placed document (name n ∷ path) ≡ place_in inner
member-in document path n outer inner at d e =
    ap₂ placed (ap (λ (p : Place). p.document) at ∙ sym d) (ap (λ (p : Place). name n ∷ p.path) at ∙ sym e)

pub item-in : (document : List ℕ) (path : List Part) (i : ℕ) (outer inner : SchemaPlace) → placed document path ≡ place_in outer → name_of inner.document ≡ name_of outer.document
    → inner.path ≡ index i ∷ outer.path → placed document (index i ∷ path) ≡ place_in inner
item-in document path i outer inner at d e =
    ap₂ placed (ap (λ (p : Place). p.document) at ∙ sym d) (ap (λ (p : Place). index i ∷ p.path) at ∙ sym e)
