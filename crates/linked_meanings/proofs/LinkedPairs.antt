-- A list of pairs is a relation: what is linked by it is related, so the laws of any relation hold of linked readings.
use Rattle.std.proofs.Common.{List, [], ◌∷◌}
use Rattle.std.specs.List.{AllZip}
use Rattle.schema_meaning.specs.Linked.{Linked}
use Rattle.linked_meanings.specs.Laws.{LinkedAlike, LinkedAlikeButForPaths, LinkedCertified, LinkedRelated}
use Rattle.linked_meanings.proofs.RelatedAnswers.{related_alike, related_alike_but_for_paths}
use Rattle.linked_meanings.proofs.Certified.{related_certified}

pub zipped : {X Y : Type 0} (P Q : X → Y → Type 0) → ((x : X) (y : Y) → P x y → Q x y) → (xs : List X) (ys : List Y) → AllZip P xs ys → AllZip Q xs ys
zipped P Q f [] [] h = tt
zipped P Q f [] (y ∷ ys) h = absurd h
zipped P Q f (x ∷ xs) [] h = absurd h
zipped P Q f (x ∷ xs) (y ∷ ys) h = (f x y h.0, zipped P Q f xs ys h.1)

pub linked_related : (S T : Type 0) → LinkedRelated S T
linked_related S T r u pairs linked = record {
  matches = linked.matches;
  keywords = λ s t h. let same = linked.keywords s t h in record { order = same.order; reordered = same.reordered; same = same.same };
  paths = linked.paths;
}

pub linked_alike : (S T : Type 0) → LinkedAlike S T
linked_alike S T r u pairs linked = related_alike (Linked pairs) r u (linked_related S T r u pairs linked)

pub linked_alike_but_for_paths : (S T : Type 0) → LinkedAlikeButForPaths S T
linked_alike_but_for_paths S T pairs = related_alike_but_for_paths (Linked pairs)

pub linked_certified : (S T : Type 0) → LinkedCertified S T
linked_certified S T pairs = related_certified (Linked pairs)
