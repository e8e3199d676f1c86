-- When two parts are the same, and what their hash feeds a hasher.
use Rattle.std.specs.Prelude.{◌≡◌, ◌++◌, Bool, true, false, nat_eq}
use Rattle.std.specs.Cmp.{IsEquivalence, IsPartialEquivalence, nat_eq_equiv, partial_equiv_from_equiv}
use Rattle.std.specs.Cmp.Lexicographic.{pointwise, nat_list_eq_equiv}
use Rattle.std.specs.Hash.{HashWrites}
use Rattle.std.specs.Hash as fed
use Rattle.std.proofs.Common.{refl, ap}
use Rattle.std.proofs.lemmas.Bool.{false≢true}
use Rattle.std.proofs.lemmas.Bool.Decides.{Decides-eqb}
use Rattle.std.proofs.lemmas.Slice.Eq.{slice_eq-Decides}
use Rattle.json_values.specs.Parts.{Part, name, index}

abbrev pub part_eq : Part → Part → Bool
part_eq (name s) (name t) = pointwise nat_eq s t
part_eq (name s) (index n) = false
part_eq (index m) (name t) = false
part_eq (index m) (index n) = nat_eq m n

itself : (x : Part) → part_eq x x ≡ true
itself (name s) = nat_list_eq_equiv.refl s
itself (index n) = nat_eq_equiv.refl n

turned : (x y : Part) → part_eq x y ≡ part_eq y x
turned (name s) (name t) = nat_list_eq_equiv.symm s t
turned (name s) (index n) = refl
turned (index m) (name t) = refl
turned (index m) (index n) = nat_eq_equiv.symm m n

along : (x y z : Part) → part_eq x y ≡ true → part_eq x z ≡ part_eq y z
along (name s) (name t) (name u) h = nat_list_eq_equiv.congr s t u h
along (name s) (name t) (index n) h = refl
along (name s) (index n) z h = absurd (false≢true h)
along (index m) (name t) z h = absurd (false≢true h)
along (index m) (index n) (name u) h = refl
along (index m) (index n) (index k) h = nat_eq_equiv.congr m n k h

pub part_eq_equiv : IsEquivalence part_eq
part_eq_equiv = record { refl = itself; symm = turned; congr = along }

pub part_eq_per : IsPartialEquivalence part_eq
part_eq_per = partial_equiv_from_equiv part_eq_equiv

abbrev pub part_fed : Part → HashWrites
part_fed (name s) = fed.u8 0 ++ fed.str s
part_fed (index n) = fed.u8 1 ++ fed.usize n

-- equal parts are fed alike
pub part_fed_alike : (x y : Part) → part_eq x y ≡ true → part_fed x ≡ part_fed y
part_fed_alike (name s) (name t) h = ap (λ u. fed.u8 0 ++ fed.str u) ((slice_eq-Decides Decides-eqb s t (part_eq (name s) (name t)) refl).0 h)
part_fed_alike (name s) (index n) h = absurd (false≢true h)
part_fed_alike (index m) (name t) h = absurd (false≢true h)
part_fed_alike (index m) (index n) h = ap (λ k. fed.u8 1 ++ fed.usize k) ((Decides-eqb m n).0 h)
