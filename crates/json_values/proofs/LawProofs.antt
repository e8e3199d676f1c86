-- The laws.
use Rattle.std.proofs.Common.{◌≡◌, ℕ, List, true, Some, refl, sym, ap, ◌∙◌}
use Rattle.std.specs.Cmp.{first_so, second_so, both_ways}
use Rattle.serde_json.specs.Data.{Data, object, Members, no_members, member}
use Rattle.serde_json.specs.Find.{get_member}
use Rattle.json_values.specs.Equality.{equal, equal_members, has_name, names_in, are_member_trees}
use Rattle.json_values.specs.Laws.{EqualityIsReflexive, EqualityIsSymmetric, EqualityIsTransitive, HaveEqualMembers, ObjectsAreEqualByName, EqualKeptTreesAreTheSame, KeptTreesAreTrees, AmongMeansEqualToAnItem, DistinctMeansNoTwoEqual, MultiplesAreProducts, CodePointsAreCounted, SpacesAreCodePoints}
use Rattle.json_values.proofs.Names.{both, is_found, has_found, members_at, members_by, names_at, first_tree, get_same, get_other, apart}
use Rattle.json_values.proofs.Equivalence.{reflexive, symmetric, transitive}
use Rattle.json_values.proofs.Kept.{kept_tree, kept_same, same_equal}
use Rattle.json_values.proofs.Lists.{among_at, among_from, distinct_at, distinct_by}
use Rattle.json_values.proofs.Products.{product_of, multiple_from}
use Rattle.json_values.proofs.Characters.{code_points_counted, spaces_found}

pub equality_is_reflexive : EqualityIsReflexive
equality_is_reflexive = reflexive

pub equality_is_symmetric : EqualityIsSymmetric
equality_is_symmetric d e p q = both_ways (equal d e) (equal e d) (symmetric d e q) (symmetric e d p)

pub equality_is_transitive : EqualityIsTransitive
equality_is_transitive = transitive

names_by : (ns ms : Members) → are_member_trees ns ≡ true → ((k : List ℕ) (d : Data) → get_member k ns ≡ Some d → has_name k ms ≡ true) → names_in ns ms ≡ true
names_by no_members ms t f = refl
names_by (member l e ns) ms t f =
    let parts = first_tree l e ns t in
    both (has_name l ms) (names_in ns ms) (f l e (get_same l l e ns refl))
    (names_by ns ms parts.2 (λ k d h. f k d (get_other k l e ns (apart k l e ns d parts.1 h) ∙ h)))

by_name : (ms ns : Members) → equal (object ms) (object ns) ≡ true → HaveEqualMembers ms ns
by_name ms ns h =
    let found : equal_members ms ns ≡ true = first_so (equal_members ms ns) (names_in ns ms) h in
    let named : names_in ns ms ≡ true = second_so (equal_members ms ns) (names_in ns ms) h in (
      λ k. both_ways (has_name k ms) (has_name k ns)
          (λ g. (let d = is_found (get_member k ms) g in let e = members_at ms ns found k d.0 d.1 in has_found k ns e.0 e.1))
          (λ g. (let e = is_found (get_member k ns) g in names_at ns ms named k e.0 e.1)),
      λ k d e g i. (let f = members_at ms ns found k d g in
          let same : f.0 ≡ e = (let a : get_member k ns ≡ Some f.0 = f.1 in cc) in ap (equal d) (sym same) ∙ f.2),
    )

from_names : (ms ns : Members) → are_member_trees ms ≡ true → are_member_trees ns ≡ true → HaveEqualMembers ms ns → equal (object ms) (object ns) ≡ true
from_names ms ns p q f =
    both (equal_members ms ns) (names_in ns ms)
    (members_by ms ns p (λ k d h. (let e = is_found (get_member k ns) (sym (f.0 k) ∙ has_found k ms d h) in (e.0, e.1, f.1 k d e.0 h e.1))))
    (names_by ns ms q (λ k e h. f.0 k ∙ has_found k ns e h))

pub objects_are_equal_by_name : ObjectsAreEqualByName
objects_are_equal_by_name ms ns p q = (by_name ms ns, from_names ms ns p q)

pub equal_kept_trees_are_the_same : EqualKeptTreesAreTheSame
equal_kept_trees_are_the_same d e p q = (kept_same d e p q, same_equal d e p)

pub kept_trees_are_trees : KeptTreesAreTrees
kept_trees_are_trees = kept_tree

pub among_means_equal_to_an_item : AmongMeansEqualToAnItem
among_means_equal_to_an_item d ds = (among_at d ds, among_from d ds)

pub distinct_means_no_two_equal : DistinctMeansNoTwoEqual
distinct_means_no_two_equal ds = (distinct_at ds, distinct_by ds)

pub multiples_are_products : MultiplesAreProducts
multiples_are_products n z l = (product_of n z l, multiple_from n z)

pub code_points_are_counted : CodePointsAreCounted
code_points_are_counted = code_points_counted

pub spaces_are_code_points : SpacesAreCodePoints
spaces_are_code_points = spaces_found
