-- Names that an object of schemas declares.
use Rattle.std.proofs.Common.{◌≡◌, ◌∙◌, ◌||◌, ℕ, List, Bool, Option, Some, None, Ordering, Less, Equal, Greater, nat_cmp, is_eq, is_some, option_map, refl, ap}
use Rattle.std.proofs.lemmas.Map.Text.{is_eq-slice_cmp}
use Rattle.std.specs.Cmp.Lexicographic.{slice_cmp}
use Rattle.std.specs.Ordering.{match_ordering}
use Rattle.serde_json.specs.Data.{Data, Members, no_members, member}
use Rattle.serde_json.specs.Find.{get_member}
use Rattle.schema_meaning.specs.Members.{is_listed}
use Rattle.schema_definitions.specs.Rows.{member_names}

here_or : (o : Ordering) (e : Data) (rest : Option Data) (b : Bool) → is_some rest ≡ b → is_some (match_ordering o rest (Some e) rest) ≡ (is_eq o || b)
here_or Less e rest b h = h
here_or Equal e rest b h = refl
here_or Greater e rest b h = h

-- a name is found where it is among those of the members
pub found_listed : (k : List ℕ) (ms : Members) → is_some (get_member k ms) ≡ is_listed k (member_names ms)
found_listed k no_members = refl
found_listed k (member l e ms) =
    here_or (slice_cmp nat_cmp k l) e (get_member k ms) (is_listed k (member_names ms)) (found_listed k ms)
    ∙ ap (λ (b : Bool). b || is_listed k (member_names ms)) (is_eq-slice_cmp k l)

pub same_there : {A B : Type 0} (f : A → B) (o : Option A) → is_some o ≡ is_some (option_map f o)
same_there f None = refl
same_there f (Some x) = refl
