-- Lists of notes that are empty, one after another.
use Rattle.std.proofs.Common.{◌≡◌, ◌<◌, ◌+◌, ◌∙◌, ◌++◌, ℕ, List, [], ◌∷◌, Bool, true, false, drop, length, get_or, refl, sym, ap}
use Rattle.std.proofs.lemmas.List.{drop_more}
use Rattle.std.specs.List.{flat_map}
use Rattle.serde_json.specs.Data.{Data, string}
use Rattle.serde_json.specs.Find.{get}
use Rattle.schema_meaning.specs.Faults.{Kind}
use Rattle.schema_meaning.specs.Keywords.{Dependency, needed, unless}
use Rattle.schema_meaning.specs.Members.{is_empty}
use Rattle.schema_meaning.specs.Questions.{if_member}
use Rattle.schema_meaning.specs.Rules.{Note}

-- what entries need, each where its name is a member's
abbrev pub needed_in : Data → List (List ℕ × Dependency ℕ) → List Note
needed_in d ps = flat_map (λ p. if_member (get p.0 d) (λ e. needed d p.1)) ps

pub next_of : {A : Type 0} (i : ℕ) (xs : List A) (x : A) → i < length xs → x ≡ get_or xs i x → drop i xs ≡ x ∷ drop (i + 1) xs
next_of i xs x short is = drop_more xs i x short ∙ ap (λ y. y ∷ drop (i + 1) xs) (sym is)

pub empty_unless : (b : Bool) (kind : Kind) (d : Data) → b ≡ is_empty (unless b kind d)
empty_unless true kind d = refl
empty_unless false kind d = refl

pub empty_both : {A : Type 0} (xs ys : List A) → is_empty xs ≡ true → is_empty (xs ++ ys) ≡ is_empty ys
empty_both [] ys h = refl
empty_both (x ∷ xs) ys h = absurd (cc (h))

pub not_empty : {A : Type 0} (xs ys : List A) → is_empty xs ≡ false → is_empty (xs ++ ys) ≡ false
not_empty [] ys h = absurd (cc (h))
not_empty (x ∷ xs) ys h = refl

pub none_of_text : (text : List ℕ) (ps : List (List ℕ × Dependency ℕ)) → needed_in (string text) ps ≡ []
none_of_text text [] = refl
none_of_text text (p ∷ ps) = none_of_text text ps
