-- Names that are missing, as the code and the definitions list them.
use Rattle.std.proofs.Common.{◌≡◌, ℕ, List, [], ◌∷◌, ◌++◌, map, Bool, true, false, Option, Some, None, option_map, Bor, refl, sym, ap, ◌∙◌, subst}
use Rattle.std.specs.List.{filter}
use Rattle.std.specs.Prelude.{option_and_then, if◌then◌else◌, Result, Ok, Err, OnOk}
use Rattle.std.specs.declared.alloc.AllocError.{AllocError}
use Rattle.serde_json.specs.Data.{Data, object, Items, no_items, item, Members}
use Rattle.serde_json.specs.Find.{as_str, get_member}
use Rattle.schema_definitions.specs.Words.{listed}
use Rattle.schema_meaning.specs.Keywords.{none_there, missing}
use Rattle.assertions.specs.Texts.{texts_of}
use Rattle.assertions.specs.Wrong.{head, missing_in, note_of_name, notes_of}
use Rattle.assertions.specs.declared.assertion.Wrong.{Wrong}

kept : (k : List ℕ) (ks rest : List (List ℕ)) (ms : Members) (b : Bool) → none_there (get_member k ms) ≡ b → filter (λ k. none_there (get_member k ms)) ks ≡ rest
    → filter (λ k. none_there (get_member k ms)) (k ∷ ks) ≡ listed (if none_there (get_member k ms) then Some k else None) ++ rest
kept k ks rest ms true e h = rw (e, h) refl
kept k ks rest ms false e h = rw (e, h) refl

text_kept : (o : Option (List ℕ)) (ks rest : List (List ℕ)) (ms : Members) → filter (λ k. none_there (get_member k ms)) ks ≡ rest
    → filter (λ k. none_there (get_member k ms)) (listed o ++ ks) ≡ listed (option_and_then (λ k. if none_there (get_member k ms) then Some k else None) o) ++ rest
text_kept None ks rest ms h = h
text_kept (Some k) ks rest ms h = kept k ks rest ms (none_there (get_member k ms)) refl h

missing_listed : (ds : Items) (ms : Members) → filter (λ k. none_there (get_member k ms)) (texts_of ds) ≡ missing_in ds ms
missing_listed no_items ms = refl
missing_listed (item d ds) ms = text_kept (as_str d) (texts_of ds) (missing_in ds ms) ms (missing_listed ds ms)

head_map : {A B : Type 0} (f : A → B) (xs : List A) → option_map f (head xs) ≡ head (map f xs)
head_map f [] = refl
head_map f (x ∷ xs) = refl

twice : {B : Type 0} (f : List ℕ → B) (o : Option (Bor (List ℕ))) → option_map (λ t. f t.now) o ≡ option_map f (option_map (λ t. t.now) o)
twice f None = refl
twice f (Some t) = refl

missing_object : (ds : Items) (ms : Members) → map (note_of_name (object ms)) (missing_in ds ms) ≡ missing (texts_of ds) (object ms)
missing_object ds ms = ap (map (note_of_name (object ms))) (sym (missing_listed ds ms))

pub first_of_object : (d : Data) (ms : Members) (ds : Items) (o : Option (Bor (List ℕ))) → d ≡ object ms → option_map (λ t. t.now) o ≡ head (missing_in ds ms)
    → option_map (λ t. note_of_name d t.now) o ≡ head (missing (texts_of ds) d)
first_of_object d ms ds o e h =
    subst (λ (x : Data). option_map (λ t. note_of_name x t.now) o ≡ head (missing (texts_of ds) x)) (sym e)
    (twice (note_of_name (object ms)) o ∙ ap (option_map (note_of_name (object ms))) h ∙ head_map (note_of_name (object ms)) (missing_in ds ms) ∙ ap head (missing_object ds ms))

all_of_object : (d : Data) (ms : Members) (ds : Items) (old new : List Wrong) → d ≡ object ms
    → ((x : Data) → notes_of x new ≡ notes_of x old ++ map (note_of_name x) (missing_in ds ms)) → notes_of d new ≡ notes_of d old ++ missing (texts_of ds) d
all_of_object d ms ds old new e h =
    subst (λ (x : Data). notes_of x new ≡ notes_of x old ++ missing (texts_of ds) x) (sym e)
    (h (object ms) ∙ ap (λ ns. notes_of (object ms) old ++ ns) (missing_object ds ms))

pub if_all_of_object : (r : Result (Unit {0}) AllocError) (d : Data) (ms : Members) (ds : Items) (old new : List Wrong) → d ≡ object ms
    → OnOk r ((x : Data) → notes_of x new ≡ notes_of x old ++ map (note_of_name x) (missing_in ds ms)) → OnOk r (notes_of d new ≡ notes_of d old ++ missing (texts_of ds) d)
if_all_of_object (Ok u) d ms ds old new e h = all_of_object d ms ds old new e h
if_all_of_object (Err x) d ms ds old new e h = tt
