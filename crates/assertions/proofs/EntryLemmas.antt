-- Entries of `dependentRequired`, one after another.
use Rattle.std.proofs.Common.{◌≡◌, ℕ, List, [], ◌∷◌, ◌++◌, Bool, true, false, codes, Option, Some, None, refl, sym, ap, ◌∙◌, subst}
use Rattle.std.specs.Prelude.{Result, Ok, Err, IfSome, IfNone, if◌then◌else◌}
use Rattle.serde_json.specs.Data.{Data, Items, no_items, Members, member}
use Rattle.serde_json.specs.Find.{as_array, as_object}
use Rattle.json_values.specs.Parts.{name}
use Rattle.schema_definitions.specs.Words.{or, result_map}
use Rattle.schema_meaning.specs.Keywords as told
use Rattle.schema_meaning.specs.Members.{In, first, later}
use Rattle.schema_definitions.specs.Rows.{Row, BuildCause, Context, keyword_value, place_at, at, expected, entry_names, assertion, reads, bad_value, row_of, required_entry, required_entries, and_more, dependent_required_row}
use Rattle.schema_definitions.specs.Values.{names_in, none_twice}
use Rattle.assertions.proofs.ReadLemmas.{refused-value}
use Rattle.assertions.proofs.NameLemmas.{list-there, no-list, object-there, no-object}
use Rattle.assertions.specs.Texts.{texts_of, texts_in, entries_of}
use Rattle.assertions.specs.Reads.{ReadsAs, Makes, IsCause, IsNameList, EntryMakes, cause_of, IsRefusedFor}
use Rattle.assertions.specs.declared.names.NameList.{NameList}
use Rattle.assertions.specs.declared.names.NameList.TheVariants as list
use Rattle.assertions.specs.declared.reading.Reading.{Reading}
use Rattle.assertions.specs.declared.reading.Reading.TheVariants as reading

abbrev Entry : Type 0
Entry = Result (List ℕ × List (List ℕ)) (List BuildCause)

abbrev with_name : List ℕ → List (List ℕ) → List ℕ × List (List ℕ)
with_name n names = (n, names)

abbrev entry_by : Context → List ℕ → List ℕ → Items → Entry
entry_by c k n ds = result_map (with_name n) (entry_names c k n (names_in ds))

entry_is : (c : Context) (k n : List ℕ) (d : Data) (ds : Items) → Some ds ≡ as_array d → required_entry c k n d ≡ entry_by c k n ds
entry_is c k n d ds e =
    list-there (entry_by c k n) (Err (expected c (name n ∷ name k ∷ []) (codes "list"))) d ds e

texts_are : (d : Data) (ds : Items) → Some ds ≡ as_array d → texts_in d ≡ texts_of ds
texts_are d ds e = ap (λ o. texts_of (or no_items o)) (sym e)

abbrev named_by : Context → List ℕ → List ℕ → List (List ℕ) → Bool → Result (List (List ℕ)) (List BuildCause)
named_by c k n ts b = elim (if b then Some ts else None) [ None ↦ Err (expected c (name n ∷ name k ∷ []) (codes "unique names")) | Some ks ↦ Ok ks ]

unique_entry : (c : Context) (k n : List ℕ) (ds : Items) → names_in ds ≡ Some (texts_of ds) → none_twice (texts_of ds) ≡ true
    → entry_by c k n ds ≡ Ok (n, texts_of ds)
unique_entry c k n ds e f = ap (λ o. result_map (with_name n) (entry_names c k n o)) e ∙ ap (λ b. result_map (with_name n) (named_by c k n (texts_of ds) b)) f

repeated_entry : (c : Context) (k n : List ℕ) (ds : Items) → names_in ds ≡ Some (texts_of ds) → none_twice (texts_of ds) ≡ false
    → entry_by c k n ds ≡ Err (expected c (name n ∷ name k ∷ []) (codes "unique names"))
repeated_entry c k n ds e f = ap (λ o. result_map (with_name n) (entry_names c k n o)) e ∙ ap (λ b. result_map (with_name n) (named_by c k n (texts_of ds) b)) f

other_entry : (c : Context) (k n : List ℕ) (ds : Items) → names_in ds ≡ None
    → entry_by c k n ds ≡ Err (expected c (at k) (codes "unique names"))
other_entry c k n ds e = rw e refl

pub entry-right : (n : List ℕ) (d : Data) (ds : Items) (l : NameList) (o : Option Reading) → Some ds ≡ as_array d → IsNameList ds l → EntryMakes l n o
    → IfNone o ((c : Context) (k : List ℕ) → required_entry c k n d ≡ Ok (n, texts_in d))
entry-right n d ds l (Some r) e is makes = tt
entry-right n d ds list.Unique None e is makes = λ c k. entry_is c k n d ds e ∙ unique_entry c k n ds is.0 is.1 ∙ ap (λ ts. Ok (n, ts)) (sym (texts_are d ds e))
entry-right n d ds list.Repeated None e is makes = absurd makes
entry-right n d ds list.Other None e is makes = absurd makes

pub entry-refused : (n : List ℕ) (d : Data) (ds : Items) (l : NameList) (o : Option Reading) → Some ds ≡ as_array d → IsNameList ds l → EntryMakes l n o
    → IfSome o (λ r. (c : Context) (k : List ℕ) → IsRefusedFor (cause_of c k r) (required_entry c k n d))
entry-refused n d ds l None e is makes = tt
entry-refused n d ds list.Unique (Some r) e is makes = cc
entry-refused n d ds list.Repeated (Some (reading.Read a)) e is makes = absurd makes
entry-refused n d ds list.Repeated (Some reading.Nothing) e is makes = absurd makes
entry-refused n d ds list.Repeated (Some (reading.Value x)) e is makes = absurd makes
entry-refused n d ds list.Repeated (Some (reading.Entry m x)) e is makes = λ c k.
    subst (λ (y : Entry). IsRefusedFor (Some (keyword_value (place_at c (name m.now ∷ name k ∷ [])) x.now)) y) (sym (entry_is c k n d ds e ∙ repeated_entry c k n ds is.0 is.1))
    (rw (makes.0, makes.1) first)
entry-refused n d ds list.Other (Some (reading.Read a)) e is makes = absurd makes
entry-refused n d ds list.Other (Some reading.Nothing) e is makes = absurd makes
entry-refused n d ds list.Other (Some (reading.Value x)) e is makes = λ c k.
    subst (λ (y : Entry). IsRefusedFor (Some (keyword_value (place_at c (at k)) x.now)) y) (sym (entry_is c k n d ds e ∙ other_entry c k n ds is)) (rw makes first)
entry-refused n d ds list.Other (Some (reading.Entry m x)) e is makes = absurd makes

pub no-list-refused : (c : Context) (k n : List ℕ) (d : Data) → None ≡ as_array d
    → IsRefusedFor (Some (keyword_value (place_at c (name n ∷ name k ∷ [])) (codes "list"))) (required_entry c k n d)
no-list-refused c k n d e =
    subst (λ (y : Entry). IsRefusedFor (Some (keyword_value (place_at c (name n ∷ name k ∷ [])) (codes "list"))) y)
    (sym (no-list (entry_by c k n) (Err (expected c (name n ∷ name k ∷ []) (codes "list"))) d e)) first

-- ---- what the entries that are left say of all

pub record Left (all rest : Members) : Type 0 where
  pub right : (c : Context) (k : List ℕ) → required_entries c k rest ≡ Ok (entries_of rest) → required_entries c k all ≡ Ok (entries_of all)
  pub refused : (c : Context) (k : List ℕ) (o : Option BuildCause) → IsRefusedFor o (required_entries c k rest) → IsRefusedFor o (required_entries c k all)

pub left_all : (all : Members) → Left all all
left_all all = record { right = λ c k h. h; refused = λ c k o h. h }

refused_more : (o : Option BuildCause) (x : List ℕ × List (List ℕ)) (r : Result (List (List ℕ × List (List ℕ))) (List BuildCause)) → IsRefusedFor o r → IsRefusedFor o (and_more (Ok x) r)
refused_more None x r h = absurd h
refused_more (Some cause) x (Ok xs) h = absurd h
refused_more (Some cause) x (Err more) h = h

pub left_step : (all : Members) (n : List ℕ) (d : Data) (more : Members) → Left all (member n d more) → ((c : Context) (k : List ℕ) → required_entry c k n d ≡ Ok (n, texts_in d))
    → Left all more
left_step all n d more l h = record {
  right = λ c k g. l.right c k (ap (λ r. and_more r (required_entries c k more)) (h c k) ∙ ap (and_more (Ok (n, texts_in d))) g);
  refused = λ c k o g. l.refused c k o (subst (λ (r : Entry). IsRefusedFor o (and_more r (required_entries c k more))) (sym (h c k)) (refused_more o (n, texts_in d) (required_entries c k more) g));
}

in_front : {A : Type 0} (x : A) (xs ys : List A) → In x xs → In x (xs ++ ys)
in_front x [] ys h = elim h [ ]
in_front x (y ∷ xs) ys first = first
in_front x (y ∷ xs) ys (later h) = later (in_front x xs ys h)

refused_first : (o : Option BuildCause) (r : Entry) (rest : Result (List (List ℕ × List (List ℕ))) (List BuildCause)) → IsRefusedFor o r → IsRefusedFor o (and_more r rest)
refused_first None r rest h = absurd h
refused_first (Some cause) (Ok x) rest h = absurd h
refused_first (Some cause) (Err wrong) (Ok xs) h = h
refused_first (Some cause) (Err wrong) (Err more) h = in_front cause wrong more h

pub left_stop : (all : Members) (n : List ℕ) (d : Data) (more : Members) (r : Reading) → Left all (member n d more)
    → ((c : Context) (k : List ℕ) → IsRefusedFor (cause_of c k r) (required_entry c k n d)) → (c : Context) (k : List ℕ) → IsRefusedFor (cause_of c k r) (required_entries c k all)
left_stop all n d more r l h c k = l.refused c k (cause_of c k r) (refused_first (cause_of c k r) (required_entry c k n d) (required_entries c k more) (h c k))

-- ---- the row

abbrev Entries : Type 0
Entries = Result (List (List ℕ × List (List ℕ))) (List BuildCause)

abbrev made : Entries → Row
made r = row_of (λ ps. []) (λ ps. assertion (told.dependent_required ps)) r

row_is : (c : Context) (d : Data) (ms : Members) → Some ms ≡ as_object d → dependent_required_row c (codes "dependentRequired") d ≡ made (required_entries c (codes "dependentRequired") ms)
row_is c d ms e = object-there (λ ns. made (required_entries c (codes "dependentRequired") ns)) (bad_value c (codes "dependentRequired") (codes "object")) d ms e

pub entries-right : (c : Context) (d : Data) (ms : Members) → Some ms ≡ as_object d → required_entries c (codes "dependentRequired") ms ≡ Ok (entries_of ms)
    → dependent_required_row c (codes "dependentRequired") d ≡ reads [] (assertion (told.dependent_required (entries_of ms)))
entries-right c d ms e h = row_is c d ms e ∙ ap made h

row_refused : (cause : BuildCause) (r : Entries) → IsRefusedFor (Some cause) r → IsCause cause (made r)
row_refused cause (Ok ps) h = absurd h
row_refused cause (Err causes) h = record { stands = h; alone = refl }

read_refused : (c : Context) (k : List ℕ) (r : Entries) (x : Reading) → IsRefusedFor (cause_of c k x) r → ReadsAs c k (made r) x
read_refused c k r (reading.Read a) h = absurd h
read_refused c k r reading.Nothing h = absurd h
read_refused c k r (reading.Value y) h = row_refused (keyword_value (place_at c (at k)) y.now) r h
read_refused c k r (reading.Entry n y) h = row_refused (keyword_value (place_at c (name n.now ∷ name k ∷ [])) y.now) r h

pub entries-refused : (c : Context) (d : Data) (ms : Members) (x : Reading) → Some ms ≡ as_object d
    → IsRefusedFor (cause_of c (codes "dependentRequired") x) (required_entries c (codes "dependentRequired") ms)
    → ReadsAs c (codes "dependentRequired") (dependent_required_row c (codes "dependentRequired") d) x
entries-refused c d ms x e h =
    subst (λ (row : Row). ReadsAs c (codes "dependentRequired") row x) (sym (row_is c d ms e)) (read_refused c (codes "dependentRequired") (required_entries c (codes "dependentRequired") ms) x h)

pub no-entries : (c : Context) (d : Data) (x : Reading) → None ≡ as_object d → Makes None (codes "object") x
    → ReadsAs c (codes "dependentRequired") (dependent_required_row c (codes "dependentRequired") d) x
no-entries c d x e h =
    subst (λ (row : Row). ReadsAs c (codes "dependentRequired") row x)
    (sym (no-object (λ ns. made (required_entries c (codes "dependentRequired") ns)) (bad_value c (codes "dependentRequired") (codes "object")) d e))
    (refused-value c (codes "dependentRequired") (codes "object") x h)
