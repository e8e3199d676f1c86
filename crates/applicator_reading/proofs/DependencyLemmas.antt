-- Entries of `dependencies`, and the row.
use Rattle.std.proofs.Common.{◌≡◌, ◌∙◌, ℕ, List, [], ◌∷◌, Bool, false, codes, None, Some, refl, sym, ap, subst}
use Rattle.std.specs.Prelude.{if◌then◌else◌, Result, Ok, Err}
use Rattle.serde_json.specs.Data.{Data, Items, Members, no_members, member}
use Rattle.serde_json.specs.Find.{as_array, as_object}
use Rattle.json_values.specs.Parts.{name}
use Rattle.schema_definitions.specs.Words.{result_map}
use Rattle.schema_definitions.specs.Places.{is_schema}
use Rattle.schema_meaning.specs.Keywords.{Shape, Dependency, needs, applies}
use Rattle.schema_meaning.specs.Keywords as told
use Rattle.schema_meaning.specs.Members.{first}
use Rattle.schema_definitions.specs.Sites.{Site}
use Rattle.schema_definitions.specs.Values.{names_in}
use Rattle.schema_definitions.specs.Rows.{Row, BuildCause, row_of, reads, expected, bad_value, keyword_value, place_at, at, Context, and_more, subschema, sites_applied, entry_names, dependency_entry, dependency_entries, dependencies_row}
use Rattle.assertions.specs.Texts.{texts_of}
use Rattle.assertions.specs.Reads.{IsNameList}
use Rattle.assertions.specs.declared.names.NameList.TheVariants as list
use Rattle.applicators.specs.Shapes.{dependency_at, dependencies_in}
use Rattle.applicator_reading.specs.Dependencies.{IsWrong}
use Rattle.applicator_reading.specs.Reads.{site_in, IsCause, IsRefusedFor, ReadsAs, IsByAnswers}
use Rattle.applicator_reading.specs.declared.reading.Reading.{Reading}
use Rattle.applicator_reading.specs.declared.reading.Reading.TheVariants as reading
use Rattle.applicator_reading.proofs.ListLemmas.{list-there, no-list, object-there, no-object, refused_first, refused_more, row_refused}
use Rattle.applicator_reading.proofs.RowLemmas.{if-false, value-cause}

abbrev Names : Type 0
Names = Result (List (List ℕ)) (List BuildCause)

abbrev Entry : Type 0
Entry = Result (List ℕ × Dependency Site) (List BuildCause)

abbrev Entries : Type 0
Entries = Result (List (List ℕ × Dependency Site)) (List BuildCause)

pub refused_by : {A : Type 0} (cause : BuildCause) (r : Result A (List BuildCause)) → r ≡ Err (cause ∷ []) → IsRefusedFor cause r
refused_by cause r e = subst (λ x. IsRefusedFor cause x) (sym e) first

-- ---- the names of an entry

module _ (x : Context) (n : List ℕ) (ds : Items) where
  abbrev names_here : Names
  names_here = entry_names x (codes "dependencies") n (names_in ds)

  abbrev named_by : Bool → Names
  named_by b =
      elim (if b then Some (texts_of ds) else None) [ None ↦ Err (expected x (name n ∷ name (codes "dependencies") ∷ []) (codes "unique names")) | Some ks ↦ Ok ks ]

  pub names_right : IsNameList ds list.Unique → names_here ≡ Ok (texts_of ds)
  names_right is = ap (entry_names x (codes "dependencies") n) is.0 ∙ ap named_by is.1

  pub names_repeated : IsNameList ds list.Repeated → names_here ≡ Err (expected x (name n ∷ name (codes "dependencies") ∷ []) (codes "unique names"))
  names_repeated is = ap (entry_names x (codes "dependencies") n) is.0 ∙ ap named_by is.1

  pub names_other : IsNameList ds list.Other → names_here ≡ Err (expected x (at (codes "dependencies")) (codes "unique names"))
  names_other is = ap (entry_names x (codes "dependencies") n) is

-- ---- an entry

mapped : {A B : Type 0} (f : A → B) (cause : BuildCause) (r : Result A (List BuildCause)) → IsRefusedFor cause r → IsRefusedFor cause (result_map f r)
mapped f cause (Ok a) h = absurd h
mapped f cause (Err causes) h = h

wrong_mapped : {A B : Type 0} (f : A → B) (x : Context) (w : Reading) (r : Result A (List BuildCause)) → IsWrong x w r → IsWrong x w (result_map f r)
wrong_mapped f x (reading.Applied a) r h = absurd h
wrong_mapped f x reading.Nothing r h = absurd h
wrong_mapped f x (reading.Consequent schema) r h = absurd h
wrong_mapped f x (reading.Value word) r h = mapped f _ r h
wrong_mapped f x (reading.Entry m word) r h = mapped f _ r h
wrong_mapped f x (reading.Element i word) r h = absurd h

module _ (x : Context) (n : List ℕ) (d : Data) where
  abbrev needed : List (List ℕ) → List ℕ × Dependency Site
  needed names = (n, needs names)

  abbrev applied : Site → List ℕ × Dependency Site
  applied s = (n, applies s)

  abbrev schema_here : Result Site (List BuildCause)
  schema_here = subschema x (name n ∷ name (codes "dependencies") ∷ []) d

  abbrev list_here : Items → Entry
  list_here ds = result_map needed (entry_names x (codes "dependencies") n (names_in ds))

  pub list_right : (ds : Items) → Some ds ≡ as_array d → entry_names x (codes "dependencies") n (names_in ds) ≡ Ok (texts_of ds)
      → dependency_entry x (codes "dependencies") n d ≡ Ok (n, dependency_at (site_in x) (codes "dependencies") n d)
  list_right ds e h =
      list-there list_here (result_map applied schema_here) d ds e ∙ ap (result_map needed) h
      ∙ ap (λ (y : Dependency Site). Ok (n, y)) (sym (list-there (λ es. needs (texts_of es)) (applies (site_in x (name n ∷ name (codes "dependencies") ∷ []) d)) d ds e))

  pub list_wrong : (ds : Items) (w : Reading) → Some ds ≡ as_array d → IsWrong x w (entry_names x (codes "dependencies") n (names_in ds)) → IsWrong x w (dependency_entry x (codes "dependencies") n d)
  list_wrong ds w e h =
      subst (λ (r : Entry). IsWrong x w r) (sym (list-there list_here (result_map applied schema_here) d ds e)) (wrong_mapped needed x w (entry_names x (codes "dependencies") n (names_in ds)) h)

  pub schema_right : None ≡ as_array d → schema_here ≡ Ok (site_in x (name n ∷ name (codes "dependencies") ∷ []) d)
      → dependency_entry x (codes "dependencies") n d ≡ Ok (n, dependency_at (site_in x) (codes "dependencies") n d)
  schema_right e h =
      no-list list_here (result_map applied schema_here) d e ∙ ap (result_map applied) h
      ∙ ap (λ (y : Dependency Site). Ok (n, y)) (sym (no-list (λ es. needs (texts_of es)) (applies (site_in x (name n ∷ name (codes "dependencies") ∷ []) d)) d e))

  pub schema_wrong : (w : Reading) → None ≡ as_array d → IsWrong x w schema_here → IsWrong x w (dependency_entry x (codes "dependencies") n d)
  schema_wrong w e h = subst (λ (r : Entry). IsWrong x w r) (sym (no-list list_here (result_map applied schema_here) d e)) (wrong_mapped applied x w schema_here h)

pub schema_refused : (x : Context) (n : List ℕ) (d : Data) → is_schema d ≡ false
    → subschema x (name n ∷ name (codes "dependencies") ∷ []) d ≡ Err (expected x (name n ∷ name (codes "dependencies") ∷ []) (codes "schema"))
schema_refused x n d e =
    if-false (is_schema d) (Ok (site_in x (name n ∷ name (codes "dependencies") ∷ []) d)) (Err (expected x (name n ∷ name (codes "dependencies") ∷ []) (codes "schema"))) e

-- ---- what the entries that are left say of all

wrong_first : (x : Context) (w : Reading) (r : Entry) (rest : Entries) → IsWrong x w r → IsWrong x w (and_more r rest)
wrong_first x (reading.Applied a) r rest h = absurd h
wrong_first x reading.Nothing r rest h = absurd h
wrong_first x (reading.Consequent schema) r rest h = absurd h
wrong_first x (reading.Value word) r rest h = refused_first _ r rest h
wrong_first x (reading.Entry m word) r rest h = refused_first _ r rest h
wrong_first x (reading.Element i word) r rest h = absurd h

wrong_more : (x : Context) (w : Reading) (y : List ℕ × Dependency Site) (rest : Entries) → IsWrong x w rest → IsWrong x w (and_more (Ok y) rest)
wrong_more x (reading.Applied a) y rest h = absurd h
wrong_more x reading.Nothing y rest h = absurd h
wrong_more x (reading.Consequent schema) y rest h = absurd h
wrong_more x (reading.Value word) y rest h = refused_more _ y rest h
wrong_more x (reading.Entry m word) y rest h = refused_more _ y rest h
wrong_more x (reading.Element i word) y rest h = absurd h

abbrev entries_here : Context → Members → Entries
entries_here x ms = dependency_entries x (codes "dependencies") ms

pub record Left (all rest : Members) : Type 0 where
  pub right : (x : Context) → entries_here x rest ≡ Ok (dependencies_in (site_in x) (codes "dependencies") rest) → entries_here x all ≡ Ok (dependencies_in (site_in x) (codes "dependencies") all)
  pub wrong : (x : Context) (w : Reading) → IsWrong x w (entries_here x rest) → IsWrong x w (entries_here x all)

pub left_all : (all : Members) → Left all all
left_all all = record { right = λ x h. h; wrong = λ x w h. h }

pub left_step : (all : Members) (n : List ℕ) (d : Data) (more : Members) → Left all (member n d more)
    → ((x : Context) → dependency_entry x (codes "dependencies") n d ≡ Ok (n, dependency_at (site_in x) (codes "dependencies") n d)) → Left all more
left_step all n d more l h = record {
  right = λ x g. l.right x (ap (λ (r : Entry). and_more r (entries_here x more)) (h x) ∙ ap (and_more (Ok (n, dependency_at (site_in x) (codes "dependencies") n d))) g);
  wrong = λ x w g. l.wrong x w (subst (λ (r : Entry). IsWrong x w (and_more r (entries_here x more))) (sym (h x)) (wrong_more x w (n, dependency_at (site_in x) (codes "dependencies") n d) (entries_here x more) g));
}

pub left_stop : (all : Members) (n : List ℕ) (d : Data) (more : Members) (w : Reading) → Left all (member n d more)
    → ((x : Context) → IsWrong x w (dependency_entry x (codes "dependencies") n d)) → (x : Context) → IsWrong x w (entries_here x all)
left_stop all n d more w l h x = l.wrong x w (wrong_first x w (dependency_entry x (codes "dependencies") n d) (entries_here x more) (h x))

pub left_none : (all : Members) → Left all no_members → (x : Context) → entries_here x all ≡ Ok (dependencies_in (site_in x) (codes "dependencies") all)
left_none all l x = l.right x refl

-- ---- the row

abbrev made : Entries → Row
made r = row_of sites_applied (λ ps. told.dependencies ps ∷ []) r

module _ (x : Context) (d : Data) where
  abbrev by_entries : Members → Row
  by_entries ms = made (entries_here x ms)

  pub entries_right : (ms : Members) → Some ms ≡ as_object d → entries_here x ms ≡ Ok (dependencies_in (site_in x) (codes "dependencies") ms)
      → dependencies_row x (codes "dependencies") d ≡ reads (sites_applied (dependencies_in (site_in x) (codes "dependencies") ms)) (told.dependencies (dependencies_in (site_in x) (codes "dependencies") ms) ∷ [])
  entries_right ms e h = object-there by_entries (bad_value x (codes "dependencies") (codes "object")) d ms e ∙ ap made h

  made_wrong : (w : Reading) (r : Entries) → IsWrong x w r → ReadsAs x (codes "dependencies") (made r) w
  made_wrong (reading.Applied a) r h = absurd h
  made_wrong reading.Nothing r h = absurd h
  made_wrong (reading.Consequent schema) r h = absurd h
  made_wrong (reading.Value word) r h = row_refused sites_applied (λ ps. told.dependencies ps ∷ []) _ r h
  made_wrong (reading.Entry m word) r h = row_refused sites_applied (λ ps. told.dependencies ps ∷ []) _ r h
  made_wrong (reading.Element i word) r h = absurd h

  pub entries_wrong : (ms : Members) (w : Reading) → Some ms ≡ as_object d → IsWrong x w (entries_here x ms) → ReadsAs x (codes "dependencies") (dependencies_row x (codes "dependencies") d) w
  entries_wrong ms w e h =
      subst (λ (row : Row). ReadsAs x (codes "dependencies") row w) (sym (object-there by_entries (bad_value x (codes "dependencies") (codes "object")) d ms e)) (made_wrong w (entries_here x ms) h)

  pub entries_other : None ≡ as_object d → IsCause (keyword_value (place_at x (at (codes "dependencies"))) (codes "object")) (dependencies_row x (codes "dependencies") d)
  entries_other e =
      value-cause x (codes "dependencies") (codes "object") (dependencies_row x (codes "dependencies") d) (no-object by_entries (bad_value x (codes "dependencies") (codes "object")) d e)

pub wrong_asks : (w : Reading) (x : Context) (r : Entries) → IsWrong x w r → IsByAnswers w
wrong_asks (reading.Applied a) x r h = absurd h
wrong_asks reading.Nothing x r h = absurd h
wrong_asks (reading.Consequent schema) x r h = absurd h
wrong_asks (reading.Value word) x r h = tt
wrong_asks (reading.Entry m word) x r h = tt
wrong_asks (reading.Element i word) x r h = absurd h
