-- Objects of errors, one after another.
use Rattle.std.proofs.Common.{◌≡◌, ◌∙◌, ℕ, List, [], ◌∷◌, ◌++◌, if◌then◌else◌, Result, Ok, Err, OnOk, is_ok, sym, ap, subst, append_assoc}
use Rattle.std.specs.List.{AllZip}
use Rattle.serde_json.specs.Data.{Data}
use Rattle.serde_json.specs.View.{items_of}
use Rattle.schema_reports.specs.Phrases.{IsJsonText}
use Rattle.schema_reports.specs.declared.error.ValidationError.{ValidationError}
use Rattle.error_texts.specs.Objects.{HasObjects, IsObject, refused_data}

-- one error more has its object, and those behind it are still to come
pub object_on : (all left after : List ValidationError) (e : ValidationError) (d : Data) (ds longer : List Data) → left ≡ e ∷ after → IsObject e d → longer ≡ ds ++ d ∷ []
    → ((more : List Data) → AllZip IsObject left more → AllZip IsObject all (ds ++ more))
    → (more : List Data) → AllZip IsObject after more → AllZip IsObject all (longer ++ more)
object_on all left after e d ds longer is one e2 before more zipped =
    let next : AllZip IsObject left (d ∷ more) = subst (λ es. AllZip IsObject es (d ∷ more)) (sym is) (one, zipped) in
    subst (AllZip IsObject all) (sym (append_assoc ds (d ∷ []) more) ∙ ap (λ l. l ++ more) (sym e2)) (before (d ∷ more) next)

-- a text of the objects behind another text
pub refused_behind : (es : List ValidationError) (ds : List Data) → AllZip IsObject es ds → {written : List ℕ} → IsJsonText (refused_data (items_of ds)) written
    → {A B : Type 0} (r : Result A B) (old : List ℕ) {new text : List ℕ} → new ≡ (if is_ok r then old ++ text else old) → text ≡ written
    → OnOk r ((t : List ℕ) × HasObjects es t × (new ≡ old ++ t))
refused_behind es ds zipped {written = written} json (Ok a) old e is = (written, record { objects = ds; zipped = zipped; is_text = json }, e ∙ ap (λ t. old ++ t) is)
refused_behind es ds zipped json (Err b) old e is = tt
