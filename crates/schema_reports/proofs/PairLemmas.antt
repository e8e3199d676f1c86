-- The pairs of paths of faults joined to faults.
use Rattle.std.proofs.Common.{◌≡◌, ℕ, List, [], ◌∷◌, ◌++◌, map, append_assoc, append-nil, refl, ap, sym, ◌∙◌, String, Global, string_bytes, Result, Ok, Err, OnOk, is_ok, if◌then◌else◌}
use Rattle.std.proofs.lemmas.List.{map-append}
use Rattle.json_values.specs.Parts.{Part}
use Rattle.serde_json.specs.Data.{Data}
use Rattle.schema_meaning.specs.Faults.{Fault, fault, Faults, none, also, joined, instance_path, evaluation_path}
use Rattle.schema_meaning.specs.Rules.{each_of_object}
use Rattle.schema_definitions.specs.Lines.{paths_of}
use Rattle.schema_definitions.specs.PathTexts.{path_text}
use Rattle.schema_reports.specs.Pairs.{pair_bytes, paths_in}
use Rattle.schema_reports.specs.Told.{spot_of}

pub paths-joined : (fs gs : Faults) → paths_of (joined fs gs) ≡ paths_of fs ++ paths_of gs
paths-joined none gs = refl
paths-joined (also f fs) gs = ap (λ ps. paths_in f ∷ ps) (paths-joined fs gs)

-- those of others behind those told before
pub pairs_joined : (ps qs rs : List (String Global × String Global)) → rs ≡ ps ++ qs → (fs gs : Faults) → map pair_bytes ps ≡ paths_of fs → map pair_bytes qs ≡ paths_of gs
    → map pair_bytes rs ≡ paths_of (joined fs gs)
pairs_joined ps qs rs more fs gs before heard =
    ap (map pair_bytes) more ∙ map-append pair_bytes ps qs ∙ ap (λ bs. bs ++ map pair_bytes qs) before ∙ ap (λ bs. paths_of fs ++ bs) heard ∙ sym (paths-joined fs gs)

pub pairs_absorbed : {T E : Type 0} (r : Result T E) (ps qs rs : List (String Global × String Global)) → rs ≡ (if is_ok r then ps ++ qs else ps)
    → OnOk r ((fs gs : Faults) → map pair_bytes ps ≡ paths_of fs → map pair_bytes qs ≡ paths_of gs → map pair_bytes rs ≡ paths_of (joined fs gs))
pairs_absorbed (Ok x) ps qs rs e = pairs_joined ps qs rs e
pairs_absorbed (Err x) ps qs rs e = tt

-- that of one fault more
pub pair_added : (ps qs : List (String Global × String Global)) (instance evaluation : String Global) → qs ≡ ps ++ (instance, evaluation) ∷ [] → (f : Fault)
    → string_bytes instance ≡ path_text (instance_path f) → string_bytes evaluation ≡ path_text (evaluation_path f)
    → (fs : Faults) → map pair_bytes ps ≡ paths_of fs → map pair_bytes qs ≡ paths_of (joined fs (also f none))
pair_added ps qs instance evaluation more f one other fs before =
    pairs_joined ps ((instance, evaluation) ∷ []) qs more fs (also f none) before
    (ap (λ b. (b, string_bytes evaluation) ∷ []) one ∙ ap (λ b. (path_text (instance_path f), b) ∷ []) other)

-- ---- those of a name, told of the object at a place

abbrev told_at : List Part → List ℕ × List ℕ → List ℕ × List ℕ
told_at path p = (path_text path, p.1)

paths-named : (value : Data) (path : List Part) (gs : Faults) → map (told_at path) (paths_of gs) ≡ paths_of (each_of_object (spot_of value path) gs)
paths-named value path none = refl
paths-named value path (also (fault k d i s e) gs) = ap (λ ps. (path_text path, path_text e) ∷ ps) (paths-named value path gs)

-- those told before, and then those of the others
abbrev pub ArePlaced : List Part → List (String Global × String Global) → List (String Global × String Global) → List (String Global × String Global) → Type 0
ArePlaced path before yielded ps = map pair_bytes ps ≡ map pair_bytes before ++ map (told_at path) (map pair_bytes yielded)

pub none_placed : (path : List Part) (before : List (String Global × String Global)) → ArePlaced path before [] before
none_placed path before = sym (append-nil (map pair_bytes before))

pub one_placed : (path : List Part) (ps qs : List (String Global × String Global)) (instance text evaluation : String Global) → qs ≡ ps ++ (text, evaluation) ∷ []
    → string_bytes text ≡ path_text path → (before yielded : List (String Global × String Global)) → ArePlaced path before yielded ps
    → ArePlaced path before (yielded ++ (instance, evaluation) ∷ []) qs
one_placed path ps qs instance text evaluation more is before yielded placed =
    let last = (path_text path, string_bytes evaluation) ∷ [] in
    ap (map pair_bytes) more ∙ map-append pair_bytes ps ((text, evaluation) ∷ [])
    ∙ ap (λ b. map pair_bytes ps ++ (b, string_bytes evaluation) ∷ []) is ∙ ap (λ bs. bs ++ last) placed
    ∙ append_assoc (map pair_bytes before) (map (told_at path) (map pair_bytes yielded)) last
    ∙ ap (λ bs. map pair_bytes before ++ bs)
    (sym (ap (map (told_at path)) (map-append pair_bytes yielded ((instance, evaluation) ∷ [])) ∙ map-append (told_at path) (map pair_bytes yielded) (pair_bytes (instance, evaluation) ∷ [])))

pub all_placed : (value : Data) (path : List Part) (before heard ps : List (String Global × String Global)) → ArePlaced path before heard ps
    → (fs gs : Faults) → map pair_bytes before ≡ paths_of fs → map pair_bytes heard ≡ paths_of gs → map pair_bytes ps ≡ paths_of (joined fs (each_of_object (spot_of value path) gs))
all_placed value path before heard ps placed fs gs told others =
    let named = each_of_object (spot_of value path) gs in
    placed ∙ ap (λ bs. bs ++ map (told_at path) (map pair_bytes heard)) told ∙ ap (λ bs. paths_of fs ++ map (told_at path) bs) others
    ∙ ap (λ bs. paths_of fs ++ bs) (paths-named value path gs) ∙ sym (paths-joined fs named)
