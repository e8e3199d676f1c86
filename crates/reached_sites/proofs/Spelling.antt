-- Paths that are spelled by names.
use Rattle.std.proofs.Common.{◌≡◌, ◌∙◌, ◌==◌, ℕ, List, [], ◌∷◌, Bool, true, false, refl, sym, ap}
use Rattle.std.specs.Prelude.{if◌then◌else◌}
use Rattle.percent_encoding.specs.Percent.{percent_decode}
use Rattle.serde_json.specs.Find.{unescape}
use Rattle.uri_grammar.specs.Texts.{cut_at, pieces}
use Rattle.json_values.specs.Parts.{Part, name}
use Rattle.schema_definitions.specs.Words.{or}
use Rattle.schema_definitions.specs.Sites.{pushed, behind_first, pointer_path, path_of_reference}
use Rattle.reading_laws.specs.Spelled.{spelled}

pushed-spelled : (ts : List (List ℕ)) (path : List Part) → spelled path ≡ path → spelled (pushed ts path) ≡ pushed ts path
pushed-spelled [] path h = h
pushed-spelled (t ∷ ts) path h = pushed-spelled ts (name (unescape t) ∷ path) (ap (λ (p : List Part). name (unescape t) ∷ p) h)

where-slashed : (b : Bool) (path : List Part) → spelled path ≡ path → spelled (if b then path else []) ≡ (if b then path else [])
where-slashed true path h = h
where-slashed false path h = refl

pointer-spelled : (f : List ℕ) → spelled (pointer_path f) ≡ pointer_path f
pointer-spelled [] = refl
pointer-spelled (b ∷ f) = (let ts = behind_first (pieces 47 (percent_decode (b ∷ f))) in where-slashed (b == 47) (pushed ts []) (pushed-spelled ts [] refl))

pub reference-spelled : (path : List Part) (t : List ℕ) → path ≡ path_of_reference t → spelled path ≡ path
reference-spelled path t e = ap spelled e ∙ pointer-spelled (or [] (cut_at 35 t).1) ∙ sym e
