-- Paths that pointers name, one part at a time.
use Rattle.std.proofs.Common.{◌≡◌, ℕ, ◌+◌, ◌<◌, List, ◌∷◌, length, get_or, drop, sym, ap, ◌∙◌}
use Rattle.std.proofs.lemmas.List.{at_drop_more}
use Rattle.serde_json.specs.Find.{unescape}
use Rattle.json_values.specs.Parts.{Part, name}
use Rattle.schema_definitions.specs.Sites.{pushed}

pub pushed_on : (parts : List (List ℕ)) (n : ℕ) (part : List ℕ) (path longer : List Part) → n < length parts → part ≡ get_or parts n part
    → longer ≡ name (unescape part) ∷ path → pushed (drop n parts) path ≡ pushed (drop (n + 1) parts) longer
pushed_on parts n part path longer within is e =
    at_drop_more (λ ps. pushed ps path) parts n part within
    ∙ ap (λ t. pushed (drop (n + 1) parts) (name (unescape t) ∷ path)) (sym is)
    ∙ ap (pushed (drop (n + 1) parts)) (sym e)
