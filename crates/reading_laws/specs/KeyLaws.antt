-- Laws on what is reached and its compile keys.
use Rattle.std.specs.Prelude.{ℕ, ◌≡◌, ◌≤◌, List, Bool, true, length}
use Rattle.std.specs.List.{list_all}
use Rattle.schema_meaning.specs.Members.{In}
use Rattle.schema_definitions.specs.Bearers.{Documents}
use Rattle.schema_definitions.specs.Lookup.{Target}
use Rattle.schema_definitions.specs.BuildCauses.{Reached}
use Rattle.schema_definitions.specs.CompileKeys.{CompileKey}
use Rattle.schema_definitions.specs.Sites.{Site, root_site}
use Rattle.document_laws.specs.TargetLaws.{are_apart, contents_rise, IsTarget}
use Rattle.reading_laws.specs.Keys.{Distinct}

-- the sites reached from roots that references lead to: one place holds one value
abbrev pub ReachedContentsAreOne : Type 0
ReachedContentsAreOne = (docs : Documents) → are_apart docs ≡ true → list_all contents_rise docs ≡ true → (makes : List ℕ → Bool)
    → (r q : Target) → IsTarget docs r → IsTarget docs q → (s t : Site) → Reached docs makes (root_site r) s → Reached docs makes (root_site q) t
    → s.document ≡ t.document → s.path ≡ t.path → s.contents ≡ t.contents

abbrev pub KeysAreFewer : Type 0
KeysAreFewer = (keys others : List CompileKey) → Distinct keys → ((key : CompileKey) → In key keys → In key others) → length keys ≤ length others
