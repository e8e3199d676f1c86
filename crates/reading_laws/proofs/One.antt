-- Among documents whose names are apart, the sites that are reached and have one place hold one value.
use Rattle.std.proofs.Common.{◌≡◌, true}
use Rattle.std.specs.List.{list_all}
use Rattle.schema_definitions.specs.Bearers.{Documents}
use Rattle.schema_definitions.specs.Lookup.{Target}
use Rattle.schema_definitions.specs.Sites.{Site, root_site}
use Rattle.document_laws.specs.TargetLaws.{are_apart, contents_rise, IsTarget}
use Rattle.document_laws.proofs.One.{origins_agree}
use Rattle.document_laws.proofs.TargetsLooked.{target_comes_of}
use Rattle.reading_laws.specs.KeyLaws.{ReachedContentsAreOne}
use Rattle.reading_laws.proofs.Lying.{Lies, reached_lies}

pub one_value : (docs : Documents) → are_apart docs ≡ true → list_all contents_rise docs ≡ true → (s t : Site) → Lies docs s → Lies docs t
    → s.document ≡ t.document → s.path ≡ t.path → s.contents ≡ t.contents
one_value docs apart rise s t x y same_name same_path =
    origins_agree docs apart rise s.document t.document s.path t.path s.contents t.contents x.origin y.origin same_name same_path

pub root_lies : (docs : Documents) (t : Target) → IsTarget docs t → Lies docs (root_site t)
root_lies docs t is = record { origin = (target_comes_of docs t is).origin }

pub reached_contents_are_one : ReachedContentsAreOne
reached_contents_are_one docs apart rise makes r q is is_too s t i j =
    one_value docs apart rise s t (reached_lies docs makes (root_site r) s (root_lies docs r is) i) (reached_lies docs makes (root_site q) t (root_lies docs q is_too) j)
