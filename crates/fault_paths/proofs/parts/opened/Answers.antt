use Rattle.std.proofs.Common.{◌≡◌, ◌<◌, [], ℕ, List, length, None, ap, arith, lit<}
use Rattle.std.proofs.lemmas.Str.Pattern.{strip_prefix_char}
use Rattle.std.proofs.lemmas.Bool.Decides.{nat_tests}
use Rattle.fault_paths.proofs.parts.opened.Goals as goal

not_empty : (t : List ℕ) → 0 < length t → t ≡ [] → ⊥
not_empty t h e = let none : length t ≡ 0 = ap length e in omega (arith, h, none)

pub returns-in-None : goal.returns-in-None
returns-in-None c = record {
  empty = not_empty c.args.text.now (grind (arith, nat_tests, c.is_empty.ensures));
  slash = strip_prefix_char 47 c.args.text.now None c.in-None.ensures.cases (lit< tt);
}
