-- What `regex` answers of a text, told of the text.
use Rattle.std.proofs.Common.{rules, ◌≡◌, ◌≢◌, inl, inr, ℕ, ◌<◌, ◌≤◌, List, true, false, Option, Some, None, IsSomeAnd, IfSome, is_some, nat_le, length, refl, ap, chars}
use Rattle.std.specs.Option.{option_map_or}
use Rattle.std.proofs.lemmas.Bool.Decides.{nat_tests}
use Rattle.regex_syntax.specs.Brackets.{Nested}
use Rattle.regex_syntax.specs.Captures.{SameCaptures}
use Rattle.regex_syntax.specs.Grammar.{Names, group_count, read}
use Rattle.regex_syntax.specs.Verdict.{Reads, Refuses}
use Rattle.regex_syntax.specs.declared.error.ErrorKind.{ErrorKind}
use Rattle.regex_syntax.specs.declared.error.ErrorKind.TheVariants.{OutOfMemory}
use Rattle.regex.specs.Patterns.{Re, default_config, find_str}
use Rattle.regex.specs.Strings.{regex_pattern, regex_source, regex_config, regex_names, IsReadFromSource}
use Rattle.regex.specs.declared.string.regex.Regex.{Regex}
use Rattle.regex.proofs.ForCallers.{is_match_alike}
use Rattle.regex_patterns.specs.Searches.{is_regex, MeansItsText}

module _ (r : Regex) (plain : regex_config r ≡ default_config) (read_so : IsReadFromSource r) where
  reads : (P : Option (Nested Re × Names) → Type 0)
      → ((x : Nested Re × Names) → x.0.depth ≤ default_config.nest_limit → SameCaptures (regex_pattern r) x.0.value → P (Some x))
      → P (read default_config (chars (regex_source r)))
  unfolding Reads
  reads P from = by_cases (read default_config (chars (regex_source r))) (rw plain at read_so)
    where
      by_cases : (o : Option (Nested Re × Names))
          → IsSomeAnd o (λ x. (x.0.depth ≤ default_config.nest_limit) × SameCaptures (regex_pattern r) x.0.value × (regex_names r ≡ x.1) × (group_count (regex_pattern r) ≤ length (regex_names r)))
          → P o
      by_cases None h = absurd h
      by_cases (Some x) h = from x h.0 h.1

  -- what is compiled is a pattern
  pub is_read : is_regex (regex_source r) ≡ true
  is_read = reads (λ o. option_map_or (λ x. nat_le x.0.depth default_config.nest_limit) o false ≡ true) (λ x shallow same. search (rules, nat_tests, shallow))

  -- and is searched for as it is read
  pub is_searched : MeansItsText r
  is_searched hay bytes = ap Some
      (reads (λ o. is_some (find_str (regex_pattern r) hay 0) ≡ option_map_or (λ x. is_some (find_str x.0.value hay 0)) o false) (λ x shallow same. is_match_alike same hay bytes true 0))

-- what is refused, memory left aside, is no pattern
pub is_not_read : (source : List ℕ) (kind : ErrorKind) → Refuses default_config source kind → kind ≢ OutOfMemory → is_regex source ≡ false
unfolding Refuses
is_not_read source kind (inl memory) other = absurd (other memory)
is_not_read source kind (inr (inl none)) other = ap (λ o. option_map_or (λ x. nat_le x.0.depth default_config.nest_limit) o false) none
is_not_read source kind (inr (inr deep)) other = by_cases (read default_config (chars source)) deep.1
  where
    by_cases : (o : Option (Nested Re × Names)) → IfSome o (λ x. default_config.nest_limit < x.0.depth) → option_map_or (λ x. nat_le x.0.depth default_config.nest_limit) o false ≡ false
    by_cases None h = refl
    by_cases (Some x) h = search (rules, nat_tests, h)
