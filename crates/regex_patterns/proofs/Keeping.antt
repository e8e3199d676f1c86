-- What a search finds once it was asked before.
use Rattle.std.proofs.Common.{◌≡◌, Some, is_some, ap, subst, ◌∙◌}
use Rattle.std.proofs.lemmas.Option.{same_Some}
use Rattle.regex.specs.Patterns.{find_str}
use Rattle.regex.specs.Strings.{matcher_pattern}
use Rattle.regex.specs.declared.string.matcher.Matcher.{Matcher}
use Rattle.regex_patterns.specs.Matchers.{Searches}
use Rattle.regex_patterns.specs.declared.RegexMatcher.{RegexMatcher}
use Rattle.regex_patterns.specs.Kept.{IsKept}

-- a search with the pattern of another that is for it is so too
pub searches_along : (r : RegexMatcher) (m n : Matcher) → Searches r m → matcher_pattern n ≡ matcher_pattern m → IsKept r (Some n)
searches_along r m n searches same o e =
    subst (Searches r) (same_Some n o e) (λ text bytes. ap (λ p. Some (is_some (find_str p text 0))) same ∙ searches text bytes)
