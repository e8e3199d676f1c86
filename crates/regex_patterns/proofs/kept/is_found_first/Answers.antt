use Rattle.regex_patterns.proofs.Keeping.{searches_along}
use Rattle.regex_patterns.proofs.kept.is_found_first.Goals as goal

pub returns-clause-kept : goal.returns-clause-kept
returns-clause-kept c =
    searches_along c.args.made.now c.in_ok-search.search c.is_match-found.new.self c.in_ok-search.ensures c.is_match-found.ensures.same
