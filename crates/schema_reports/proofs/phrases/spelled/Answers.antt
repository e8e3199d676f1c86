use Rattle.std.proofs.Common.{map, refl, sym, subst, append-nil, string_bytes, [], rules}
use Rattle.std.proofs.lemmas.List.{at_drop_all}
use Rattle.schema_reports.specs.Phrases.{phrase_of, IsSpelled, AreSpelled}
use Rattle.schema_reports.proofs.PhraseLemmas.{spelled_on}
use Rattle.schema_reports.proofs.phrases.spelled.Goals as goal

pub loop-phrase-preserved : goal.loop-phrase-preserved
loop-phrase-preserved c =
    let spelling = string_bytes c.in_ok-spelling.field-0 in
    let one = subst (λ p. IsSpelled (phrase_of p) spelling) c.phrase-item.is c.in_ok-spelling.ensures in
    spelled_on phrase_of c.args.phrases.now c.loop-phrase.phrase-index c.phrase-item.result (string_bytes c.loop-phrase.text) spelling (string_bytes c.push_str.new.self)
    c.loop-phrase-test.true c.loop-phrase.invariant one (search rules)

pub returns : goal.returns
returns c =
    let none = at_drop_all (λ ps. ps) c.args.phrases.now c.loop-phrase.phrase-index c.loop-phrase-test.false in
    let last = c.loop-phrase.invariant [] (subst (λ ps. AreSpelled (map phrase_of ps) []) (sym none) refl) in
    subst (AreSpelled (map phrase_of c.args.phrases.now)) (append-nil (string_bytes c.loop-phrase.text)) last
