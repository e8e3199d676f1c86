use Rattle.std.proofs.Common.{◌≡◌, ◌∙◌, true, false, sym, refl}
use Rattle.schema_meaning.specs.Questions.{is_declared}
use Rattle.serde_json.specs.View.{view}
use Rattle.schema_engine.specs.Matches.{completed}
use Rattle.schema_engine.specs.declared.place.Asked.TheVariants as asked
use Rattle.compiled_keywords.specs.Owned.{declared_by}
use Rattle.compiled_keywords.proofs.BesideLemmas.{declared_matched, declared_named, not_declared, member_declared, member_other}
use Rattle.compiled_keywords.proofs.together.push_member.Goals as goal
use Rattle.compiled_keywords.proofs.together.push_member.Goals.{then-is_matched-via-then-is_matched, then-is_matched-via-else-is_matched+then-contains}

pub returns-then-is_matched-clause-pushed : goal.returns-then-is_matched-clause-pushed
returns-then-is_matched-clause-pushed g c = λ rest.
    let reads = completed (g.T.Matching.matches c.args.matching.now) rest in
    let w = declared_by c.args.declared.now in
    let nodes = c.args.nodes.now in
    let name = c.args.name.now in
    let so : is_declared reads w name ≡ true = elim c.then-is_matched.branch [
      | then-is_matched-via-then-is_matched b ↦ declared_matched reads w name nodes c.requires.pairs (sym b.if-is_matched.true ∙ c.in_ok-is_matched.ensures.read rest)
      | then-is_matched-via-else-is_matched+then-contains b ↦ declared_named reads w name nodes c.requires.pairs (sym b.if-contains.true ∙ b.contains.ensures)
    ] in
    member_declared reads w name nodes c.requires.pairs (view c.args.member.now) c.args.node _ _ (c.in_ok-is_matched.ensures.pushed rest) so

pub returns-clause-pushed : goal.returns-clause-pushed
returns-clause-pushed g c = λ rest.
    let reads = completed (g.T.Matching.matches c.args.matching.now) rest in
    let w = declared_by c.args.declared.now in
    let nodes = c.args.nodes.now in
    let name = c.args.name.now in
    let so = not_declared reads w name nodes c.requires.pairs (sym c.if-is_matched.false ∙ c.in_ok-is_matched.ensures.read rest) (sym c.if-contains.false ∙ c.contains.ensures) in
    member_other reads w name nodes c.requires.pairs (view c.args.member.now) c.args.node _ _ (c.in_ok-is_matched.ensures.pushed rest) _
    (record { node = c.args.node; asked = asked.Member c.args.name c.args.member; follows = false; beside = true; entry = 0 }) refl c.in_ok-push.ensures.items so
