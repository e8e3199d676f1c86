use Rattle.std.proofs.Common.{◌≡◌, ◌≤◌, ◌+◌, ◌∙◌, drop, length, true, sym, ap, subst, arith}
use Rattle.schema_meaning.specs.Keywords.{rule}
use Rattle.schema_engine.specs.Itself.{is_fine, SettlesSo}
use Rattle.schema_engine.specs.Led.{MayAskFor}
use Rattle.schema_engine.specs.Matches.{Answers, Matches, completed}
use Rattle.schema_engine.specs.Places.{value_at}
use Rattle.schema_engine.specs.Rules.{is_right}
use Rattle.schema_engine.specs.declared.itself.Itself.{Itself}
use Rattle.schema_engine.proofs.Rightness.{AllBut, right_next, wrong_now, right_all, settles, settled_next, settled_all}
use Rattle.schema_engine.proofs.Steps.{keyword_stands}
use Rattle.schema_engine.proofs.itself.accept_itself.Goals.{in-Asks, in-Settled}
use Rattle.schema_engine.proofs.itself.accept_itself.Goals as goal

pub accepts_itself-requires : goal.accepts_itself-requires
accepts_itself-requires g c =
    let l = c.loop-keyword in
    let k = c.keyword-item.result in
    let stands = keyword_stands l.keyword-index c.args.keywords.now k c.loop-keyword-test.true c.keyword-item.is in
    record {
      known = subst (λ (m : Matches). g.K.Validate.knows k m.pattern) (sym l.invariant.matches) (c.requires.known k stands);
      asked = subst (λ (m : Matches). MayAskFor m (g.K.Validate.shape k) (value_at c.args.place)) (sym l.invariant.matches) (c.requires.asked k stands);
    }

pub loop-keyword-preserved : goal.loop-keyword-preserved
loop-keyword-preserved g c =
    let l = c.loop-keyword in
    let k = c.keyword-item.result in
    let d = value_at c.args.place in
    let said = c.in_ok-accepts_itself.field-0 in
    let entry = completed (g.T.Matching.matches c.args.matching.now) in
    let matches = c.in_ok-accepts_itself.ensures.same ∙ l.invariant.matches in
    let told = λ (rest : Answers). subst (λ (m : Matches). is_fine said ≡ is_right (rule (completed m rest) d (g.K.Validate.shape k))) l.invariant.matches (c.in_ok-accepts_itself.ensures.right rest) in
    let settled = λ (rest : Answers). subst (λ (m : Matches). SettlesSo said (rule (completed m rest) d (g.K.Validate.shape k))) l.invariant.matches (c.in_ok-accepts_itself.ensures.settled rest) in
    let left = λ (fine : is_fine said ≡ true) (rest : Answers). right_next _ l.keyword-index c.args.keywords.now _ (l.invariant.left rest) k _ c.loop-keyword-test.true c.keyword-item.is (told rest) fine in
    elim c.match-branch-2.branch [
      | in-Asks w ↦ record {
        matches = matches;
        fine = ap is_fine w.all-is;
        left = left (ap is_fine w.in-Asks.is);
        settled = λ rest others j stands. subst (λ (s : Itself). SettlesSo s (rule (entry rest) d (g.K.Validate.shape j))) (sym w.all-is) tt;
      }
      | in-Settled w ↦ record {
        matches = matches;
        fine = ap is_fine w.all-is ∙ l.invariant.fine;
        left = left (ap is_fine w.in-Settled.is);
        settled = λ rest. subst (λ (s : Itself). AllBut (λ j. SettlesSo s (rule (entry rest) d (g.K.Validate.shape j))) l.keyword-index c.args.keywords.now (drop (l.keyword-index + 1) c.args.keywords.now)) (sym w.all-is)
            (settled_next _ l.keyword-index c.args.keywords.now k c.loop-keyword-test.true c.keyword-item.is
            (settles l.all _ (subst (λ (s : Itself). SettlesSo s (rule (entry rest) d (g.K.Validate.shape k))) w.in-Settled.is (settled rest)))
            (l.invariant.settled rest));
      }
    ]

pub returns-in-Wrong-clause-right : goal.returns-in-Wrong-clause-right
returns-in-Wrong-clause-right g c =
    let l = c.loop-keyword in
    let k = c.keyword-item.result in
    let told = λ (rest : Answers). subst (λ (m : Matches). is_fine c.in_ok-accepts_itself.field-0 ≡ is_right (rule (completed m rest) (value_at c.args.place) (g.K.Validate.shape k))) l.invariant.matches (c.in_ok-accepts_itself.ensures.right rest) in
    λ rest. wrong_now _ l.keyword-index c.args.keywords.now _ (l.invariant.left rest) k _ c.loop-keyword-test.true c.keyword-item.is (told rest) (ap is_fine c.in-Wrong.is)

pub returns-clause-right : goal.returns-clause-right
returns-clause-right g c =
    let l = c.loop-keyword in
    let past : length c.args.keywords.now ≤ l.keyword-index = omega arith in
    λ rest. l.invariant.fine ∙ right_all _ l.keyword-index c.args.keywords.now _ (l.invariant.left rest) past

pub returns-clause-settled : goal.returns-clause-settled
returns-clause-settled g c =
    let l = c.loop-keyword in
    let past : length c.args.keywords.now ≤ l.keyword-index = omega arith in
    λ rest. settled_all _ l.keyword-index c.args.keywords.now past (l.invariant.settled rest)
