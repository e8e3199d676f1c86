use Rattle.std.proofs.Common.{IfSome, ap, subst}
use Rattle.serde_json.specs.View.{view}
use Rattle.reached_sites.specs.Passed.{target_in}
use Rattle.schema_validators.specs.Asked.{IsAsked}
use Rattle.schema_validators.proofs.Telling.{told_unasked, told_there, unread_there}
use Rattle.schema_validators.proofs.meta_faults.tell_by_meta_schema.Goals as goal

pub returns-clause-told : goal.returns-clause-told
returns-clause-told g c =
    let p = c.args.parent.now in
    let t = target_in c.args.root.now in
    let asked = subst (λ o. IfSome o (IsAsked p t)) c.in-Some.is c.in_ok-uri.ensures.asked in
    told_there (g.P.PatternMaker.patterns c.args.maker.now) c.args.node_limit p t c.in-Some.uri c.as_str.result.now (view c.contents.result.now) asked c.as_str.ensures.value (ap (λ b. view b.now) c.contents.ensures)
    c.tell_at.result c.tell_at.ensures.told

pub returns-clause-refused : goal.returns-clause-refused
returns-clause-refused g c =
    let p = c.args.parent.now in
    let t = target_in c.args.root.now in
    let asked = subst (λ o. IfSome o (IsAsked p t)) c.in-Some.is c.in_ok-uri.ensures.asked in
    unread_there (g.P.PatternMaker.patterns c.args.maker.now) c.args.node_limit p t c.in-Some.uri c.as_str.result.now (view c.contents.result.now) asked c.as_str.ensures.value (ap (λ b. view b.now) c.contents.ensures)
    c.tell_at.result c.tell_at.ensures.refused

pub returns-in_default-clause-told : goal.returns-in_default-clause-told
returns-in_default-clause-told g c =
    told_unasked (g.P.PatternMaker.patterns c.args.maker.now) c.args.node_limit c.args.parent.now (target_in c.args.root.now) c.new.result.items (c.in_ok-uri.ensures.not_asked c.in_default.is) c.new.ensures.items
