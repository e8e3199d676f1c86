use Rattle.std.proofs.Common.{IfSome, subst}
use Rattle.reached_sites.specs.Passed.{target_in}
use Rattle.schema_validators.specs.Asked.{IsAsked}
use Rattle.schema_validators.proofs.Asking.{met_there, met_unasked, refused_there}
use Rattle.schema_validators.proofs.meta_schema.ask_meta_schema.Goals as goal

pub returns-clause-accepted : goal.returns-clause-accepted
returns-clause-accepted g c =
    let by = g.P.PatternMaker.patterns c.args.maker.now in
    let t = target_in c.args.root.now in
    let asked = subst (λ o. IfSome o (IsAsked c.args.parent.now t)) c.in-Some.is c.in_ok-uri.ensures.asked in
    met_there by c.args.node_limit c.args.parent.now t c.in-Some.uri asked.named c.ask_at.result c.ask_at.ensures.accepted

pub returns-clause-refused : goal.returns-clause-refused
returns-clause-refused g c =
    let by = g.P.PatternMaker.patterns c.args.maker.now in
    let p = c.args.parent.now in
    let t = target_in c.args.root.now in
    let asked = subst (λ o. IfSome o (IsAsked p t)) c.in-Some.is c.in_ok-uri.ensures.asked in
    refused_there by c.args.node_limit p t c.in-Some.uri asked.named c.ask_at.result asked.handed_in
    c.ask_at.ensures.refused c.ask_at.ensures.named

pub returns-in_default-clause-accepted : goal.returns-in_default-clause-accepted
returns-in_default-clause-accepted g c =
    met_unasked c.args.parent.now (target_in c.args.root.now) (g.P.PatternMaker.patterns c.args.maker.now) c.args.node_limit (c.in_ok-uri.ensures.not_asked c.in_default.is)
