use Rattle.std.proofs.Common.{drop, subst}
use Rattle.std.proofs.lemmas.Result.{on_ok_weaker}
use Rattle.schema_engine.specs.Places.{value_at}
use Rattle.compiled_keywords.specs.Forms.{form_of}
use Rattle.compiled_keywords.specs.Named.{LeaveOthers}
use Rattle.compiled_keywords.specs.declared.asks.Asks.{Asks}
use Rattle.compiled_keywords.proofs.NamedLemmas.{only_others}
use Rattle.compiled_keywords.proofs.PushLemmas.{as_asked}
use Rattle.compiled_keywords.proofs.keyword.push_left.Goals as goal

pub returns-in-OtherMembers : goal.returns-in-OtherMembers
returns-in-OtherMembers c =
    let d = value_at c.args.place in
    on_ok_weaker c.push_beside.result
    (λ puts m k so. as_asked m k d _ _ _ _ c.in-OtherMembers.is (puts m k (subst (λ (a : Asks). LeaveOthers m (form_of a) d (drop c.args.start c.args.into.now.items)) c.in-OtherMembers.is so)))
    c.push_beside.ensures

pub returns-in_default : goal.returns-in_default
returns-in_default c m k so = absurd (only_others m (value_at c.args.place) c.args.asks.now (drop c.args.start c.args.into.now.items) c.in_default.not-OtherMembers so)
