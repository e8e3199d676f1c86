use Rattle.std.proofs.Common.{refl}
use Rattle.std.proofs.lemmas.Result.{IfOk-weaker, IfErr-weaker}
use Rattle.serde_json.specs.View.{view}
use Rattle.plain_reader.proofs.SiteVerdicts.{site_accepts}
use Rattle.plain_reader.proofs.ReturnLemmas.{stops_by}
use Rattle.plain_reader.proofs.KeywordReturns.{of_site}
use Rattle.plain_reader.proofs.site.accepts_site.Goals as goal

pub returns-clause-accepts : goal.returns-clause-accepts
returns-clause-accepts c =
    IfOk-weaker c.accepts_alone.result _ _
    (λ b h. site_accepts c.args.site.now (view c.args.value.now) _ b c.new-instance.ensures c.requires.shallow h)
    c.accepts_alone.ensures.accepts

pub returns-clause-stops : goal.returns-clause-stops
returns-clause-stops c =
    IfErr-weaker c.accepts_alone.result _ _ (λ e h. stops_by _ _ (λ back. of_site c.args.site.now (view c.args.value.now) _ _ c.new-instance.ensures refl back) e h) c.accepts_alone.ensures.stops
