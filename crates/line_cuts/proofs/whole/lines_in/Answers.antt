use Rattle.std.proofs.Common.{◌∙◌, ◌++◌, ◌∷◌, [], map, ap, sym}
use Rattle.std.proofs.lemmas.List.{map-append}
use Rattle.line_cuts.specs.Cuts.{lines_of}
use Rattle.line_cuts.proofs.AtHand.{lines_more}
use Rattle.line_cuts.proofs.whole.lines_in.Goals as goal

pub loop-line-preserved : goal.loop-line-preserved
loop-line-preserved c =
    let lines = c.loop-line.lines.items in
    let line = c.in-Some.line in
    let after = c.in-Some.after.now in
    lines_more (lines_of c.args.bytes.now) (map (λ s. s.now) lines) c.loop-line.rest.now line.now after c.loop-line.invariant c.in-Some.ensures.cut
    ∙ ap (λ l. l ++ lines_of after) (sym (ap (map (λ s. s.now)) c.in_ok-push.ensures.items ∙ map-append (λ s. s.now) lines (line ∷ [])))
