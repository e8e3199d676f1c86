use Rattle.std.proofs.Common.{◌≡◌, ◌∙◌, ap, sym, subst, refl, true}
use Rattle.std.proofs.lemmas.Result.{err_from_is_err_and}
use Rattle.clap.specs.Words.{App, is_simple, is_simple_and_free, matches_of, takes, fault_of, kind_of}
use Rattle.clap.specs.Kinds.{HasKind}
use Rattle.clap.specs.Walk.{texts}
use Rattle.program_inputs.specs.Program.{program_app}
use Rattle.program_inputs.specs.Read.{HasWordsOf}
use Rattle.program_inputs.proofs.words.ProgramWords.read.Goals as goal

pub returns-clause-ok : goal.returns-clause-ok
returns-clause-ok c =
    let app = c.in_ok-program_command.ensures.app in
    let rows = c.in_ok-matches.ensures.matches (ap is_simple app ∙ refl) in
    subst (λ rs. HasWordsOf rs c.in_ok-of_matches.field-0) (rows.0 ∙ ap (λ (a : App). matches_of a (texts c.args.words.now)) app) c.in_ok-of_matches.ensures

pub returns-in_err-matches-clause-accepted : goal.returns-in_err-matches-clause-accepted
returns-in_err-matches-clause-accepted c =
    let passes = c.in_err-matches.ensures.passes in
    let got = err_from_is_err_and c.from_residual-in_err-matches.result c.from_residual-in_err-matches.ensures.1 in
    rw got.1 (λ (t : takes program_app (texts c.args.words.now) ≡ true). ap kind_of got.2
    ∙ passes (ap (λ (a : App). takes a (texts c.args.words.now)) c.in_ok-program_command.ensures.app ∙ t))

pub returns-clause-kinds : goal.returns-clause-kinds
returns-clause-kinds c =
    sym (ap (λ (a : App). fault_of a (texts c.args.words.now)) c.in_ok-program_command.ensures.app)
    ∙ c.in_ok-matches.ensures.kinds (ap is_simple_and_free c.in_ok-program_command.ensures.app ∙ refl)

pub returns-in_err-matches-clause-kinds : goal.returns-in_err-matches-clause-kinds
returns-in_err-matches-clause-kinds c =
    let app = c.in_ok-program_command.ensures.app in
    let got = err_from_is_err_and c.from_residual-in_err-matches.result c.from_residual-in_err-matches.ensures.1 in
    let words = texts c.args.words.now in
    rw got.1 (subst (HasKind (fault_of program_app words)) (sym got.2)
    (subst (λ (a : App). HasKind (fault_of a words) c.in_err-matches.field-0.0) app (c.in_err-matches.ensures.kinds (ap is_simple_and_free app ∙ refl))))
