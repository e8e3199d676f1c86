use Rattle.std.proofs.Common.{◌≡◌, ◌∙◌, ◌++◌, ◌∷◌, [], List, map, option_map, if◌then◌else◌, ap, sym, subst}
use Rattle.std.specs.List.{AllZip}
use Rattle.schema_definitions.specs.Words.{listed}
use Rattle.schema_definitions.specs.Rounds.{wanted_at}
use Rattle.document_index.specs.Seen.{document_of, standing_of}
use Rattle.document_retrieval.specs.Known.{want_of}
use Rattle.schema_validators.specs.Absent.{NamesAbsent, absence, is_known_by}
use Rattle.reached_sites.specs.declared.cause.BuildCause.{BuildCause}
use Rattle.schema_validators.proofs.AbsentLemmas.{one-absent, none-more, one-more}
use Rattle.schema_validators.proofs.absent.push_absent.Goals as goal
use Rattle.schema_validators.proofs.absent.push_absent.Goals.{then-not-is_known+in_ok-cause_at+in_ok-push, else-not-is_known}

pub returns-after-not-is_known : goal.returns-after-not-is_known
returns-after-not-is_known c = λ found told.
    let w = want_of c.in-Some.want in
    let s = standing_of c.args.standing.now in
    let known = is_known_by c.args.index.now (map document_of c.args.documents.now) in
    let met : w ∷ [] ≡ wanted_at s = ap (λ o. listed (option_map want_of o)) (sym c.in-Some.is) ∙ c.in_ok-want.ensures in
    let asked : known w.uri ≡ c.is_known.result = ap known (sym c.deref.ensures) ∙ ap known (sym c.as_str.ensures.value) ∙ sym c.is_known.ensures in
    let old = c.args.causes.now.items in
    subst (λ l. AllZip NamesAbsent (found ++ l) c.if-not-is_known.causes.items) (sym (one-absent known s w met))
    (elim c.if-not-is_known.branch [
      | then-not-is_known+in_ok-cause_at+in_ok-push b ↦
          subst (λ (l : List BuildCause). AllZip NamesAbsent (found ++ (if known w.uri then [] else absence s w ∷ [])) l) (sym (ap (λ v. v.items) b.causes-is ∙ b.in_ok-push.ensures.items))
          (one-more NamesAbsent found old (absence s w) b.in_ok-cause_at.field-0 (known w.uri) (asked ∙ b.if-not-is_known.true) told b.in_ok-cause_at.ensures)
      | else-not-is_known b ↦
          subst (λ (l : List BuildCause). AllZip NamesAbsent (found ++ (if known w.uri then [] else absence s w ∷ [])) l) (sym (ap (λ v. v.items) b.causes-is))
          (none-more NamesAbsent found old (absence s w) (known w.uri) (asked ∙ b.if-not-is_known.false) told)
    ])
