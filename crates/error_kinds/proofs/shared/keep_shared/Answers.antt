use Rattle.std.proofs.Common.{◌≡◌, rules, subst, sym, ap, ◌∙◌}
use Rattle.std.proofs.lemmas.Fn.{filter_same}
use Rattle.std.specs.List.{filter}
use Rattle.schema_meaning.specs.Faults.{Told}
use Rattle.schema_reports.specs.Told.{faults_of, are_proper}
use Rattle.error_kinds.proofs.SharedLemmas.{is_among, kept_told, kept_proper, shared_told, told_shared}
use Rattle.error_kinds.proofs.shared.keep_shared.Goals as goal

filtered : (c : goal.After-retain) → c.retain.new.self.items ≡ filter (is_among c.args.others.now) c.args.kept.now.items
filtered c = filter_same _ (is_among c.args.others.now) _ (λ x b f' k. search rules) _ _ c.retain.ensures.filtered

pub returns-clause-kept : goal.returns-clause-kept
returns-clause-kept c f t = kept_told (is_among c.args.others.now) c.args.kept.now.items f (subst (λ es. Told f (faults_of es)) (filtered c) t)

pub returns-clause-shared : goal.returns-clause-shared
returns-clause-shared c f t = shared_told c.args.others.now c.args.kept.now.items f (subst (λ es. Told f (faults_of es)) (filtered c) t)

pub returns-clause-all : goal.returns-clause-all
returns-clause-all c f whole here there = subst (λ es. Told f (faults_of es)) (sym (filtered c)) (told_shared c.args.others.now c.args.kept.now.items f whole here there)

pub returns-clause-proper : goal.returns-clause-proper
returns-clause-proper c h = ap are_proper (filtered c) ∙ kept_proper (is_among c.args.others.now) c.args.kept.now.items h
