use Rattle.std.proofs.Common.{map, subst}
use Rattle.std.proofs.lemmas.Result.{on_ok_weaker}
use Rattle.schema_meaning.specs.Keywords.{each_dependency}
use Rattle.schema_meaning.specs.Questions.{each_branch, each_declared, each_matching, each_triggered, item_by_item, items_of}
use Rattle.schema_engine.specs.Matches.{completed}
use Rattle.schema_engine.specs.Places.{value_at}
use Rattle.compiled_keywords.specs.Forms.{alone, index_at, name_at}
use Rattle.compiled_keywords.specs.Owned.{named, by_pattern, depending}
use Rattle.compiled_keywords.specs.Seen.{Puts}
use Rattle.compiled_keywords.proofs.PushLemmas.{as_asked}
use Rattle.compiled_keywords.proofs.keyword.push_asked.Goals as goal

pub returns-in-ItemsFrom-clause-put : goal.returns-in-ItemsFrom-clause-put
returns-in-ItemsFrom-clause-put g c =
    let reads = completed (g.T.Matching.matches c.args.matching.now) in
    let d = value_at c.args.place in
    on_ok_weaker c.push_items.result (λ puts rest k. as_asked (reads rest) k d _ _ _ _ c.in-ItemsFrom.is (puts k)) c.push_items.ensures

pub returns-in-ItemByItem-clause-put : goal.returns-in-ItemByItem-clause-put
returns-in-ItemByItem-clause-put g c =
    let reads = completed (g.T.Matching.matches c.args.matching.now) in
    let d = value_at c.args.place in
    on_ok_weaker c.push_item_list.result (λ puts rest k. as_asked (reads rest) k d _ _ _ _ c.in-ItemByItem.is (subst (λ ns. Puts (index_at k) c.args.into.now.items c.push_item_list.new.into.items (map alone (item_by_item k ns 0 (items_of d)))) c.deref.ensures.value (puts k))) c.push_item_list.ensures

pub returns-in-DeclaredMembers-clause-put : goal.returns-in-DeclaredMembers-clause-put
returns-in-DeclaredMembers-clause-put g c =
    let reads = completed (g.T.Matching.matches c.args.matching.now) in
    let d = value_at c.args.place in
    on_ok_weaker c.push_declared.result (λ puts rest k. as_asked (reads rest) k d _ _ _ _ c.in-DeclaredMembers.is (subst (λ ns. Puts (name_at k (map named ns)) c.args.into.now.items c.push_declared.new.into.items (map alone (each_declared k d (map named ns)))) c.deref-in-DeclaredMembers.ensures.value (puts k))) c.push_declared.ensures

pub returns-in-MatchingMembers-clause-put : goal.returns-in-MatchingMembers-clause-put
returns-in-MatchingMembers-clause-put g c =
    let reads = completed (g.T.Matching.matches c.args.matching.now) in
    let d = value_at c.args.place in
    on_ok_weaker c.push_matching.result (λ puts rest k. as_asked (reads rest) k d _ _ _ _ c.in-MatchingMembers.is (subst (λ ns. Puts (name_at k (map by_pattern ns)) c.args.into.now.items c.push_matching.new.into.items (map alone (each_matching (reads rest) k d (map by_pattern ns)))) c.deref-in-MatchingMembers.ensures.value (puts rest k))) c.push_matching.ensures.put

pub returns-in-OtherMembers-clause-put : goal.returns-in-OtherMembers-clause-put
returns-in-OtherMembers-clause-put g c =
    let reads = completed (g.T.Matching.matches c.args.matching.now) in
    let d = value_at c.args.place in
    on_ok_weaker c.push_others.result (λ puts rest k. as_asked (reads rest) k d _ _ _ _ c.in-OtherMembers.is (puts rest k)) c.push_others.ensures.put

pub returns-in-Members-clause-put : goal.returns-in-Members-clause-put
returns-in-Members-clause-put g c =
    let reads = completed (g.T.Matching.matches c.args.matching.now) in
    let d = value_at c.args.place in
    on_ok_weaker c.push_members.result (λ puts rest k. as_asked (reads rest) k d _ _ _ _ c.in-Members.is (puts k)) c.push_members.ensures

pub returns-in-Names-clause-put : goal.returns-in-Names-clause-put
returns-in-Names-clause-put g c =
    let reads = completed (g.T.Matching.matches c.args.matching.now) in
    let d = value_at c.args.place in
    on_ok_weaker c.push_names.result (λ puts rest k. as_asked (reads rest) k d _ _ _ _ c.in-Names.is (puts k)) c.push_names.ensures

pub returns-in-Triggered-clause-put : goal.returns-in-Triggered-clause-put
returns-in-Triggered-clause-put g c =
    let reads = completed (g.T.Matching.matches c.args.matching.now) in
    let d = value_at c.args.place in
    on_ok_weaker c.push_triggered.result (λ puts rest k. as_asked (reads rest) k d _ _ _ _ c.in-Triggered.is (subst (λ ns. Puts (name_at k (map named ns)) c.args.into.now.items c.push_triggered.new.into.items (map alone (each_triggered k d (map named ns)))) c.deref-in-Triggered.ensures.value (puts k))) c.push_triggered.ensures

pub returns-in-Dependencies-clause-put : goal.returns-in-Dependencies-clause-put
returns-in-Dependencies-clause-put g c =
    let reads = completed (g.T.Matching.matches c.args.matching.now) in
    let d = value_at c.args.place in
    on_ok_weaker c.push_dependencies.result (λ puts rest k. as_asked (reads rest) k d _ _ _ _ c.in-Dependencies.is (subst (λ es. Puts (name_at k (map depending es)) c.args.into.now.items c.push_dependencies.new.into.items (map alone (each_dependency k d (map depending es)))) c.deref-in-Dependencies.ensures.value (puts k))) c.push_dependencies.ensures

pub returns-in-Branches-clause-put : goal.returns-in-Branches-clause-put
returns-in-Branches-clause-put g c =
    let reads = completed (g.T.Matching.matches c.args.matching.now) in
    let d = value_at c.args.place in
    on_ok_weaker c.push_branches.result (λ puts rest k. as_asked (reads rest) k d _ _ _ _ c.in-Branches.is (subst (λ ns. Puts (index_at k) c.args.into.now.items c.push_branches.new.into.items (map alone (each_branch k 0 ns))) c.deref-in-Branches.ensures.value (puts k))) c.push_branches.ensures

pub returns-in-Value-clause-put : goal.returns-in-Value-clause-put
returns-in-Value-clause-put g c =
    let reads = completed (g.T.Matching.matches c.args.matching.now) in
    let d = value_at c.args.place in
    on_ok_weaker c.push_here.result (λ puts rest k. as_asked (reads rest) k d _ _ _ _ c.in-Value.is (puts k)) c.push_here.ensures.whole

pub returns-in-Condition-clause-put : goal.returns-in-Condition-clause-put
returns-in-Condition-clause-put g c =
    let reads = completed (g.T.Matching.matches c.args.matching.now) in
    let d = value_at c.args.place in
    on_ok_weaker c.push_condition.result (λ puts rest k. as_asked (reads rest) k d _ _ _ _ c.in-Condition.is (puts k)) c.push_condition.ensures
