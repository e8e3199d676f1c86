use Rattle.std.proofs.Common.{◌≡◌, List, ℕ, None, sym, subst, string_bytes, refl}
use Rattle.serde_json.specs.View.{view, members_view}
use Rattle.schema_patterns.specs.Tables.{texts_of_table}
use Rattle.reached_sites.specs.Patterns.{Holds}
use Rattle.reached_sites.proofs.Filling.{holds-itself, holds-too, same-front, further-front}
use Rattle.reached_sites.proofs.Walking.{own_of, row_here}
use Rattle.reached_sites.specs.Visits.{site_of}
use Rattle.compiled_graphs.specs.Read.{RowRead, written_at}
use Rattle.compiled_graphs.proofs.Found.{Going, AreWritten, going-begins, going-goes, going-ends, written-begins, written-goes, written-ends}
use Rattle.compiled_graphs.proofs.reading.read_members.Goals as goal

pub loop-name-init : goal.loop-name-init
loop-name-init g c =
    let v = c.args.visit.now in
    let makes = (g.P.PatternMaker.patterns c.args.maker.now).makes in
    let all = members_view c.args.members.now.entries in
    let table = c.args.table.now in
    let same : c.args.members.now.entries ≡ c.into_iter-name-iterator.result = cc in
    record {
      going = λ f. subst (λ es. Going v makes all (members_view es) c.args.found.now c.args.found.now None) same (going-begins v makes all c.args.found.now);
      filled = λ f. f;
      kept = holds-itself table;
      grows = same-front (texts_of_table table) (texts_of_table table) refl;
      written = subst (λ es. AreWritten v all (members_view es) None table) same (written-begins v all table);
      counts = λ h. h;
    }

pub loop-name-preserved : goal.loop-name-preserved
loop-name-preserved g c =
    let v = c.args.visit.now in
    let maker = c.args.maker.now in
    let makes = (g.P.PatternMaker.patterns maker).makes in
    let all = members_view c.args.members.now.entries in
    let k = string_bytes c.in-Some.name.now in
    let d = view c.in-Some.value.now in
    let known = c.loop-name.invariant in
    let rest = members_view c.next.new.self in
    let old = c.args.found.now in
    let now = c.loop-name.found in
    let next = c.push_member.new.found in
    let table = c.loop-name.table in
    let larger = c.push_member.new.table in
    let a = c.loop-name.cause in
    let b = c.in_ok-wrong.wrong in
    let same : c.as_str-name.result.now ≡ k = c.as_str-name.ensures.value in
    let kept = c.in_ok-wrong.ensures.kept in
    let one = sym c.first_cause-cause.ensures in
    record {
      going = λ f.
          let read = subst (λ (n : List ℕ). RowRead (own_of v) (site_of v) (row_here v makes all n d) now next b) same (c.in_ok-wrong.ensures.read (known.filled f)) in
          subst (λ x. Going v makes all rest old next x) one
          (going-goes v makes all k d rest old now next a b (subst (λ es. Going v makes all (members_view es) old now a) c.in-Some.ensures.steps (known.going f)) read);
      filled = λ f. c.in_ok-wrong.ensures.filled (known.filled f);
      kept = holds-too table larger (texts_of_table c.args.table.now) known.kept kept;
      grows = further-front known.grows c.in_ok-wrong.ensures.grows;
      written =
          subst (λ x. AreWritten v all rest x larger) one
          (written-goes v all k d rest a b table larger kept (λ t. subst (λ (n : List ℕ). Holds larger (written_at (site_of v).dialect all n d)) same (c.in_ok-wrong.ensures.written t))
          (subst (λ es. AreWritten v all (members_view es) a table) c.in-Some.ensures.steps known.written));
      counts = λ h. c.in_ok-wrong.ensures.counts (known.counts h);
    }

pub returns-clause-read : goal.returns-clause-read
returns-clause-read g c = λ f.
    let v = c.args.visit.now in
    let makes = (g.P.PatternMaker.patterns c.args.maker.now).makes in
    let all = members_view c.args.members.now.entries in
    let now = c.loop-name.found in
    let o = c.loop-name.cause in
    going-ends v makes all c.args.found.now now o (subst (λ es. Going v makes all (members_view es) c.args.found.now now o) c.in-None.ensures.steps.0 (c.loop-name.invariant.going f))

pub returns-clause-filled : goal.returns-clause-filled
returns-clause-filled g c = c.loop-name.invariant.filled

pub returns-clause-kept : goal.returns-clause-kept
returns-clause-kept g c = c.loop-name.invariant.kept

pub returns-clause-grows : goal.returns-clause-grows
returns-clause-grows g c = c.loop-name.invariant.grows

pub returns-clause-written : goal.returns-clause-written
returns-clause-written g c = λ t.
    let v = c.args.visit.now in
    let all = members_view c.args.members.now.entries in
    let o = c.loop-name.cause in
    written-ends v all o c.loop-name.table (subst (λ es. AreWritten v all (members_view es) o c.loop-name.table) c.in-None.ensures.steps.0 c.loop-name.invariant.written) t

pub returns-clause-counts : goal.returns-clause-counts
returns-clause-counts g c = c.loop-name.invariant.counts
