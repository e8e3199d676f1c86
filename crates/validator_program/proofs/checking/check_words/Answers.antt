use Rattle.std.specs.Borrow.{Bor}
use Rattle.std.specs.declared.alloc.Global.{Global}
use Rattle.std.specs.declared.vec.Vec.{Vec}
use Rattle.std.proofs.Common.{ℕ, List, [], inr, subst, refl}
use Rattle.clap.specs.Walk.{texts}
use Rattle.line_cuts.specs.Cuts.{bytes_of}
use Rattle.schema_registries.specs.Roots.{root_on}
use Rattle.answer_checks.specs.Listing.{ChecksGiven, StopsGiven}
use Rattle.validator_program.specs.Built.{patterns_of_regex}
use Rattle.validator_program.specs.Instances.{AreInstances}
use Rattle.validator_program.proofs.ListedFaults.{is_listed}
use Rattle.validator_program.proofs.checking.check_words.Goals as goal

pub returns-in-Ok-clause-ok : goal.returns-in-Ok-clause-ok
returns-in-Ok-clause-ok g c = λ rows has.
    let held = g.F.SchemaFiles.held c.args.files.now in
    let words = c.args.words.now in
    let documents = c.in_ok-documents.documents in
    let listed = c.in_ok-listed.listed.items in
    let instances = bytes_of c.in_ok-texts.texts.items in
    let root = root_on documents.registry [] in
    let remaining = g.S.ByteSource.remaining in
    let contents = g.K.ByteSink.contents in
    let from = remaining c.args.reader.now in
    let before = contents c.args.writer.now in
    record {
      root = root;
      listed = listed;
      instances = instances;
      named =
          is_listed held words c.args.file.now documents.registry.parent root listed instances c.in_ok-_form._form rows has c.in_ok-documents.ensures.prepared c.in_ok-_form.ensures c.in_ok-listed.ensures
          (subst (λ (ns : List (Bor (List ℕ))). AreInstances held (texts ns) instances) c.as_slice.ensures.value c.in_ok-texts.ensures);
      report = c.in-Ok.report;
      checked =
          subst (λ (l : List ℕ). ChecksGiven patterns_of_regex root l instances from (remaining c.check_given.new.reader) before (contents c.check_given.new.writer) c.in-Ok.report) c.as_slice-2.ensures.value
          (subst (λ (ts : List (Vec ℕ Global)). ChecksGiven patterns_of_regex root c.as_slice-2.result.now (bytes_of ts) from (remaining c.check_given.new.reader) before (contents c.check_given.new.writer) c.in-Ok.report)
          c.as_slice-3.ensures.value (c.in-Ok.ensures.ok patterns_of_regex root c.in_ok-checker.ensures));
      is_status = refl;
    }

pub returns-clause-err : goal.returns-clause-err
returns-clause-err g c =
    inr (
      c.of_checks.ensures,
      λ rows has.
          let held = g.F.SchemaFiles.held c.args.files.now in
          let words = c.args.words.now in
          let documents = c.in_ok-documents.documents in
          let listed = c.in_ok-listed.listed.items in
          let instances = bytes_of c.in_ok-texts.texts.items in
          let root = root_on documents.registry [] in
          let remaining = g.S.ByteSource.remaining in
          let contents = g.K.ByteSink.contents in
          let from = remaining c.args.reader.now in
          let before = contents c.args.writer.now in
          let e = c.in-Err.error in
          record {
            root = root;
            listed = listed;
            instances = instances;
            named =
                is_listed held words c.args.file.now documents.registry.parent root listed instances c.in_ok-_form._form rows has c.in_ok-documents.ensures.prepared c.in_ok-_form.ensures c.in_ok-listed.ensures
                (subst (λ (ns : List (Bor (List ℕ))). AreInstances held (texts ns) instances) c.as_slice.ensures.value c.in_ok-texts.ensures);
            error = e;
            stopped =
                subst (λ (l : List ℕ). StopsGiven e patterns_of_regex root l instances from (remaining c.check_given.new.reader) before (contents c.check_given.new.writer)) c.as_slice-2.ensures.value
                (subst (λ (ts : List (Vec ℕ Global)). StopsGiven e patterns_of_regex root c.as_slice-2.result.now (bytes_of ts) from (remaining c.check_given.new.reader) before (contents c.check_given.new.writer))
                c.as_slice-3.ensures.value (c.in-Err.ensures.stops patterns_of_regex root c.in_ok-checker.ensures));
          },
    )
