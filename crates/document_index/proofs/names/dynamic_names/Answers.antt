use Rattle.std.proofs.Common.{◌≡◌, ◌∙◌, ◌++◌, ◌∷◌, ◌+◌, ◌||◌, [], map, take, string_bytes, bytes_eq, true, false, ap, sym, option_map}
use Rattle.std.specs.BTreeSet.{contains_text}
use Rattle.std.proofs.lemmas.List.{take_more, take_all, map-append}
use Rattle.schema_definitions.specs.Words.{has_text, listed}
use Rattle.schema_definitions.specs.CompileKeys.{names_at}
use Rattle.document_index.specs.Seen.{standing_of}
use Rattle.document_index.specs.Indexes.{dynamic_names_among}
use Rattle.document_index.proofs.NameLemmas.{no_name, old_name, new_name, among_more}
use Rattle.document_index.proofs.names.dynamic_names.Goals.{in-Some+then-not-contains+in_ok-note+in_ok-from_str+in_ok-push, in-Some+else-not-contains, in_default}
use Rattle.document_index.proofs.names.dynamic_names.Goals as goal

pub loop-standing-preserved : goal.loop-standing-preserved
loop-standing-preserved c =
    let i = c.loop-standing.standing-index in
    let xs = c.args.standings.now in
    let s = c.standing-item.result in
    let ss = map standing_of (take i xs) in
    let held = map string_bytes c.loop-standing.names.items in
    let old = c.loop-standing.invariant in
    let more : map standing_of (take (i + 1) xs) ≡ ss ++ standing_of s ∷ [] =
    ap (map standing_of) (take_more xs i s c.loop-standing-test.true ∙ ap (λ x. take i xs ++ x ∷ []) (sym c.standing-item.is)) ∙ map-append standing_of (take i xs) (s ∷ []) in
    elim c.match-dynamic_anchor.branch [
      | in-Some+then-not-contains+in_ok-note+in_ok-from_str+in_ok-push w ↦
          let u = w.in-Some.name.now in
          let named : names_at (standing_of s) ≡ u ∷ [] = sym c.dynamic_anchor.ensures ∙ ap (λ o. listed (option_map (λ t. t.now) o)) w.in-Some.is in
          let new : has_text u (dynamic_names_among ss) ≡ false = sym (ap (has_text u) old.names) ∙ sym (old.seen u) ∙ sym w.contains.ensures ∙ w.if-not-contains.true in
          let added : map string_bytes c.match-dynamic_anchor.names.items ≡ held ++ u ∷ [] =
          ap (λ v. map string_bytes v.items) w.names-is
          ∙ ap (map string_bytes) w.in_ok-push.ensures.items
          ∙ map-append string_bytes c.loop-standing.names.items (w.in_ok-from_str.field-0 ∷ [])
          ∙ ap (λ t. held ++ t ∷ []) w.in_ok-from_str.ensures.ok in
          record {
            seen = λ q. ap (λ v. contains_text v q) w.seen-is ∙ w.in_ok-note.ensures q ∙ ap (λ b. bytes_eq q u || b) (old.seen q) ∙ sym (among_more q u held) ∙ sym (ap (has_text q) added);
            names = added ∙ ap (λ ns. ns ++ u ∷ []) old.names ∙ sym (new_name ss (standing_of s) u named new) ∙ sym (ap dynamic_names_among more);
          }
      | in-Some+else-not-contains w ↦
          let u = w.in-Some.name.now in
          let named : names_at (standing_of s) ≡ u ∷ [] = sym c.dynamic_anchor.ensures ∙ ap (λ o. listed (option_map (λ t. t.now) o)) w.in-Some.is in
          let there : has_text u (dynamic_names_among ss) ≡ true = sym (ap (has_text u) old.names) ∙ sym (old.seen u) ∙ sym w.contains.ensures ∙ w.if-not-contains.false in
          record {
            seen = λ q. ap (λ v. contains_text v q) w.seen-is ∙ old.seen q ∙ ap (λ v. has_text q (map string_bytes v.items)) (sym w.names-is);
            names = ap (λ v. map string_bytes v.items) w.names-is ∙ old.names ∙ sym (old_name ss (standing_of s) u named there) ∙ sym (ap dynamic_names_among more);
          }
      | in_default w ↦
          let named : names_at (standing_of s) ≡ [] = sym c.dynamic_anchor.ensures ∙ ap (λ o. listed (option_map (λ t. t.now) o)) w.in_default.is in
          record {
            seen = λ q. ap (λ v. contains_text v q) w.seen-is ∙ old.seen q ∙ ap (λ v. has_text q (map string_bytes v.items)) (sym w.names-is);
            names = ap (λ v. map string_bytes v.items) w.names-is ∙ old.names ∙ sym (no_name ss (standing_of s) named) ∙ sym (ap dynamic_names_among more);
          }
    ]

pub returns : goal.returns
returns c =
    c.loop-standing.invariant.names
    ∙ ap (λ l. dynamic_names_among (map standing_of l)) (take_all c.loop-standing.standing-index c.args.standings.now c.loop-standing-test.false)
