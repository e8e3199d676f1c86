use Rattle.std.proofs.Common.{◌∙◌, [], codes, sym, ap, refl}
use Rattle.std.specs.Option.{option_map, unwrap_or}
use Rattle.clap.specs.Words.{found_of}
use Rattle.clap.specs.Walk.{texts}
use Rattle.clap.proofs.WalkLemmas.{first_value-rows, raw_values-rows}
use Rattle.program_inputs.specs.Read.{says_true}
use Rattle.program_inputs.proofs.Given.{texts_or_none}
use Rattle.program_inputs.proofs.words.ProgramWords.of_matches.Goals as goal

pub returns : goal.returns
returns c =
    let f = found_of c.args.matches.now in
    record {
      schema = sym (ap (option_map (λ s. s.now)) c.unwrap.ensures) ∙ c.get_str.ensures ∙ first_value-rows f (codes "schema");
      files = ap texts c.in_ok-from_slice.ensures.items ∙ ap (λ s. texts s.now) c.unwrap_or.ensures ∙ texts_or_none c.get_strs.result _ refl
          ∙ ap (λ o. unwrap_or o []) (c.get_strs.ensures ∙ raw_values-rows f (codes "files"));
      base = c.get_str-2.ensures ∙ first_value-rows f (codes "base");
      draft = c.get_str-3.ensures ∙ first_value-rows f (codes "draft");
      meta = c.get_str-4.ensures ∙ first_value-rows f (codes "meta");
      ref_siblings = c.says_true.ensures ∙ ap says_true (c.get_str-5.ensures ∙ first_value-rows f (codes "ref-siblings"));
      output = c.get_str-6.ensures ∙ first_value-rows f (codes "output");
      instances = ap texts c.in_ok-from_slice-2.ensures.items ∙ ap (λ s. texts s.now) c.unwrap_or-2.ensures ∙ texts_or_none c.get_strs-2.result _ refl
          ∙ ap (λ o. unwrap_or o []) (c.get_strs-2.ensures ∙ raw_values-rows f (codes "instance"));
      check = c.get_str-7.ensures ∙ first_value-rows f (codes "check");
    }
