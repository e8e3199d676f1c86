-- The program's command line, as clap defines what a command line is.
use Rattle.std.specs.Prelude.{◌≡◌, [], true, false, Some, codes, is_some}
use Rattle.clap.specs.Lexer.{usize_max}
use Rattle.clap.specs.Built.{IsParsedFrom}
use Rattle.clap.specs.Facts.{args_of, groups_of}
use Rattle.clap.specs.Words.{App, Rule, new_app, new_rule, with_rule, first_value, found_of}
use Rattle.clap.specs.Simple.{on_top}
use Rattle.clap.specs.declared.builder.action.ArgAction.TheVariants.{Set, Append, SetTrue}
use Rattle.clap.specs.declared.builder.command.Command.{Command}
use Rattle.clap.specs.declared.builder.command.Command.TheViews.{out-Command}
use Rattle.clap.specs.declared.parser.matches.ArgMatches.{ArgMatches}

-- `SCHEMA`
abbrev pub schema_rule : Rule
schema_rule = record (new_rule (codes "schema")) { value_names = 1; required = true; action = Some Set }

-- `[URI=FILE]...`
abbrev pub files_rule : Rule
files_rule = record (new_rule (codes "files")) {
  value_names = 1;
  range = Some (record { start_inclusive = 1; end_inclusive = usize_max });
  action = Some Append;
}

-- `--base URI`
abbrev pub base_rule : Rule
base_rule = record (new_rule (codes "base")) { long = Some (codes "base"); value_names = 1; action = Some Set }

-- `--draft DRAFT`
abbrev pub draft_rule : Rule
draft_rule = record (new_rule (codes "draft")) { long = Some (codes "draft"); value_names = 1; action = Some Set }

-- `--meta FILE`
abbrev pub meta_rule : Rule
meta_rule = record (new_rule (codes "meta")) { long = Some (codes "meta"); value_names = 1; action = Some Set }

-- `--ref-siblings`
abbrev pub siblings_rule : Rule
siblings_rule = record (new_rule (codes "ref-siblings")) { long = Some (codes "ref-siblings"); action = Some SetTrue }

-- `--output FORM`
abbrev pub output_rule : Rule
output_rule = record (new_rule (codes "output")) { long = Some (codes "output"); value_names = 1; action = Some Set }

-- `--instance FILE`, again and again
abbrev pub instance_rule : Rule
instance_rule = record (new_rule (codes "instance")) { long = Some (codes "instance"); value_names = 1; action = Some Append }

-- `--check FILE`
abbrev pub check_rule : Rule
check_rule = record (new_rule (codes "check")) { long = Some (codes "check"); value_names = 1; action = Some Set }

-- no name of the program among the words, and a version
abbrev pub bare_app : App
bare_app = on_top (λ s. record s { no_binary_name = true; has_version = true }) (new_app (codes "cribhemlock"))

-- neither arguments nor groups, and nothing that subcommands share
pub record IsEmpty (c : Command) : Type 0 where
  pub args : args_of c ≡ []
  pub groups : groups_of c ≡ []
  pub globals : (out-Command c).has_globals ≡ false
  pub negates : (out-Command c).subcommand_negates_reqs ≡ false

-- with the nine arguments
abbrev pub program_app : App
program_app = with_rule (with_rule (with_rule (with_rule (with_rule (with_rule (with_rule (with_rule (with_rule bare_app schema_rule) files_rule) base_rule)
    draft_rule) meta_rule) siblings_rule) output_rule) instance_rule) check_rule

-- each parse of the command that succeeds has a schema
abbrev pub HasSchema : Command → Type 0
HasSchema c = (m : ArgMatches) → IsParsedFrom c m → is_some (first_value (found_of m) (codes "schema")) ≡ true
