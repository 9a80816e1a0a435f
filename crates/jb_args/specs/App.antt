-- The command line of `jb`, in the words by which clap's contracts tell what a parse finds.
use Rattle.std.specs.Prelude.{true, codes, [], ◌∷◌, Some}
use Rattle.clap.specs.Words.{App, Rule, Text, new_app, new_rule, with_rule, with_subcommand}
use Rattle.clap.specs.declared.builder.action.ArgAction.TheVariants.{SetTrue}
use Rattle.clap.specs.declared.builder.value_parser.ValueParser.TheVariants.{Unsigned}

-- a word that has to be there
abbrev pub required_word : Text → Rule
required_word name = record (new_rule name) { required = true }

-- a command over one file
abbrev pub file_app : Text → App
file_app name = with_rule (new_app name) (required_word (codes "FILE"))

-- `check FILE CERT`
abbrev pub check_app : App
check_app = with_rule (file_app (codes "check")) (required_word (codes "CERT"))

-- an option with a number that has to fit 64 bits
abbrev pub number_option : Text → Rule
number_option name = record (new_rule name) {
  long = Some name;
  value_names = 1;
  parser = Some (Unsigned 0 18446744073709551615);
}

-- the same, where it has to be there
abbrev pub required_number : Text → Rule
required_number name = record (number_option name) { required = true }

-- the same, with this number where it is left out
abbrev pub number_or : Text → Text → Rule
number_or name number = record (number_option name) { defaults = number ∷ [] }

-- a number that has to be there and fit 64 bits
abbrev pub number_word : Text → Rule
number_word name = record (new_rule name) { parser = Some (Unsigned 0 18446744073709551615); required = true }

-- `-n N`, 1 where it is left out
abbrev pub count_option : Rule
count_option = record (new_rule (codes "n")) {
  short = Some 110;
  value_names = 1;
  defaults = codes "1" ∷ [];
  parser = Some (Unsigned 0 18446744073709551615);
}

-- `--journal FILE`
abbrev pub journal_option : Rule
journal_option = record (new_rule (codes "journal")) { long = Some (codes "journal"); value_names = 1 }

-- `--extents LIST`
abbrev pub extents_option : Rule
extents_option = record (new_rule (codes "extents")) { long = Some (codes "extents"); value_names = 1 }

-- `--uuid HEX`, 32 zeros where it is left out
abbrev pub uuid_option : Rule
uuid_option = record (new_rule (codes "uuid")) {
  long = Some (codes "uuid");
  value_names = 1;
  defaults = codes "00000000000000000000000000000000" ∷ [];
}

-- an option that takes no value
abbrev pub flag : Text → Rule
flag name = record (new_rule name) { long = Some name; action = Some SetTrue }

-- a command over one image
abbrev pub image_app : Text → App
image_app name = with_rule (new_app name) (required_word (codes "IMAGE"))

-- `format IMAGE --bs N --journal N --homes N [--max N] [--uuid HEX] [--wide] [--sparse]`
abbrev pub format_app : App
format_app =
    let image = image_app (codes "format") in
    let sized = with_rule image (required_number (codes "bs")) in
    let parts = with_rule (with_rule sized (required_number (codes "journal"))) (required_number (codes "homes")) in
    let journal = with_rule (with_rule parts (number_or (codes "max") (codes "0"))) uuid_option in
    with_rule (with_rule journal (flag (codes "wide"))) (flag (codes "sparse"))

-- `dump FILE [--home N] [--last N] [--super] [--summary] [--draw] [--journal JOURNAL] [--extents LIST] [--checksums]
-- [--ring]`
abbrev pub dump_app : App
dump_app =
    let numbered =
    with_rule (with_rule (file_app (codes "dump")) (number_option (codes "home"))) (number_option (codes "last")) in
    let chosen = with_rule (with_rule numbered (flag (codes "super"))) (flag (codes "summary")) in
    let drawn = with_rule chosen (flag (codes "draw")) in
    with_rule (with_rule (with_rule (with_rule drawn journal_option) extents_option) (flag (codes "checksums")))
    (flag (codes "ring"))

-- `cat IMAGE HOME [-n N] [--hex] [--journal FILE] [--extents LIST] [--checksums]`
abbrev pub cat_app : App
cat_app =
    let numbered = with_rule (with_rule (image_app (codes "cat")) (number_word (codes "HOME"))) count_option in
    with_rule (with_rule (with_rule (with_rule numbered (flag (codes "hex"))) journal_option) extents_option)
    (flag (codes "checksums"))

-- `recover IMAGE [--extents LIST] [--journal FILE] [--force] [--dry-run] [--list] [--checksums]`
abbrev pub recover_app : App
recover_app =
    let found = with_rule (with_rule (image_app (codes "recover")) extents_option) journal_option in
    with_rule (with_rule (with_rule (with_rule found (flag (codes "force"))) (flag (codes "dry-run")))
    (flag (codes "list"))) (flag (codes "checksums"))

-- `load IMAGE FILE [--journal FILE] [--extents LIST] [--threads N] [--hold] [--stamp SEC] [--checkpoint]`
abbrev pub load_app : App
load_app =
    let files = with_rule (image_app (codes "load")) (required_word (codes "FILE")) in
    let found = with_rule (with_rule files journal_option) extents_option in
    let held = with_rule (with_rule found (number_or (codes "threads") (codes "1"))) (flag (codes "hold")) in
    with_rule (with_rule held (number_or (codes "stamp") (codes "0"))) (flag (codes "checkpoint"))

-- a command over one image, whose journal may be in extents of it
abbrev pub change_app : Text → App
change_app name = with_rule (image_app name) extents_option

-- `completions SHELL`
abbrev pub completions_app : App
completions_app = with_rule (new_app (codes "completions")) (required_word (codes "SHELL"))

-- a topic of the help, which takes no words and is answered by its help
abbrev pub topic_app : Text → App
topic_app name =
    let bare = new_app name in
    record bare { top = record bare.top { arg_required_else_help = true } }

-- `jb`: its words begin with a command, and it has a version
abbrev pub jb_top : App
jb_top =
    let bare = new_app (codes "jb") in
    record bare {
      top = record bare.top {
        no_binary_name = true;
        has_version = true;
        has_long_version = true;
        subcommand_required = true;
      };
    }

-- `jb` with its commands
abbrev pub commands_app : App
commands_app =
    let cost = (file_app (codes "cost")).top in
    let plan = (file_app (codes "plan")).top in
    let over_queues = with_subcommand (with_subcommand (with_subcommand jb_top cost) plan) check_app.top in
    let read = with_subcommand (with_subcommand over_queues dump_app.top) cat_app.top in
    let over_files = with_subcommand read format_app.top in
    let loaded = with_subcommand over_files load_app.top in
    let recovered = with_subcommand loaded recover_app.top in
    let changed =
    with_subcommand (with_subcommand recovered (change_app (codes "renumber")).top) (change_app (codes "widen")).top in
    with_subcommand changed completions_app.top

-- `jb` with its commands and the topics of its help
abbrev pub jb_app : App
jb_app =
    let over_files = with_subcommand commands_app (topic_app (codes "files")).top in
    let over_locks = with_subcommand over_files (topic_app (codes "locks")).top in
    let told = with_subcommand over_locks (topic_app (codes "settings")).top in
    with_subcommand (with_subcommand told (topic_app (codes "statuses")).top) (topic_app (codes "diagnostics")).top
