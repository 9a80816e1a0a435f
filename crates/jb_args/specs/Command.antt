-- Which of all commands a list of words asks for, by what clap finds in it.
use Rattle.std.specs.Prelude.{ℕ, Bool, List, Option, codes, if◌then◌else◌, option_and_then, option_map}
use Rattle.std.specs.Str.{bytes_eq}
use Rattle.clap.specs.Words.{Row, Text, first_of, subcommand_of}
use Rattle.jb_args.specs.App.{jb_app}
use Rattle.jb_args.specs.PlainCommand.{Asked, asked, asks, extents_asked, file_in, flag_in, image_in, journal_asked}
use Rattle.jb_args.specs.PlainCommand.{number_in}
use Rattle.jb_args.specs.declared.command.LoadWords.{LoadWords}
use Rattle.jb_args.specs.declared.command.CommandLine.{CommandLine}
use Rattle.jb_args.specs.declared.command.CommandLine.TheVariants.{Completions, Load, Plain}

-- the words and options of `load` as they were given
pub record Loading : Type 0 where
  pub image : Text
  pub file : Text
  pub journal : Option Text
  pub extents : Option Text
  pub threads : ℕ
  pub hold : Bool
  pub stamp : ℕ
  pub checkpoint : Bool

-- a command of the program with its words: one without threads, a load, or the completions of a shell
pub data Wanted : Type 0 where
  WantsPlain : Asked → Wanted
  WantsLoad : Loading → Wanted
  WantsCompletions : Text → Wanted

-- what a value of the program's own words of a load says
abbrev pub load_said : LoadWords → Loading
load_said l =
    record {
      image = l.image.now;
      file = l.file.now;
      journal = option_map (λ word. word.now) l.journal;
      extents = option_map (λ word. word.now) l.extents;
      threads = l.threads;
      hold = l.hold;
      stamp = l.stamp;
      checkpoint = l.checkpoint;
    }

-- what a value of the program's own type asks for
abbrev pub wants : CommandLine → Wanted
wants (Plain plain) = WantsPlain (asks plain)
wants (Load load) = WantsLoad (load_said load)
wants (Completions shell) = WantsCompletions shell.now

-- `load IMAGE FILE ..`
abbrev pub load_in : List Row → Option Loading
load_in rows =
    option_and_then (λ image.
    option_and_then (λ file. option_and_then (λ threads. option_and_then (λ hold. option_and_then (λ stamp.
    option_map (λ checkpoint.
    record {
      image = image;
      file = file;
      journal = journal_asked rows;
      extents = extents_asked rows;
      threads = threads;
      hold = hold;
      stamp = stamp;
      checkpoint = checkpoint;
    })
    (flag_in (codes "checkpoint") rows)) (number_in (codes "stamp") rows))
    (flag_in (codes "hold") rows)) (number_in (codes "threads") rows)) (file_in rows)) (image_in rows)

-- the command of this name, with the words that are under the names of its arguments
abbrev pub wanted : Text → List Row → Option Wanted
wanted name rows =
    if bytes_eq name (codes "load") then option_map (λ load. WantsLoad load) (load_in rows)
    else if bytes_eq name (codes "completions")
    then option_map (λ shell. WantsCompletions shell) (first_of (codes "SHELL") rows)
    else option_map (λ asked. WantsPlain asked) (asked name rows)

-- the command that a parse found
abbrev pub wanted_of : Option (Text × List Row) → Option Wanted
wanted_of found = option_and_then (λ (p : Text × List Row). wanted p.0 p.1) found

-- the command that clap finds in the words
abbrev pub wanted_in : List Text → Option Wanted
wanted_in words = wanted_of (subcommand_of jb_app words)
