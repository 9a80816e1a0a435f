-- The kinds of clap's faults, at the command line of `jb`.
use Rattle.std.proofs.Common.{◌≡◌, List, Result, Ok, Err, IfOk, refl, subst, sym, true}
use Rattle.clap.specs.Faults.{fault_of, is_simple_and_free}
use Rattle.clap.specs.Kinds.{FailsBy}
use Rattle.clap.specs.Simple.{is_simple}
use Rattle.clap.specs.Words.{App, HasMatchesOf, Text, subcommand_of, subcommand_rows_of}
use Rattle.clap.specs.declared.error.Error.{Error}
use Rattle.clap.specs.declared.parser.matches.ArgMatches.{ArgMatches}
use Rattle.clap.proofs.OnLiterals.{clap_on_literals}
use Rattle.jb_args.specs.App.{jb_app}

-- clap's function tells the faults of `jb`'s words exactly
jb-free : is_simple_and_free jb_app ≡ true
unfolding clap_on_literals
jb-free = refl

-- a parse of a command that reads as `jb` fails by the faults of `jb`'s words
pub fails_by : {T : Type 0} (app : App) (words : List Text) (r : Result T Error) → app ≡ jb_app
    → (is_simple_and_free app ≡ true → FailsBy (fault_of app words) r) → FailsBy (fault_of jb_app words) r
fails_by app words r is kinds =
    subst (λ (a : App). (is_simple_and_free a ≡ true → FailsBy (fault_of a words) r) → FailsBy (fault_of jb_app words) r)
    (sym is) (λ fails. fails jb-free) kinds

-- clap's function of the words says what is found in `jb`'s
jb-simple : is_simple jb_app ≡ true
unfolding clap_on_literals
jb-simple = refl

-- what a parse of a command that reads as `jb` finds
pub finds_by : (app : App) (words : List Text) (r : Result ArgMatches Error) → app ≡ jb_app → IfOk r (HasMatchesOf app words)
    → IfOk r (λ m. subcommand_rows_of m ≡ subcommand_of jb_app words)
finds_by app words (Ok m) is has =
    let as_jb : HasMatchesOf jb_app words m = subst (λ (a : App). HasMatchesOf a words m) is has in
    (as_jb jb-simple).1
finds_by app words (Err e) is has = tt
