-- What clap finds amiss in the words, as kinds of its errors; asking for help or the version counts among them.
use Rattle.std.specs.Prelude.{List}
use Rattle.clap.specs.Faults.{fault_of}
use Rattle.clap.specs.Words.{Text}
pub use Rattle.clap.specs.Kinds.{HasKind, Kinds}
pub use Rattle.clap.specs.Values.{kind_of}
use Rattle.jb_args.specs.App.{jb_app}

-- the kinds of the first fault; none where clap takes the words
abbrev pub fault_kinds : List Text → Kinds
fault_kinds words = fault_of jb_app words
