-- Which command without threads a name and its words ask for, by what clap finds.
use Rattle.std.specs.Prelude.{ℕ, Bool, ◌^◌, ◌&&◌, List, length, nat_lt, Option, Some, None, codes, if◌then◌else◌}
use Rattle.std.specs.Prelude.{option_and_then, option_map}
use Rattle.std.specs.Char.{digit_value}
use Rattle.std.specs.List.{list_all}
use Rattle.std.specs.Str.{bytes_eq}
use Rattle.std.specs.Str.Parse.{digits_value, without_leading_plus}
use Rattle.clap.specs.Words.{Row, Text, first_of, one_of}
use Rattle.jb_args.specs.declared.plain.CatOptions.{CatOptions}
use Rattle.jb_args.specs.declared.plain.DumpOptions.{DumpOptions}
use Rattle.jb_args.specs.declared.plain.FormatOptions.{FormatOptions}
use Rattle.jb_args.specs.declared.plain.RecoverOptions.{RecoverOptions}
use Rattle.jb_args.specs.declared.plain.Plain.{Plain}
use Rattle.jb_args.specs.declared.plain.Plain.TheVariants.{Cat, Check, Cost, Dump, Format, Plan, Recover, Renumber}
use Rattle.jb_args.specs.declared.plain.Plain.TheVariants.{Widen}

-- the options of `format` as they were given
pub record GivenOptions : Type 0 where
  pub bs : ℕ
  pub journal : ℕ
  pub homes : ℕ
  pub max : ℕ
  pub uuid : Text
  pub wide : Bool
  pub sparse : Bool

-- the words of `cat` after its image as they were given
pub record CatWords : Type 0 where
  pub home : ℕ
  pub count : ℕ
  pub hex : Bool
  pub journal : Option Text
  pub extents : Option Text
  pub checksums : Bool

-- the options of `dump` as they were given
pub record DumpWords : Type 0 where
  pub home : Option ℕ
  pub last : Option ℕ
  pub superblock : Bool
  pub summary : Bool
  pub drawn : Bool
  pub journal : Option Text
  pub extents : Option Text
  pub checksums : Bool
  pub ring : Bool

-- the options of `recover` as they were given
pub record RecoverWords : Type 0 where
  pub journal : Option Text
  pub extents : Option Text
  pub force : Bool
  pub dry_run : Bool
  pub list : Bool
  pub checksums : Bool

-- a command with its words
pub data Asked : Type 0 where
  AsksCost : Text → Asked
  AsksPlan : Text → Asked
  AsksCheck : Text → Text → Asked
  AsksDump : Text → DumpWords → Asked
  AsksCat : Text → CatWords → Asked
  AsksFormat : Text → GivenOptions → Asked
  AsksRecover : Text → RecoverWords → Asked
  AsksRenumber : Text → Option Text → Asked
  AsksWiden : Text → Option Text → Asked

-- what a value of the program's own options says
abbrev pub options_said : FormatOptions → GivenOptions
options_said o =
    record {
      bs = o.bs;
      journal = o.journal;
      homes = o.homes;
      max = o.max;
      uuid = o.uuid.now;
      wide = o.wide;
      sparse = o.sparse;
    }

-- the same of `cat`
abbrev pub cat_said : CatOptions → CatWords
cat_said o =
    record {
      home = o.home;
      count = o.count;
      hex = o.hex;
      journal = option_map (λ word. word.now) o.journal;
      extents = option_map (λ word. word.now) o.extents;
      checksums = o.checksums;
    }

-- the same of `dump`
abbrev pub dump_said : DumpOptions → DumpWords
dump_said o =
    record {
      home = o.home;
      last = o.last;
      superblock = o.superblock;
      summary = o.summary;
      drawn = o.drawn;
      journal = option_map (λ word. word.now) o.journal;
      extents = option_map (λ word. word.now) o.extents;
      checksums = o.checksums;
      ring = o.ring;
    }

-- the same of `recover`
abbrev pub recover_said : RecoverOptions → RecoverWords
recover_said o =
    record {
      journal = option_map (λ word. word.now) o.journal;
      extents = option_map (λ word. word.now) o.extents;
      force = o.force;
      dry_run = o.dry_run;
      list = o.list;
      checksums = o.checksums;
    }

-- what a value of the program's own type asks for
abbrev pub asks : Plain → Asked
asks (Cost file) = AsksCost file.now
asks (Plan file) = AsksPlan file.now
asks (Check file cert) = AsksCheck file.now cert.now
asks (Dump file options) = AsksDump file.now (dump_said options)
asks (Format image options) = AsksFormat image.now (options_said options)
asks (Cat image options) = AsksCat image.now (cat_said options)
asks (Recover image options) = AsksRecover image.now (recover_said options)
asks (Renumber image extents) = AsksRenumber image.now (option_map (λ word. word.now) extents)
asks (Widen image extents) = AsksWiden image.now (option_map (λ word. word.now) extents)

-- the file of a command over one file
abbrev pub file_in : List Row → Option Text
file_in rows = first_of (codes "FILE") rows

-- the file of a command over one image
abbrev pub image_in : List Row → Option Text
image_in rows = first_of (codes "IMAGE") rows

-- `check FILE CERT`
abbrev pub check_in : List Row → Option Asked
check_in rows =
    option_and_then (λ file. option_map (λ cert. AsksCheck file cert) (first_of (codes "CERT") rows)) (file_in rows)

-- the number that a text writes in decimal digits, perhaps after a plus, where it fits 64 bits
abbrev pub number_said : Text → Option ℕ
number_said text =
    let digits = without_leading_plus text in
    if nat_lt 0 (length digits)
    && (list_all (λ d. nat_lt (digit_value d) 10) digits && nat_lt (digits_value 10 digits) (2 ^ 64))
    then Some (digits_value 10 digits) else None

-- the number under a name
abbrev pub number_in : Text → List Row → Option ℕ
number_in name rows = option_and_then number_said (one_of name rows)

-- whether a flag was given, as clap enters it under its name
abbrev pub flag_in : Text → List Row → Option Bool
flag_in name rows = option_map (λ text. bytes_eq text (codes "true")) (first_of name rows)

-- the file with the journal, where one was given
abbrev pub journal_asked : List Row → Option Text
journal_asked rows = first_of (codes "journal") rows

-- the extents of the journal, where they were given
abbrev pub extents_asked : List Row → Option Text
extents_asked rows = first_of (codes "extents") rows

-- `dump FILE ..`
abbrev pub dump_in : List Row → Option Asked
dump_in rows =
    option_and_then (λ file. option_and_then (λ alone. option_and_then (λ sum. option_and_then (λ drawn.
    option_and_then (λ checksums. option_map (λ ring. AsksDump file (record {
      home = number_in (codes "home") rows;
      last = number_in (codes "last") rows;
      superblock = alone;
      summary = sum;
      drawn = drawn;
      journal = journal_asked rows;
      extents = extents_asked rows;
      checksums = checksums;
      ring = ring;
    }))
    (flag_in (codes "ring") rows)) (flag_in (codes "checksums") rows)) (flag_in (codes "draw") rows))
    (flag_in (codes "summary") rows)) (flag_in (codes "super") rows)) (file_in rows)

-- the options of `format`
abbrev pub options_in : List Row → Option GivenOptions
options_in rows =
    option_and_then (λ bs. option_and_then (λ journal. option_and_then (λ homes. option_and_then (λ max.
    option_and_then (λ uuid. option_and_then (λ wide.
    option_map (λ sparse. record {
      bs = bs;
      journal = journal;
      homes = homes;
      max = max;
      uuid = uuid;
      wide = wide;
      sparse = sparse;
    })
    (flag_in (codes "sparse") rows)) (flag_in (codes "wide") rows)) (first_of (codes "uuid") rows))
    (number_in (codes "max") rows)) (number_in (codes "homes") rows)) (number_in (codes "journal") rows))
    (number_in (codes "bs") rows)

-- `format IMAGE ..`
abbrev pub format_in : List Row → Option Asked
format_in rows =
    option_and_then (λ image. option_map (λ options. AsksFormat image options) (options_in rows)) (image_in rows)

-- `recover IMAGE ..`
abbrev pub recover_in : List Row → Option Asked
recover_in rows =
    option_and_then (λ image. option_and_then (λ force. option_and_then (λ dry. option_and_then (λ list.
    option_map (λ checksums.
    AsksRecover image (record {
      journal = journal_asked rows;
      extents = extents_asked rows;
      force = force;
      dry_run = dry;
      list = list;
      checksums = checksums;
    }))
    (flag_in (codes "checksums") rows)) (flag_in (codes "list") rows)) (flag_in (codes "dry-run") rows))
    (flag_in (codes "force") rows)) (image_in rows)

-- `cat IMAGE HOME ..`
abbrev pub cat_in : List Row → Option Asked
cat_in rows =
    option_and_then (λ image. option_and_then (λ home. option_and_then (λ count. option_and_then (λ hex.
    option_map (λ checksums.
    AsksCat image (record {
      home = home;
      count = count;
      hex = hex;
      journal = journal_asked rows;
      extents = extents_asked rows;
      checksums = checksums;
    }))
    (flag_in (codes "checksums") rows)) (flag_in (codes "hex") rows)) (number_in (codes "n") rows))
    (number_in (codes "HOME") rows)) (image_in rows)

-- the command of this name, with the words that are under the names of its arguments
abbrev pub asked : Text → List Row → Option Asked
asked name rows =
    if bytes_eq name (codes "cost") then option_map (λ file. AsksCost file) (file_in rows)
    else if bytes_eq name (codes "plan") then option_map (λ file. AsksPlan file) (file_in rows)
    else if bytes_eq name (codes "check") then check_in rows
    else if bytes_eq name (codes "dump") then dump_in rows
    else if bytes_eq name (codes "cat") then cat_in rows
    else if bytes_eq name (codes "format") then format_in rows
    else if bytes_eq name (codes "recover") then recover_in rows
    else if bytes_eq name (codes "renumber")
    then option_map (λ image. AsksRenumber image (extents_asked rows)) (image_in rows)
    else if bytes_eq name (codes "widen")
    then option_map (λ image. AsksWiden image (extents_asked rows)) (image_in rows)
    else None
