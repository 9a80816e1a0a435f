use Rattle.std.proofs.Common.{rules, ◌≡◌, map, option_map}
use Rattle.jb_text.proofs.PartByPart.{partly}
use Rattle.jb_commands.specs.Lines.{line_naming}
use Rattle.jb_commands.proofs.streams.putting.put_line.Goals as goal

pub returns-in-Some : goal.returns-in-Some
returns-in-Some g c =
    let line = line_naming (map (λ word. word.now) c.args.words.now) (option_map (λ name. name.now) c.args.name) in
    let text : c.as_slice.result.now ≡ line = search rules in
    record { puts = partly _ _ line c.put-ignored.result (rw text at c.put-ignored.ensures.puts) }

pub returns-in-None : goal.returns-in-None
returns-in-None g c =
    let line = line_naming (map (λ word. word.now) c.args.words.now) (option_map (λ name. name.now) c.args.name) in
    record { puts = partly _ _ line c.put_each-ignored.result c.put_each-ignored.ensures }
