use Rattle.std.proofs.Common.{◌≡◌, ◌<◌, ◌≤◌, ◌*◌, ◌+◌, ◌-◌, ◌++◌, length, ◌∙◌, sym, ap, rules, arith}
use borrow.Rule.Slice.PartMut.{post_of}
use Rattle.jb_disk.specs.Image.{block}
use Rattle.jb_disk.specs.Runs.{part}
use Rattle.jb_disk.proofs.RunReads.{part-append}
use Rattle.jb_disk.proofs.read_ahead.ReadAhead.fetch.Goals as goal

pub returns-clause-ahead : goal.returns-clause-ahead
returns-clause-ahead g c =
    let G = g.D.Disk in
    let disk = c.args.disk.now in
    let bytes = c.bytes-size.result in
    let count = c.min-count.result in
    let place = c.args.place in
    let run = c.read_run.new.buf in
    let size : bytes ≡ G.size disk = c.bytes-size.ensures.value ∙ c.requires.ahead.same_size in
    let long : length run ≡ bytes * count = search rules in
    record {
      same_size = c.requires.ahead.same_size ∙ sym c.read_run.ensures.kept.same_size;
      within = omega (arith, c.requires.ahead.within, c.read_run.ensures.kept.same_count);
      fits = search rules;
      found = λ honest p after from below.
          let was = c.read_run.ensures.kept.was_honest honest in
          let k = p - place in
          let few : k < count = omega (arith, from, below) in
          let within : bytes * k + bytes ≤ length run = grind (arith, long, few) in
          let at : place + k ≡ p = omega (arith, from) in
          ap (λ s. part s k (run ++ post_of 0 (bytes * count) c.args.self.now.run)) (sym c.bytes-size.ensures.value)
          ∙ part-append bytes k run (post_of 0 (bytes * count) c.args.self.now.run) within
          ∙ ap (λ s. part s k run) size
          ∙ c.in_ok-read_run.ensures.found honest k few
          ∙ ap (block (G.newest disk)) at
          ∙ ap (λ d. block d p) (sym (c.read_run.ensures.newest honest));
    }
