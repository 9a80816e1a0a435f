use Rattle.std.proofs.Common.{◌≡◌, ◌≤◌, ◌+◌, ◌*◌, ◌∷◌, length, arith, sym, ◌∙◌, ap}
use Rattle.jb_disk.specs.CrashWrites.{bytes_of_writes}
use Rattle.jb_disk.specs.Image.{sector}
use Rattle.jb_disk.specs.Versions.{version}
use Rattle.jb_disk.proofs.BlockVersions.{picked-keep, picked-put, version-size}
use Rattle.jb_disk.proofs.sector.mix.Goals as goal
use Rattle.jb_disk.proofs.sector.mix.Goals.{in-Some, in_default}

pub copy_sector-requires-clause-same : goal.copy_sector-requires-clause-same
copy_sector-requires-clause-same c =
    sym (ap length (c.in-Some.ensures c.args.block.now))
    ∙ version-size _ c.args.block.now _ c.number_at.result c.requires.size c.requires.whole
    ∙ sym c.requires.size ∙ sym c.loop-k.auto.block

pub loop-k-preserved : goal.loop-k-preserved
loop-k-preserved c =
    let numbered = ap (λ n. version (c.args.block.now ∷ bytes_of_writes c.args.writes.now) n) (sym c.number_at.ensures) in
    elim c.match-pick.branch [
      | in-Some w ↦
          let is = w.in-Some.ensures c.args.block.now in
          let same : length w.in-Some.bytes.now ≡ length c.loop-k.block
          = sym (ap length is) ∙ version-size _ c.args.block.now _ c.number_at.result c.requires.size c.requires.whole
          ∙ sym c.requires.size ∙ sym c.loop-k.auto.block in
          let within : 512 * c.loop-k.k + 512 ≤ length c.loop-k.block = omega (arith, c.loop-k.auto.block, c.requires.size, c.loop-k-test.true) in
          rw (w.block-is, w.copy_sector.ensures) (picked-put c.loop-k.invariant w.in-Some.bytes.now same within (ap (sector c.loop-k.k) (sym (numbered ∙ is))))
      | in_default w ↦
          let at = c.pick.ensures c.args.block.now in
          rw w.block-is (picked-keep c.loop-k.invariant (ap (sector c.loop-k.k) (sym (numbered ∙ (rw w.in_default.is at at)))))
    ]
