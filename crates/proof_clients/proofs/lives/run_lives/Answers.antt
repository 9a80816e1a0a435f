use Rattle.std.proofs.Common.{◌≡◌, [], ◌∷◌, ◌++◌, map, refl, sym, ◌∙◌, rules}
use Rattle.std.proofs.lemmas.List.{map-append}
use Rattle.jb_block.specs.Size.{bytes_of}
use Rattle.jb_disk.specs.History.{newest_of}
use Rattle.jb_format.proofs.CallEntry.{entry-as}
use Rattle.jb_recover.specs.Outcomes.{recovered}
use Rattle.jb_deck.specs.Open.{recovered_home}
use Rattle.proof_clients.specs.Lives.{HoldsChanges, HoldsLife}
use Rattle.proof_clients.specs.declared.lives.Life.{Life}
use Rattle.proof_clients.proofs.OneLife.{lives-more, lives-none, rested}
use Rattle.proof_clients.proofs.lives.run_lives.Goals as goal

pub loop-life-init : goal.loop-life-init
loop-life-init c =
    let old = c.args.disk in
    let size = bytes_of old.size in
    let count = old.count in
    let base = newest_of old in
    let d1 = c.recover.new.disk in
    let held = c.in_ok-recover.ensures in
    let kept = held.kept in
    let sound = c.always_sound.ensures.sound in
    record {
      rest = rested size count base d1 sound (held.durable sound) kept.same_size kept.same_count (held.recovers sound).3 (c.recovered.ensures.once size count base);
      size = kept.same_size;
      count = kept.same_count;
      lives = rw c.new-committed.ensures.items (lives-none size count base (newest_of d1) (held.journal sound) (held.recovers sound).3);
    }

pub loop-life-preserved : goal.loop-life-preserved
loop-life-preserved c =
    let old = c.args.disk in
    let size = bytes_of old.size in
    let count = old.count in
    let base = newest_of old in
    let mid = c.loop-life.disk in
    let new = c.in_ok-next.next in
    let inv = c.loop-life.invariant in
    let same = c.in_ok-next.ensures.same in
    let handles = c.in-Some.life.handles.items in
    let is = c.in_ok-next.reported in
    let items : c.push.new.self.items ≡ c.loop-life.committed.items ++ is ∷ [] = search rules in
    record {
      rest = c.in_ok-next.ensures.rest inv.rest;
      size = same.0 ∙ inv.size;
      count = same.1 ∙ inv.count;
      lives =
          let h = inv.lives in
          let before = recovered_home size count base in
          let held = entry-as (λ s n base. HoldsChanges h.own h.now s n before h.changes base) _ _ _ _ _ _ (sym inv.size) (sym inv.count) refl h.holds in
          let life = c.in_ok-next.ensures.lives inv.rest h.own h.now before h.changes held in
          let here = entry-as (λ s n base. HoldsLife h.own h.now s n before h.changes handles is base) _ _ _ _ _ _ inv.size inv.count refl life in
          let more = lives-more size count (map (λ (l : Life). l.handles.items) c.loop-life.yielded) c.loop-life.committed.items base (newest_of mid) (newest_of new) handles is h here in
          rw (items, map-append (λ (l : Life). l.handles.items) c.loop-life.yielded (c.in-Some.life ∷ [])) more;
    }
