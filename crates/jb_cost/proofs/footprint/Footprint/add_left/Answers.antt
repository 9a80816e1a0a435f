use Rattle.std.proofs.Common.{◌≡◌, refl, ap, ◌∙◌, arith}
use Rattle.std.specs.FinSet as set
use Rattle.jb_cost.proofs.Footprints.{added-left}
use Rattle.jb_cost.proofs.MeetHomes.{out-set}
use Rattle.jb_cost.specs.Footprint.{Covered, covered_by}
use Rattle.jb_cost.proofs.footprint.Footprint.add_left.Goals as goal

pub overflow_add-self : goal.overflow_add-self
overflow_add-self c = omega (arith, c.in-Ok.ensures.few, c.requires.room, ap (λ v. v.copies) c.self.view_is, ap (λ v. v.frees) c.self.view_is)

pub overflow_add-self-in-Ok : goal.overflow_add-self-in-Ok
overflow_add-self-in-Ok c = omega (arith, c.in-Ok.ensures.few, c.requires.room, ap (λ v. v.copies) c.self.view_is, ap (λ v. v.frees) c.self.view_is)

pub blocks-cost-requires : goal.blocks-cost-requires
blocks-cost-requires c = record { small = omega (arith, c.in-Ok.ensures.few, c.requires.room, ap (λ v. v.copies) c.self.view_is, ap (λ v. v.frees) c.self.view_is) }

pub returns-in-Ok-clause-ok : goal.returns-in-Ok-clause-ok
returns-in-Ok-clause-ok c g hs is =
    let before : Covered = record { geometry = c.self.inside.geometry; homes = set.from_list c.self.inside.homes.keys; copies = c.self.inside.copies; frees = c.self.inside.frees } in
    let shown : before ≡ covered_by g hs = c.self.view_is ∙ is in
    let added = added-left g hs before shown c.args.handle.now c.self.inside.homes c.meet.new.homes refl c.in-Ok.ensures.homes _ _ c.in-Ok.ensures.copies c.in-Ok.ensures.frees in
    (added.0, c.blocks-cost.ensures ∙ added.1)

pub returns-in-Err-clause-err : goal.returns-in-Err-clause-err
returns-in-Err-clause-err c =
    let same = out-set c.self.inside.homes c.meet.new.homes c.part.new.homes c.meet.new.fresh.items _ c.deref.ensures.value c.in-Err.ensures.partly c.in-Err.ensures.apart c.part.ensures in
    (λ i. record { geometry = c.self.inside.geometry; homes = same i; copies = c.self.inside.copies; frees = c.self.inside.frees }) ∙ c.self.view_is
