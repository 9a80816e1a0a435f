-- The calls that a fuse has passed on.
use Rattle.std.proofs.Common.{◌≡◌, ◌≢◌, ◌<◌, ◌-◌, ◌∙◌, ℕ, zero, suc, Bool, Result, Err, refl, sym, ap, subst, arith}
use Rattle.jb_disk.specs.OneCall.{Called}
use Rattle.jb_disk.specs.Fuse.{Burns, disk_of, failed_calls, left_of}
use Rattle.jb_disk.specs.Faults.{counted, most_faults}
use Rattle.jb_disk.specs.declared.disk.Disk.{Ghosts}
use Rattle.jb_disk.specs.declared.fuse.FuseDisk.{FuseDisk}
use Rattle.jb_recover.specs.Passes.{PassFaults}
use Rattle.jb_recover.specs.declared.fault.RecoverFault.{RecoverFault}
use Rattle.jb_recover.specs.declared.fault.RecoverFault.TheVariants.{DeviceFault}
use Rattle.jb_recover.specs.declared.recovered.Recovered.{Recovered}
use Rattle.proof_clients.specs.CutCalls.{Made, none, one}
use Rattle.proof_clients.specs.CutShort.{HadCalls, HasPassed}

module _ {D : Type 0} (faults : D → ℕ) (own : Called → D → D → Bool → Type 0) (calls : ℕ) (first : D) where
  one-call : (before after : FuseDisk D) (call : Called) (ok : Bool) (left : ℕ) → left_of before ≡ left → HasPassed own calls first before → Burns faults own call before after ok → HasPassed own calls first after
  one-call before after call ok zero is so burns = record {
    passed = so.passed;
    made = subst (Made own (λ d. d ≡ first) so.passed) (sym (burns.blown is)) so.made;
    sum = omega (arith, so.sum, burns.left, is);
    blown = λ _. burns.left ∙ ap (λ n. n - 1) is;
  }
  one-call before after call ok (suc left) is so burns =
      let some : left_of before ≡ 0 → ⊥ = λ gone. let h : ⊥ = omega (arith, is, gone) in h in
      record {
        passed = suc so.passed;
        made = one so.passed (disk_of before) (disk_of after) call ok so.made (burns.once some);
        sum = omega (arith, so.sum, burns.left, is);
        blown = λ failed. absurd (some (so.blown (λ still. failed (burns.unfailed some ∙ still))));
      }

  -- what calls of a fuse have made of it
  pub has-passed : (fuse after : FuseDisk D) (n : ℕ) → disk_of fuse ≡ first → left_of fuse ≡ calls → failed_calls fuse ≡ 0 → Made (Burns faults own) (λ f. f ≡ fuse) n after → HasPassed own calls first after
  has-passed fuse after _ is left fresh (none _ same) = record {
    passed = 0;
    made = none (disk_of after) (ap disk_of same ∙ is);
    sum = (let e : left_of after ≡ calls = ap left_of same ∙ left in omega (arith, e));
    blown = λ failed. absurd (failed (ap failed_calls same ∙ fresh));
  }
  has-passed fuse after _ is left fresh (one n before _ call ok made burns) =
      one-call before after call ok (left_of before) refl (has-passed fuse before n is left fresh made) burns

-- the count of a new fuse is that of its disk
pub few-yet : {D : Type 0} (faults : D → ℕ) (first : D) (fuse : FuseDisk D) → disk_of fuse ≡ first → failed_calls fuse ≡ 0 → faults first < most_faults → counted (faults (disk_of fuse)) (failed_calls fuse) < most_faults
few-yet faults first fuse is fresh few = rw (is, fresh) (let h : counted (faults first) 0 < most_faults = omega (arith, few) in h)

-- a recovery that answers a fault, where no call that was tried has failed: the fuse has failed one
pub fault-blown : (answer : Result Recovered RecoverFault) (old own now own_now : ℕ) → old < most_faults → PassFaults answer (counted old own) (counted now own_now) → answer ≡ Err DeviceFault → now ≡ old → own ≡ 0 → own_now ≢ 0
fault-blown answer old own now own_now few counts is same fresh unfailed =
    let more = subst (λ (a : Result Recovered RecoverFault). PassFaults a (counted old own) (counted now own_now)) is counts in
    let h : ⊥ = omega (arith, few, more.rises, same, fresh, unfailed) in h

-- what a fuse has passed on, of the disk that is taken out of it
pub had-calls : {D : Type 0} (G : Ghosts D) (calls : ℕ) (first last : D) (after : FuseDisk D) {is_cut : Type 0} → last ≡ disk_of after → HasPassed G.own calls first after → (is_cut → failed_calls after ≢ 0) → HadCalls G calls is_cut first last
had-calls G calls first last after ends so blown = record {
  passed = so.passed;
  made = subst (Made G.own (λ d. d ≡ first) so.passed) (sym ends) so.made;
  most = omega (arith, so.sum);
  all = λ cut. omega (arith, so.sum, so.blown (blown cut));
}
