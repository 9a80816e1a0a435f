use Rattle.std.proofs.Common.{◌≡◌, ◌-◌, false, length, take, drop, nat_lt, ap, subst, ◌∙◌, arith}
use Rattle.std.proofs.Math.Seq.{take-length}
use Rattle.std.proofs.lemmas.Bool.{le-ltb}
use Rattle.std.proofs.lemmas.List.{length-drop}
use Rattle.jb_ext.specs.System.{system_in}
use Rattle.jb_commands.specs.OwnPlace.{said_size}
use Rattle.jb_commands.proofs.files.own.system_size.Goals as goal

pub returns : goal.returns
returns c =
    let front = c.args.front.now in
    let inside : nat_lt (length front) 2048 ≡ false = le-ltb (length front) 2048 (omega (arith, c.if-front-lt-FRONT.false)) in
    let behind : take (length front - 1024) (drop 1024 front) ≡ drop 1024 front =
    subst (λ n. take n (drop 1024 front) ≡ drop 1024 front) (length-drop 1024 front) (take-length (drop 1024 front)) in
    rw inside (c.said_size.ensures ∙ ap said_size (c.read.ensures ∙ ap system_in behind))
