use Rattle.std.proofs.Common.{rules, ◌≡◌, ◌-◌, length, drop, sym, ap, ◌∙◌, length-drop}
use Rattle.jb_core.specs.Line.{MachineLine}
use Rattle.jb_cost.proofs.ListPieces.{length-pieces}
use Rattle.jb_core.proofs.stops.Stops.taken.Goals as goal

pub returns : goal.returns
returns c =
    let len : c.len.result ≡ length c.self.inside.ends.items = search rules in
    ap (λ n. n - c.self.inside.settled) len
    ∙ sym (length-drop c.self.inside.settled c.self.inside.ends.items)
    ∙ sym (length-pieces c.self.inside.settled_end (drop c.self.inside.settled c.self.inside.ends.items) c.self.inside.handles.items)
    ∙ ap (λ (l : MachineLine). length l.taken) c.self.view_is
