use Rattle.std.proofs.Common.{◌≡◌, ap, ◌∙◌, sym, ◌++◌, drop, take, replicate, length, min, ◌-◌, rules, vec_len, arith}
use Rattle.jb_handle.proofs.PayloadFront.{take-padded, length-filled}
use Rattle.jb_handle.proofs.payload.Payload.front.Goals as goal

pub returns : goal.returns
returns c =
    let written : c.copy_from_slice.new.self ≡ take c.min-kept.result c.self.inside.bytes.items = search rules in
    let view : c.args.self.now ≡ c.self.inside.bytes.items ++ replicate (c.self.inside.len - length c.self.inside.bytes.items) 0 = search rules in
    let items : length c.self.inside.bytes.items ≡ vec_len c.self.inside.bytes = sym (ap length c.deref.ensures.value) ∙ c.deref.ensures.len in
    let kept : c.min-kept.result ≡ min (length c.self.inside.bytes.items) 4 = c.min-kept.ensures ∙ ap (λ n. min n 4) (c.len.ensures ∙ sym items) in
    let whole : length c.args.self.now ≡ c.self.inside.len = ap length view ∙ length-filled c.self.inside.len c.self.inside.bytes.items c.self.invariant in
    ap (λ bs. bs ++ drop c.min-kept.result (replicate 4 0)) written
    ∙ take-padded 4 (c.self.inside.len - length c.self.inside.bytes.items) c.min-kept.result c.self.inside.bytes.items (omega (arith, whole, c.requires.long)) kept
    ∙ ap (take 4) (sym view)
