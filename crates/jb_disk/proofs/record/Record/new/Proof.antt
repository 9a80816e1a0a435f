-- A record of no calls: a value without bytes, whose list is picked here.
use Rattle.std.proofs.Common.{[], ◌∷◌, refl}
use Rattle.std.proofs.raw_atomic.Walks.{proved}
use mir.Val.{Val, vstruct, vnil}
use types.Kit.{raw, ◌$◌, ◌∵◌, !, qed, done, keep, fjoin, fpack, feq_i, suffices}
use types.Run.{enter, no_more, returns}
use types.Part.{agg}
use types.ByLocal.{alloc_all, pass_all, free_all, look_at, sets}
use denote.Steps.{nothing}
use denote.Struct.Owning.{shape}
use denote.Struct.Struct.{within}
use denote.Triple.Entry.{on_entry}
use denote.Triple.Walked.{says, ends_at}
use Rattle.jb_disk.specs.contracts.record.Record.{the_type}
use Rattle.jb_disk.specs.contracts.record.Record.new as f
use Rattle.jb_disk.specs.declared.record.Record.{Record}
use Rattle.jb_disk.proofs.record.Record.new.Statement.{statement}
use Rattle.jb_disk.proofs.record.Record.new.Code as code

-- the value as the machine has it
abbrev empty : Val
empty = vstruct vnil

pub new_spec : {M : Type 1} → statement M
new_spec 𝓤 𝓛 𝓜 𝓡 wired =
    let c = f.clauses 𝓛 𝓜.mem 𝓡.returns in
    let none : Record = record { events = [] } in
    proved 𝓛 f.ended tt c 𝓜 𝓡 tt f.Key.name code.function (code.unfolded 𝓤 𝓛.H 𝓜 𝓡 wired) (λ κs. tt) (λ κs. tt) (λ κs qs bounds a g are.
    qed 𝓛 (raw (on_entry 𝓛 f.signature κs qs a tt) ∷ raw ((c κs a).requires g) ∷ []) ∵ keep ! [] $
    enter ! _ _ _ _ _ $ alloc_all ! (λ l. pass_all ! refl tt $
    sets ! (agg ! (no_more !)) refl (tt, tt) $
    returns ! (look_at ! 0 refl) $ free_all ! refl $
    suffices ! _ (ends_at 𝓛 f.ended tt c ((κs, qs, bounds, a, tt), g) empty none tt tt) $ says ! refl $
    -- [what the value owns: no bytes, no fields, and no memory; the parameters; the tokens]
    nothing ! $ nothing ! $ feq_i ! _ (empty ∷ []) (empty ∷ []) refl $ fjoin ! $ fpack ! (Unit {0}) (within (shape the_type) tt (empty ∷ [])) tt $ fjoin ! $
    nothing ! $ nothing ! $ done !))
