-- A call is noted: an empty body, which gives the borrowed record back at another list.
use Rattle.std.proofs.Common.{[], ◌∷◌, refl}
use Rattle.std.proofs.raw_atomic.Walks.{proved}
use mir.Syntax.{named}
use mir.Val.{vunit}
use base.Fml.{ftrue, flft}
use base.Logic.{id⊢}
use types.Kit.{‵, raw, ◌⊛◌, ◌$◌, ◌∵◌, !, qed, done, move, keep, use1, split, join, fsplit, fsplit3, fjoin, fjoin3, feq_i, suffices}
use types.Run.{enter, of_opd, unit_lit, returns}
use types.ByLocal.{alloc_all, pass_all, free_all, look_at, sets}
use denote.Builtin.{u8, u64}
use denote.Exit.{yes}
use denote.RattleType.{owns}
use denote.Ref.{mut_vals, mut_Tells}
use denote.Signature.{plain, types_at}
use denote.Slice.{shr_slice_vals, shr_slice_Tells}
use denote.Steps.{opens, closes}
use denote.Triple.Walked.{walk_of, says, Stays, stay_ref, Goes-ref, stay_none_slice, Goes-none_slice, ends_at}
use Rattle.jb_disk.specs.Events.{event_of}
use Rattle.jb_disk.specs.declared.record.Record.{Record}
use Rattle.jb_disk.specs.contracts.record.Record.note as f
use Rattle.jb_disk.specs.contracts.record.Record.{the_row as R}
use Rattle.jb_disk.proofs.record.Record.note.Statement.{statement}
use Rattle.jb_disk.proofs.record.Record.note.Code as code

-- at the return it still owns the record, and of the two slices nothing is wanted
abbrev stayed : Stays f.ended.signature.params f.ended.kept
stayed = (stay_ref (0 ∷ []) tt (plain (λ _. R)), (stay_none_slice (1 ∷ []) tt (plain (λ _. u64)) yes, (stay_none_slice (2 ∷ []) tt (plain (λ _. u8)) yes, tt)))

pub note_spec : {M : Type 1} → statement M
note_spec 𝓤 𝓛 𝓜 𝓡 wired =
    let c = f.clauses 𝓛 𝓜.mem 𝓡.returns in
    proved 𝓛 f.ended stayed c 𝓜 𝓡
    (Goes-ref 𝓛 3 0 tt (plain (λ _. R)), (Goes-none_slice 𝓛 3 (1 ∷ []) tt (plain (λ _. u64)) yes, (Goes-none_slice 𝓛 3 (2 ∷ []) tt (plain (λ _. u8)) yes, tt)))
    f.Key.name code.function (code.unfolded 𝓤 𝓛.H 𝓜 𝓡 wired)
    (λ κs. (mut_vals, (shr_slice_vals, (shr_slice_vals, tt))))
    (λ κs. (mut_Tells (named 0) κs.0 R, (shr_slice_Tells (named 1) κs.1.0 u64, (shr_slice_Tells (named 2) κs.1.1.0 u8, tt))))
    (λ κs qs bounds a g are.
    let b = a.0.ref_ptr.0 in let o = a.0.ref_ptr.1 in let h = a.0.now in
    let numbers = a.1.0 in let bytes = a.1.1.0 in
    let y : (walk_of 𝓛 f.ended stayed c).Ghost = ((κs, qs, bounds, a, (mut_vals a.0, (shr_slice_vals numbers, (shr_slice_vals bytes, tt)))), g) in
    let noted : Record = record { events = event_of numbers.now bytes.now ∷ h.events } in
    let others = ‵ (flft κs.1.0 qs.1.0) ⊛ (‵ (flft κs.1.1.0 qs.1.1.0) ⊛ ‵ ftrue) in
    qed 𝓛 (((‵ (flft κs.0 qs.0) ⊛ others) ⊛ ‵ (owns (types_at f.signature.params κs) a y.0.4)) ∷ raw ((c κs a).requires g) ∷ []) ∵
    split ! $ split ! $ move ! (2 ∷ []) $ fsplit ! $ keep ! (0 ∷ 2 ∷ 1 ∷ 3 ∷ []) $
    -- [the record; its token; the slices; their tokens]
    enter ! _ _ _ _ _ $ alloc_all ! (λ l. pass_all ! refl ((tt, tt), ((tt, (tt, (record { fits = are.1.0.0.1.0 }, tt))), ((tt, (tt, (record { fits = are.1.1.0.0.1.0 }, tt))), tt))) $
    fsplit3 ! $ move ! (1 ∷ 2 ∷ 3 ∷ []) $ opens ! tt R b o (λ us.
    sets ! (of_opd ! (unit_lit !)) refl (tt, tt) $
    move ! (1 ∷ []) $ use1 𝓛 (‵ (R.own_val noted us)) (id⊢ 𝓤 _) $ move ! (1 ∷ []) $ closes ! tt R noted us b o $
    -- [two parts of the record; its token; its first part; the slices; their tokens]
    returns ! (look_at ! 0 refl) $ free_all ! refl $ move ! (3 ∷ []) $
    suffices ! _ (ends_at 𝓛 f.ended stayed c y vunit tt (noted, (tt, (tt, tt))) (tt, (tt, (tt, tt)))) $ says ! refl $
    fjoin3 ! $ move ! (0 ∷ 2 ∷ []) $ fjoin ! $ feq_i ! _ (vunit ∷ []) (vunit ∷ []) refl $
    move ! (2 ∷ 3 ∷ []) $ join ! $ move ! (0 ∷ 2 ∷ []) $ done !)))
