-- `Row::slots_mut` lends a row's `Slots`, and the row follows it. Assumes `Logic`.
use Rattle.std.proofs.Common.{◌≡◌, ℕ, List, [], ◌∷◌, ap, refl}
use seplogic.Ra.Ura.{Ura}
use mir.Syntax.{Fn, a_type, dnil, named}
use mir.Val.{Val, vptr}
use mir.MapTy.{inst_fn}
use base.Fraction.{full_share}
use base.Logic.{SProp, all_e, apply∗, ent, sep, wand}
use base.Fml.{GName, flft, fsep, ftrue}
use prog.Memory.{Memory, align}
use prog.Routine.{Routine}
use prog.Wp.{Tables, WpFn}
use contract.Monad.{Fun}
use contract.Running.{tables, tables_of}
use sound.WpLaws.{WpFn-mono}
use types.Logic.{Logic, sem}
use types.Kit.{‵, raw, ◌⊛◌, some, later, ◌$◌, ◌∵◌, !, qed, done, move, keep, drop, use1, use2, split, split3, join, pick, fsplit, fsplit3, fjoin, fpick, fpack, group, suffices, frame, await}
use types.Run.{stop, fld, addr, returns, enter}
use types.ByLocal.{alloc_all, pass_all, free_all, look_at, through, sets, is}
use denote.RattleType.{RattleType, owns}
use denote.Builtin.{RefMutOf}
use denote.Exit.{no}
use denote.Follow.{follows, lends_Part}
use denote.Laws.{Lawful}
use denote.Memory.{cell_at, mem, part_at, part_of}
use denote.Param.{bounded, layout, param}
use denote.Param.Laws.{Laws, param_laws}
use denote.Ref.{MutRef, mut_Tells, mut_vals}
use denote.Signature.{plain, types_at}
use denote.Steps.{nothing, opens}
use denote.Struct.CellSteps.{BackTo, first_at, only_out}
use denote.Struct.Members.{Member}
use denote.Struct.Struct.{Struct}
use denote.Struct.Owning.{shape}
use denote.Triple.Clauses.{Clauses, Ended}
use denote.Triple.Spec.{triple_of}
use denote.Triple.Table.{entered}
use denote.Triple.Walked.{Goes-spent_ref, Stays, ends_at, says, stay_dropped, walk_Meets, walk_of, walked}
use Rattle.core.proofs.slots.Slots.TheLaws as slots
use Rattle.core.specs.contracts.slots.Slots as Slots
use Rattle.key_index_map.specs.contracts.row.Row as C
use Rattle.key_index_map.specs.contracts.row.Row.TheInside as I
use Rattle.key_index_map.specs.contracts.row.Row.slots_mut as F
use Rattle.key_index_map.specs.contracts.row.Row.slots_mut.Key.{name as #self}
use Rattle.key_index_map.proofs.row.Row.slots_mut.Statement as stated
use Rattle.key_index_map.proofs.row.Row.slots_mut.Code as code

module _ (X : RattleType) where
  abbrev P : RattleType
  P = param 0 X

  abbrev In : RattleType
  In = I.the_row P

  abbrev Rr : RattleType
  Rr = C.the_row P

  abbrev Sr : RattleType
  Sr = Slots.the_row P

  abbrev m : Member
  m = record { row = Sr; ty = layout Sr }

  -- the data field, as a plain struct
  abbrev Data : RattleType
  Data = Struct (shape (I.the_type P))

  abbrev Hidden : Sr.Denot → Type 0
  Hidden h = (a : In.Denot) × ((C.the_view P a ≡ h) × C.the_invariant P a)

  abbrev here : Fn
  here = inst_fn (bounded (a_type ∷ []) (X, tt) dnil) code.function

  abbrev ended : Ended
  ended = F.ended X

  abbrev stayed : Stays ended.signature.params ended.kept
  stayed = (stay_dropped (RefMutOf (0 ∷ []) tt (plain (λ _. Rr)) (λ _. tt)) no, tt)

  module _ {M : Type 1} {𝓤 : Ura M} (𝓛 : Logic 𝓤) (L : Laws X) (rb ro : ℕ) where
    abbrev Rest : SProp 𝓤
    Rest = BackTo 𝓛 (shape (I.the_type P)).name [] (P ∷ []) m (λ y. sem 𝓛 (part_at Data full_share (y, tt) rb ro)) rb ro

    back : (w : Sr.Denot) → ent 𝓤 (sep 𝓤 (sem 𝓛 ((mem Sr).own_at w rb ro)) Rest) (sem 𝓛 ((mem Rr).own_at w rb ro))
    unfolding part_of
    back w =
        qed 𝓛 (‵ (part_at Sr full_share w rb ro) ∷ raw Rest ∷ []) ∵ move ! (1 ∷ []) $
        use1 𝓛 (raw (wand 𝓤 (sem 𝓛 (part_at Sr full_share w rb ro)) (sem 𝓛 (part_at Data full_share (w, tt) rb ro))))
        (all_e 𝓤 (λ (y : Sr.Denot). wand 𝓤 (sem 𝓛 (part_at Sr full_share y rb ro)) (sem 𝓛 (part_at Data full_share (y, tt) rb ro))) w) $ move ! (1 ∷ 0 ∷ []) $
        use2 𝓛 (‵ (part_at Data full_share (w, tt) rb ro)) (apply∗ 𝓤 (sem 𝓛 (part_at Sr full_share w rb ro)) (sem 𝓛 (part_at Data full_share (w, tt) rb ro))) $
        fpick ! (λ vs. fsplit ! $ nothing ! $ move ! (2 ∷ 0 ∷ []) $ fjoin ! $ nothing ! $ move ! (1 ∷ 0 ∷ []) $ fjoin ! $
        fpack ! (Hidden w) (λ a. fsep (In.own_val a.0 vs) ftrue) (record { slots = w }, (refl, tt)) $ move ! (1 ∷ 0 ∷ []) $ fjoin ! $
        fpack ! (List Val) (λ us. fsep (cell_at full_share Rr.mir us rb ro) (Rr.own_val w us)) vs $ done !)

module _ (X : RattleType) {M : Type 1} {𝓤 : Ura M} (𝓛 : Logic 𝓤) (L : Laws X) (at_mem : Memory → SProp 𝓤) (run : Routine → Fun 𝓤) (𝓣 : Tables 𝓤 𝓛.H) where
  open 𝓛 use {H}

  abbrev c : Clauses 𝓤 (ended X)
  c = F.clauses X 𝓛 at_mem run

  abbrev Over : Type 0
  Over = (walk_of 𝓛 (ended X) (stayed X) c).Ghost

  abbrev told : Over → Over
  told z = ((z.0.0, z.0.1, z.0.2, z.0.3, (mut_vals z.0.3.0, tt)), z.1)

  lawful : Lawful 𝓛 (Sr X)
  lawful = (slots.the_row_laws (P X) (param_laws 0 X L)).lawful 𝓛

  walk : (z : Over) → ent 𝓤 ((walk_of 𝓛 (ended X) (stayed X) c).pre (told z)) (WpFn 𝓤 H 𝓣.C 𝓣.Λ (here X) ((walk_of 𝓛 (ended X) (stayed X) c).args (told z)) ((walk_of 𝓛 (ended X) (stayed X) c).post (told z)))
  unfolding part_of
  walk z =
      let κ = z.0.0.0 in let κ₁ = z.0.0.1.0 in let q = z.0.1.0 in let q₁ = z.0.1.1.0 in
      let rb : ℕ = z.0.3.0.ref_ptr.0 in let ro : ℕ = z.0.3.0.ref_ptr.1 in let γ : GName = z.0.3.0.ghost_name in let h : (Rr X).Denot = z.0.3.0.now in
      qed 𝓛 (((‵ (flft κ q) ⊛ ‵ (flft κ₁ q₁) ⊛ ‵ ftrue) ⊛ ‵ (owns (types_at (ended X).signature.params z.0.0) z.0.3 (told z).0.4)) ∷ raw ((c z.0.0 z.0.3).requires z.1) ∷ []) ∵
      split ! $ split ! $ move ! (2 ∷ []) $ fsplit ! $ fsplit3 ! $ keep ! (1 ∷ 2 ∷ 4 ∷ 5 ∷ []) $
      enter ! 𝓣.C 𝓣.Λ (here X) (vptr rb ro ∷ []) _ $ alloc_all ! (λ l. pass_all ! refl ((tt, tt), tt) $
      opens ! tt (Rr X) {h = h} rb ro (λ vs. move ! (1 ∷ []) $ fpick ! (λ a. fsplit ! $ fsplit ! $ move ! (3 ∷ 0 ∷ []) $ fjoin ! $
      fpack ! (List Val) (λ us. fsep (cell_at full_share (Data X).mir us rb ro) ((Data X).own_val (a.0.slots, tt) us)) vs $
      use1 𝓛 (‵ (part_at (Sr X) full_share a.0.slots rb ro) ⊛ raw (Rest X 𝓛 L rb ro)) (only_out 𝓛 (shape (I.the_type (P X))).name [] (P X ∷ []) (m X) lawful rb ro a.0.slots) $ split ! $
      move ! (2 ∷ 3 ∷ []) $ drop ! $ drop ! $ move ! (2 ∷ 3 ∷ 4 ∷ 0 ∷ 1 ∷ []) $ group ! 5 $
      use1 𝓛 (later (some (λ (γ' : GName). ‵ ((MutRef (named 0) κ (Sr X)).own_val (record { ref_ptr = (rb, ro); ghost_name = γ'; now = a.0.slots }) (vptr rb ro ∷ [])) ⊛ ‵ (flft κ q) ⊛ ‵ (follows (Rr X) (Sr X) γ γ' (λ w. w)))))
      (lends_Part 𝓛 (Rr X) (Sr X) (λ w. w) (named 0) κ q rb ro rb ro γ (Rest X 𝓛 L rb ro) (back X 𝓛 L rb ro) ((Rr X).coded.code h) ((Rr X).coded.code h) a.0.slots) $
      await ! tt $ pick ! (λ γ'. split3 ! $
      sets ! (is ! (addr ! (through ! refl (fld ! refl (stop !)))) (ap (vptr rb) (first_at (align (layout (Sr X))) ro))) refl (tt, tt) $
      returns ! (look_at ! 0 refl) $ free_all ! refl $
      suffices ! _ (ends_at 𝓛 (ended X) (stayed X) c (told z) (vptr rb ro) (record { ref_ptr = (rb, ro); ghost_name = γ'; now = a.0.slots }) (tt, tt) (tt, tt)) $
      nothing ! $ nothing ! $ fjoin ! $ join ! $ move ! (1 ∷ 3 ∷ []) $ join ! $ join ! $ frame ! $ says ! a.1.0 $ keep ! (0 ∷ []) $ done !))))

pub slots_mut_spec : {M : Type 1} → stated.statement M
unfolding tables_of
slots_mut_spec 𝓤 𝓛 𝓜 𝓡 wired X L =
    let 𝓣 : Tables 𝓤 𝓛.H = tables_of 𝓤 𝓛.H 𝓜 (tables 𝓤 𝓛.H 𝓜 𝓡 𝓡.env) in
    entered 𝓤 𝓛.H (triple_of 𝓛 (F.signature X) (F.spec X 𝓛 𝓜.mem 𝓡.returns)) 𝓣.C 𝓣.Λ (#self (bounded (a_type ∷ []) (X, tt) dnil)) (here X) (code.unfolded 𝓤 𝓛.H 𝓜 𝓡 wired (X, tt))
    (walk_Meets 𝓛 (ended X) (stayed X) (Goes-spent_ref 𝓛 2 (0 ∷ []) tt (plain (λ _. Rr X)), tt) (c X 𝓛 L 𝓜.mem 𝓡.returns 𝓣) (WpFn 𝓤 𝓛.H 𝓣.C 𝓣.Λ (here X)) (WpFn-mono 𝓤 𝓛.H 𝓛.laws 𝓣 (here X))
    (walked 𝓛 (ended X) (stayed X) (c X 𝓛 L 𝓜.mem 𝓡.returns 𝓣) (WpFn 𝓤 𝓛.H 𝓣.C 𝓣.Λ (here X)) (λ κs. (mut_vals, tt)) (λ κs. (mut_Tells (named 0) κs.0 (Rr X), tt))
    (λ κs qs bounds a g are. walk X 𝓛 L 𝓜.mem 𝓡.returns 𝓣 ((κs, qs, bounds, a, (mut_vals a.0, tt)), g))))
