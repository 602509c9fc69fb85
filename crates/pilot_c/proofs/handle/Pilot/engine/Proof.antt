-- The session behind a handle is lent: a walk of the MIR by hand.
use Rattle.std.proofs.Common.{◌≡◌, ℕ, List, [], ◌∷◌, refl, sym, ap, ◌∙◌}
use Rattle.std.proofs.raw_atomic.Walks.{proved}
use seplogic.Ra.Ura.{Ura}
use base.Fraction.{full_share}
use base.Logic.{ent, sep, id⊢}
use base.Fml.{Fml, GName, ftrue, flft, fsep}
use mir.Syntax.{named}
use mir.Val.{Val, vptr}
use types.Logic.{Logic, sem}
use types.Kit.{‵, raw, ◌⊛◌, some, later, at_ret, ◌$◌, ◌∵◌, !, qed, done, move, keep, use1, split, split3, join, fsplit, fsplit3, fjoin, fpack, pick, await, rewrite, suffices, frame, group}
use types.Run.{enter, of_opd, addr, load, stop, fld, first, blocks, exec, returns}
use types.Part.{whole, sub, look_in}
use types.ByLocal.{alloc_all, pass_all, free_all, look_at, get, through, sets, sets_last, env}
use contract.Running.{tables}
use denote.Exit.{no}
use denote.Laws.{Is, shows}
use denote.Struct.Struct.{Struct}
use denote.Struct.Owning.{shape, to}
use denote.Memory.{cell_at, mem, part_of}
use denote.RawPtr.{Ptr, block_ptr, lies_at, in_a_block}
use denote.Ref.{MutRef, mut_vals, mut_Tells}
use denote.Signature.{plain, mut_ref_to}
use denote.Steps.{nothing, opens, peeks}
use denote.Follow.{follows, Part, lends_Part}
use denote.Triple.Walked.{says, Stays, stay_dropped, walk_of, ends_at, Goes-spent_ref}
use Rattle.embedded.specs.contracts.image.ImageEngine.{the_row as E}
use Rattle.embedded.specs.declared.image.ImageEngine.{ImageEngine}
use Rattle.pilot_c.specs.declared.handle.Pilot.{Pilot}
use Rattle.pilot_c.specs.contracts.handle.Pilot.{the_row as R, the_type}
use Rattle.pilot_c.proofs.handle.Pilot.TheLaws.{lowers}
use Rattle.pilot_c.specs.Lends.{with_value}
use Rattle.pilot_c.specs.contracts.handle.Pilot.engine as f
use Rattle.pilot_c.proofs.handle.Pilot.engine.Statement.{statement}
use Rattle.pilot_c.proofs.handle.Pilot.engine.Code as code

abbrev stayed : Stays f.ended.signature.params f.ended.kept
stayed = (stay_dropped (mut_ref_to (0 ∷ []) tt (plain (λ _. R))) no, tt)

-- all of the handle but its session
abbrev rest : Pilot → List Val → ℕ → ℕ → ℕ → ℕ → Fml
rest h us b o b' o' = fsep ((Struct (shape the_type)).own_val (to the_type h) us) (cell_at full_share R.mir (lowers.lowered (record h { ptr = block_ptr b' o' }) ∷ []) b o)

back : {M : Type 1} {𝓤 : Ura M} (𝓛 : Logic 𝓤) (h : Pilot) (us : List Val) (b o b' o' : ℕ) → h.ptr ≡ block_ptr b' o' → Is R h us → (w : ImageEngine)
    → ent 𝓤 (sep 𝓤 (sem 𝓛 ((mem E).own_at w b' o')) (sem 𝓛 (rest h us b o b' o'))) (sem 𝓛 ((mem R).own_at (with_value h w) b o))
unfolding part_of
back {𝓤 = 𝓤} 𝓛 h us b o b' o' e is w =
    let word = lowers.val_is h us is ∙ ap (λ (p : Ptr). lowers.lowered (record h { ptr = p }) ∷ []) e in
    qed 𝓛 (‵ (lies_at E full_share (block_ptr b' o') w) ∷ ‵ (rest h us b o b' o') ∷ []) ∵
    rewrite ! 0 (λ (p : Ptr). ‵ (lies_at E full_share p w)) (sym e) refl $ move ! (1 ∷ []) $ fsplit ! $
    move ! (1 ∷ []) $ rewrite ! 0 (λ (ws : List Val). ‵ (cell_at full_share R.mir ws b o)) (sym word) refl $
    move ! (1 ∷ 2 ∷ []) $ fjoin ! $ move ! (1 ∷ 0 ∷ []) $ fjoin ! $
    fpack ! (List Val) (λ xs. fsep (cell_at full_share R.mir xs b o) (R.own_val (with_value h w) xs)) us $ done !

pub engine_spec : {M : Type 1} → statement M
engine_spec 𝓤 𝓛 𝓜 𝓡 wired =
    let c = f.clauses 𝓛 𝓜.mem 𝓡.returns in let W = walk_of 𝓛 f.ended stayed c in let 𝓣 = tables 𝓤 𝓛.H 𝓜 𝓡 𝓡.env in
    proved 𝓛 f.ended stayed c 𝓜 𝓡 (Goes-spent_ref 𝓛 1 (0 ∷ []) tt (plain (λ _. R)), tt)
    f.Key.name code.function (code.unfolded 𝓤 𝓛.H 𝓜 𝓡 wired)
    (λ κs. (mut_vals, tt)) (λ κs. (mut_Tells (named 0) κs.0 R, tt)) (λ κs qs bounds a _ are.
    let κ = κs.0 in let q = qs.0 in let b = a.0.ref_ptr.0 in let o = a.0.ref_ptr.1 in let h = a.0.now in let γ = a.0.ghost_name in let vs = mut_vals a.0 in
    let y : W.Ghost = ((κs, qs, bounds, a, (vs, tt)), tt) in
    qed 𝓛 (((‵ (flft κ q) ⊛ ‵ ftrue) ⊛ ‵ ((MutRef (named 0) κ R).own_val a.0 vs) ⊛ ‵ ftrue) ∷ ‵ ftrue ∷ []) ∵
    split ! $ split ! $ move ! (2 ∷ []) $ split ! $ keep ! (0 ∷ 2 ∷ []) $
    enter ! _ _ _ _ _ $ alloc_all ! (λ l. pass_all ! refl ((tt, tt), tt) $
    fsplit3 ! $ move ! (1 ∷ 2 ∷ 3 ∷ []) $ opens ! tt R b o (λ us.
    move ! (1 ∷ []) $ peeks ! R _ (shows 𝓛 R) h us (λ is. fsplit ! $ move ! (1 ∷ []) $
    in_a_block ! h.ptr (λ p. lies_at E full_share p h.value) (id⊢ 𝓤 _) (λ b' o' e.
    let word = lowers.val_is h us is ∙ ap (λ (p : Ptr). lowers.lowered (record h { ptr = p }) ∷ []) e in
    let Cell = λ (ws : List Val). ‵ (cell_at full_share R.mir ws b o) in
    rewrite ! 2 Cell word refl $
    first ! $ blocks ! $
    sets ! (of_opd ! (load ! (through ! refl (fld ! refl (stop !))) (look_in ! 2 (sub ! 0 refl (whole !))))) refl (tt, tt) $
    sets ! (of_opd ! (get ! refl)) refl (tt, tt) $
    sets_last ! (addr ! (through ! refl (stop !))) refl (tt, tt) $
    exec ! 𝓣.C 𝓣.Λ (env code.Mir.locals l) code.Mir.t-2 (at_ret _ (W.post y)) $
    sets ! (of_opd ! (get ! refl)) refl (tt, tt) $
    move ! (1 ∷ 2 ∷ []) $ fjoin ! $ move ! (2 ∷ 3 ∷ 4 ∷ 1 ∷ 0 ∷ []) $ group ! 5 $
    use1 𝓛 (later (some (λ (γ' : GName). raw (Part 𝓛 R E (with_value h) (named 0) κ q b o b' o' γ (sem 𝓛 (rest h us b o b' o')) (back 𝓛 h us b o b' o' e is) h.value γ'))))
    (lends_Part 𝓛 R E (with_value h) (named 0) κ q b o b' o' γ (sem 𝓛 (rest h us b o b' o')) (back 𝓛 h us b o b' o' e is) (R.coded.code h) (R.coded.code h) h.value) $ await ! tt $ pick ! (λ γ'.
    returns ! (look_at ! 0 refl) $ free_all ! refl $ keep ! (0 ∷ []) $
    use1 𝓛 (‵ ((MutRef (named 0) κ E).own_val (record { ref_ptr = (b', o'); ghost_name = γ'; now = h.value }) (vptr b' o' ∷ [])) ⊛ ‵ (flft κ q) ⊛ ‵ (follows R E γ γ' (with_value h))) (id⊢ 𝓤 _) $
    split3 ! $
    suffices ! _ (ends_at 𝓛 f.ended stayed c y (vptr b' o') (record { ref_ptr = (b', o'); ghost_name = γ'; now = h.value }) (tt, tt) (tt, tt)) $
    nothing ! $ nothing ! $ fjoin ! $ join ! $ nothing ! $ move ! (2 ∷ 0 ∷ []) $ join ! $ join ! $ frame ! $ says ! refl $ done !))))))
