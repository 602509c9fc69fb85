-- A closed session is put into room of C's: a walk of the MIR by hand.
use Rattle.std.proofs.Common.{[], ◌∷◌, ◌++◌, refl}
use Rattle.std.proofs.raw_atomic.Walks.{proved}
use base.Fraction.{full_share}
use base.Logic.{id⊢, sep, snd∗, ex_e}
use base.Fml.{fex, fsep, ftrue, fat}
use mir.Val.{Val, vunit}
use prog.Wp.{WpFn}
use types.Logic.{sem}
use types.Kit.{‵, raw, ◌⊛◌, some, later, at_ret, prop, ◌$◌, ◌∵◌, !, qed, done, move, drop, use1, use2, split, join, feq_i, pick, await, regoal, suffices, group, fjoin, fpack}
use types.Run.{enter, of_opd, unit_lit, no_more, and_then, returns, assigns_last, first, blocks, exec, load, look, stop, init}
use types.ByLocal.{alloc_all, pass_all, free_all, look_at, get, through, sets, sets_last, lands_as, env}
use contract.Monad.{fact}
use contract.Running.{tables}
use denote.Exit.{yes}
use denote.Laws.{Is, shows}
use denote.Memory.{part_at}
use denote.RawPtr.{Ptr, RawPtr, block_ptr, lies_at, room_at, in_a_block, rawptr_vals, rawptr_Tells}
use denote.Signature.{plain}
use denote.Steps.{nothing, heard, peeks}
use denote.Triple.Call.{calls_at}
use denote.Triple.Clauses.{ensured, lasts}
use denote.Triple.Entry.{on_entry}
use denote.Triple.Spec.{triple_of}
use denote.Triple.Walked.{Stays, stay_dropped, Goes-dropped, walk_of, ends_at}
use denote.Triple.Table.{framed}
use borrow.Table.OneValue.{part_in, part_out}
use denote.Param.{layout}
use Rattle.std.specs.contracts.fs.File.{the_row as F}
use Rattle.std.proofs.fs.File.TheLaws.{the_row_laws as file_laws}
use Rattle.embedded.specs.declared.image.ImageEngine.{ImageEngine}
use Rattle.embedded.specs.Taking.{IsNew}
use Rattle.embedded.specs.contracts.image.ImageEngine.{the_row as E}
use Rattle.embedded.proofs.image.ImageEngine.TheLaws.{the_row_laws}
use Rattle.embedded.specs.contracts.image.ImageEngine.over as g
use Rattle.embedded.proofs.image.ImageEngine.over.Met.{met}
use Rattle.pilot_c.specs.contracts.place.pilot_place as f
use Rattle.pilot_c.proofs.place.pilot_place.Statement.{statement}
use Rattle.pilot_c.proofs.place.pilot_place.Code as code

abbrev stayed : Stays f.ended.signature.params f.ended.kept
stayed = (stay_dropped _ yes, (stay_dropped _ yes, tt))

pub pilot_place_spec : {M : Type 1} → statement M
pilot_place_spec 𝓤 𝓛 𝓜 𝓡 wired =
    let c = f.clauses 𝓛 𝓜.mem 𝓡.returns in let W = walk_of 𝓛 f.ended stayed c in let 𝓣 = tables 𝓤 𝓛.H 𝓜 𝓡 𝓡.env in
    proved 𝓛 f.ended stayed c 𝓜 𝓡 (Goes-dropped 𝓛 0 (plain (λ _. RawPtr)) yes (λ κs x w. refl), (Goes-dropped 𝓛 0 (plain (λ _. RawPtr)) yes (λ κs x w. refl), tt))
    f.Key.name code.function (code.unfolded 𝓤 𝓛.H 𝓜 𝓡 wired)
    (λ κs. (rawptr_vals, (rawptr_vals, tt))) (λ κs. (rawptr_Tells, (rawptr_Tells, tt))) (λ κs qs bounds a n are.
    let y : Ptr → Ptr → W.Ghost = λ p t. ((κs, qs, bounds, (p, (t, tt)), (rawptr_vals p, (rawptr_vals t, tt))), n) in
    let G = triple_of 𝓛 g.signature (g.spec 𝓛 𝓜.mem 𝓡.returns) in
    qed 𝓛 (raw (on_entry 𝓛 f.signature κs qs a (y a.0 a.1.0).0.4) ∷ (‵ (room_at E a.0) ⊛ ‵ (lies_at F full_share a.1.0 n)) ∷ []) ∵ drop ! $ split ! $
    in_a_block ! a.0 (λ p. room_at E p) (id⊢ 𝓤 _) (λ b o e. move ! (1 ∷ []) $
    in_a_block ! a.1.0 (λ p. lies_at F full_share p n) (id⊢ 𝓤 _) (λ b' o' e'.
    regoal ! (λ p. prop (WpFn 𝓤 𝓛.H 𝓣.C 𝓣.Λ code.function (rawptr_vals p ++ rawptr_vals a.1.0) (W.post (y p a.1.0)))) e refl $
    regoal ! (λ t. prop (WpFn 𝓤 𝓛.H 𝓣.C 𝓣.Λ code.function (rawptr_vals (block_ptr b o) ++ rawptr_vals t) (W.post (y (block_ptr b o) t)))) e' refl $
    use1 𝓛 (some (λ (v : Val). ‵ (fat full_share (layout F) b' o' v) ⊛ ‵ (F.own_val n (v ∷ [])))) (part_out 𝓛 F refl full_share n b' o') $ pick ! (λ v. split ! $ move ! (1 ∷ []) $
    peeks ! F (Is F) (shows 𝓛 F) n (v ∷ []) (λ has. let well = (((file_laws).lawful 𝓛).typed n _ has).0 in
    let z : G.Ghost = ((tt, tt, tt, (n, tt), (v ∷ [], tt)), tt) in
    enter ! _ _ _ _ _ $ alloc_all ! (λ l. pass_all ! refl ((tt, tt), ((tt, tt), tt)) $
    first ! $ blocks ! $
    sets ! (of_opd ! (get ! refl)) refl (tt, tt) $
    sets_last ! (of_opd ! (load ! (through ! refl (stop !)) (look ! 1 refl))) refl well $
    exec ! 𝓣.C 𝓣.Λ (env code.Mir.locals l) code.Mir.t-2 (at_ret (env (code.function).locals l) (W.post (y (block_ptr b o) (block_ptr b' o')))) $
    sets ! (of_opd ! (get ! refl)) refl well $
    sets ! (of_opd ! (get ! refl)) refl well $
    move ! (1 ∷ []) $ drop ! $ nothing ! $ move ! (1 ∷ 0 ∷ []) $ fjoin ! $ nothing ! $ join ! $ nothing ! $ move ! (1 ∷ 0 ∷ []) $ use2 𝓛 (raw (G.pre z)) (id⊢ 𝓤 _) $
    calls_at ! (framed 𝓤 𝓛.H 𝓜 (tables 𝓤 𝓛.H 𝓜 𝓡 𝓡.env)) G (met 𝓤 𝓛 𝓜 𝓡 (code.calls-embedded::image::ImageEngine::over 𝓡.env wired)) z (and_then ! (get ! refl) (no_more !)) (λ u.
    use1 𝓛 (later (some (λ (r : ImageEngine). (‵ ftrue ⊛ ‵ (E.own_val r (u ∷ []))) ⊛ raw (ensured 𝓛 g.ended (g.clauses 𝓛 𝓜.mem 𝓡.returns) tt (n, tt) tt r)))) (id⊢ 𝓤 _) $
    await ! tt $ pick ! (λ r. split ! $ move ! (1 ∷ []) $
    use1 𝓛 (raw (fact 𝓤 (IsNew r.engine))) (ex_e 𝓤 _ (λ ws. snd∗ 𝓤 (sem 𝓛 (lasts g.ended tt (n, tt) ws)) (fact 𝓤 (IsNew r.engine)))) $
    heard ! (IsNew r.engine) (λ fresh. split ! $ drop ! $
    peeks ! E (Is E) (shows 𝓛 E) r (u ∷ []) (λ is. let good = (((the_row_laws).lawful 𝓛).typed r _ is).0 in
    lands_as ! refl refl good $
    first ! $ blocks ! $
    sets ! (of_opd ! (get ! refl)) refl (tt, tt) $
    sets ! (of_opd ! (get ! refl)) refl good $
    assigns_last ! (of_opd ! (get ! refl)) (through ! refl (stop !)) (init ! 1 refl good) $
    exec ! 𝓣.C 𝓣.Λ (env code.Mir.locals l) code.Mir.t-6 (at_ret (env (code.function).locals l) (W.post (y (block_ptr b o) (block_ptr b' o')))) $
    sets ! (of_opd ! (unit_lit !)) refl (tt, tt) $
    returns ! (look_at ! 0 refl) $ free_all ! refl $
    move ! (1 ∷ 0 ∷ []) $
    use2 𝓛 (‵ (part_at E full_share r b o)) (part_in 𝓛 E refl full_share r b o u) $
    use1 𝓛 (‵ (lies_at E full_share (block_ptr b o) r)) (id⊢ 𝓤 _) $
    nothing ! $ fpack ! (IsNew r.engine) (λ _. ftrue) fresh $ move ! (1 ∷ 0 ∷ []) $ fjoin ! $
    fpack ! ImageEngine (λ x. fsep (lies_at E full_share (block_ptr b o) x) (fex (IsNew x.engine) (λ _. ftrue))) r $
    suffices ! _ (ends_at 𝓛 f.ended stayed c (y (block_ptr b o) (block_ptr b' o')) vunit tt (tt, (tt, tt)) (tt, (tt, tt))) $
    feq_i ! _ (vunit ∷ []) _ refl $ nothing ! $ nothing ! $ join ! $ nothing ! $ join ! $ nothing ! $ group ! 3 $ done !))))))))))
