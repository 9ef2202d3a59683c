-- A handle that C keeps: an exchange moves two pointers, and what each owns goes with it. Assumes `Logic`.
use Rattle.std.proofs.Common.{◌≡◌, List, [], ◌∷◌, ◌++◌, refl, sym, ap, subst}
use seplogic.Ra.Ura.{Ura}
use mir.Syntax.{Body, Callee, Fn, Local, local, value_local, copy, deref, field, mut, named, place, rv_opd, aggregate, assign, seq, return, tnil, ty_named, ty_ptr, ty_ref}
use mir.Val.{Val, vptr}
use base.Logic.{SProp, ent, emp, id⊢}
use base.Fml.{Fml, fex, fsep, ftrue, flft}
use base.Fraction.{full_share}
use prog.Model.{Model}
use prog.Wp.{WpFn, Closed}
use types.Logic.{Logic}
use types.Kit.{‵, raw, ◌⊛◌, ◌$◌, ◌∵◌, !, qed, by, move, keep, drop, join, split, fsplit, fsplit3, fjoin, fpack, feq_i, rewrite, suffices, use0}
use types.Run.{stop, fld, load, no_more, and_then, of_opd, assigns, returns, enter}
use types.ByLocal.{alloc_all, pass_all, free_all, look_at, get, get_in, sets, through}
use types.Part.{whole, sub, agg, look_in, store_in}
use contract.Monad.{fact, fact_i}
use contract.Notation.{Connectives, connectives}
use contract.Running.{Running, tables}
use denote.Builtin.{RawPtr, RefMutOf}
use denote.Exit.{yes}
use denote.Laws.{shows}
use denote.Memory.{cell_at, lone}
use denote.RattleType.{RattleType, Valss, owns}
use denote.RawPtr.{Ptr, ptr_val}
use denote.Signature.{Signature, types_at, plain}
use denote.Steps.{nothing, opens, closes, peeks}
use denote.Struct.Field.{RawPtr-field}
use denote.Struct.Laws.{RawPtr-laws}
use denote.Struct.Owning.{Owning, row, shape}
use denote.Struct.OwningLaws.{Tells-lowered}
use denote.Struct.Struct.{within}
use denote.Triple.Clauses.{Clauses, Ended, closing}
use denote.Triple.Spec.{Meets}
use denote.Triple.Walked.{Stays, stay_dropped, stay_ref, walk_of, Goes-dropped, Goes-ref}
use Rattle.core.proofs.atomic.Steps.{Ptr-Good}
use Rattle.core.specs.declared.option.Option.{Option}
use Rattle.std_alloc.proofs.ResultValues.{and_tt}
use Rattle.std.proofs.raw_atomic.Walks.{proved_at, leaves}
use Rattle.xns_c.specs.Owned.{owned_if}
use Rattle.xns_c.proofs.Owned.{one, Owner, owner_out, owner_in}

-- a handle of values of the row R: its name and codes are those of N, and it has a pointer and what the pointer owns
module _ (R : RattleType) (N : Owning) (at : N.D → Ptr) (value : N.D → Option R.Denot) where
  abbrev handle : Owning
  handle = record {
    name = N.name;
    args = [];
    types = [];
    parts = RawPtr-field ∷ [];
    D = N.D;
    as_values = λ h. (at h, tt);
    coded = N.coded;
    heap = λ h. owned_if R (at h) (value h);
    exit = N.exit;
    shr_at = N.shr_at;
  }

  abbrev E : RattleType
  E = row handle

  abbrev signature : Signature
  signature = record {
    lifetimes = 1;
    outlives = [];
    params = RefMutOf (0 ∷ []) tt (plain (λ κs. E)) (λ κs. tt) ∷ plain (λ κs. Owner R) ∷ [];
    result = plain (λ κs. Owner R);
  }

  abbrev ended : Ended
  ended = record { signature = signature; kept = (yes, (yes, tt)) }

  -- the code of an exchange
  abbrev locals : List Local
  locals = local (lone (Owner R).mir) value_local ∷ local (ty_ref (named 0) mut (ty_named (N.name, []) tnil)) value_local ∷ local (lone (Owner R).mir) value_local
      ∷ local ty_ptr value_local ∷ local ty_ptr value_local ∷ local ty_ptr value_local ∷ local ty_ptr value_local ∷ []

  abbrev body : Body
  body = seq (assign (place 3 []) (rv_opd (copy (place 2 (field 0 ∷ []))))) (seq (assign (place 4 []) (rv_opd (copy (place 1 (deref (lone E.mir) ∷ field 0 ∷ [])))))
      (seq (assign (place 5 []) (rv_opd (copy (place 3 [])))) (seq (assign (place 1 (deref (lone E.mir) ∷ field 0 ∷ [])) (rv_opd (copy (place 5 []))))
      (seq (assign (place 6 []) (rv_opd (copy (place 4 [])))) (seq (assign (place 0 []) (aggregate (copy (place 6 []) ∷ []))) return)))))

  abbrev function : Fn
  function = record { lifetimes = 1; outlives = []; ty_params = []; givens = 0; params = 2; locals = locals; body = body }

  module _ {M : Type 1} {𝓤 : Ura M} where
    abbrev 𝓝 : Connectives 𝓤
    𝓝 = connectives 𝓤

    open 𝓝 use {⌜◌⌝, ⊤ₛ}

    abbrev clauses : Clauses 𝓤 ended
    clauses = λ κs args. record {
      ghost = Unit {0};
      requires = λ ghosts. ⊤ₛ;
      ensures = λ ghosts result end. ⌜◌⌝ ((value end.0.now ≡ args.1.0.value) × (result.value ≡ value args.0.now));
    }

  pub exchanges : (made : Ptr → Option R.Denot → N.D) → ((p : Ptr) (y : Option R.Denot) → ◌≡◌ {A = Ptr × Option R.Denot} (p, y) (at (made p y), value (made p y)))
      → {M : Type 1} (𝓤 : Ura M) (𝓛 : Logic 𝓤) (𝓜 : Model 𝓤 𝓛.H) (𝓡 : Running 𝓤 𝓛.H 𝓜) (k : Callee)
      → Closed 𝓤 𝓛.H (tables 𝓤 𝓛.H 𝓜 𝓡 𝓡.env).C (tables 𝓤 𝓛.H 𝓜 𝓡 𝓡.env).Λ k function
      → Meets 𝓛 signature ((tables 𝓤 𝓛.H 𝓜 𝓡 𝓡.env).C k) (closing 𝓛 ended clauses)
  exchanges made is_made 𝓤 𝓛 𝓜 𝓡 k unfolded =
      let H = 𝓛.H in let 𝓣 = tables 𝓤 H 𝓜 𝓡 𝓡.env in let fn = function in let c : Clauses 𝓤 ended = clauses in
      let hs : Stays ended.signature.params ended.kept = (stay_ref (0 ∷ []) tt (plain (λ _. E)), (stay_dropped (plain (λ _. Owner R)) ended.kept.1.0, tt)) in
      proved_at 𝓛 ended hs c 𝓜 𝓡 (Goes-ref 𝓛 1 0 tt (plain (λ _. E)), (Goes-dropped 𝓛 1 (plain (λ _. Owner R)) ended.kept.1.0 (λ κs x f. refl), tt)) k fn unfolded (λ z are.
      let κ = z.0.0.0 in let q = z.0.1.0 in let m = z.0.3.0 in let b = m.ref_ptr.0 in let o = m.ref_ptr.1 in let h = m.now in let d = z.0.3.1.0 in let w : Val = one (ptr_val d.at) in
      let Post : Val → SProp 𝓤 = (walk_of 𝓛 ended hs c).post z in let Run : List Val → SProp 𝓤 = λ ws. WpFn 𝓤 H 𝓣.C 𝓣.Λ fn ws Post in let us : List Val = vptr b o ∷ w ∷ [] in
      let given : (Owner R).Denot = record { at = at h; value = value h } in let left : E.Denot = made d.at d.value in let Told : Type 0 = (value left ≡ d.value) × (given.value ≡ value h) in
      let Left : Ptr × Option R.Denot → Fml = λ x. fsep (fex (Valss (RawPtr ∷ [])) (within (shape handle) (x.0, tt) (w ∷ []))) (owned_if R x.0 x.1) in
      qed 𝓛 (((‵ (flft κ q) ⊛ ‵ ftrue) ⊛ ‵ (owns (types_at ended.signature.params z.0.0) z.0.3 z.0.4)) ∷ raw ((c z.0.0 z.0.3).requires z.1) ∷ []) ∵ split ! $ split ! $ move ! (2 ∷ []) $ fsplit ! $ move ! (1 ∷ []) $ fsplit ! $
      owner_out R ! d z.0.4.1.0 (λ ws.
      -- [what comes; true; self; the token; true; nothing]
      keep ! (2 ∷ 3 ∷ 0 ∷ []) $ suffices ! (Run us) (subst (λ (xs : List Val). ent 𝓤 (Run us) (Run xs)) (sym (λ i. are.0.0 i ++ (ws i ++ []))) (id⊢ 𝓤 (Run us))) $
      enter ! 𝓣.C 𝓣.Λ fn us Post $ alloc_all ! (λ l. pass_all ! refl ((tt, tt), ((and_tt _ (Ptr-Good d.at).0, ((Ptr-Good d.at).1, tt)), tt)) $
      fsplit3 ! $ move ! (1 ∷ 2 ∷ 3 ∷ []) $ opens ! tt E b o (λ vs.
      move ! (1 ∷ []) $ peeks ! E _ (shows 𝓛 E) h vs (λ is. rewrite ! 1 (λ (xs : List Val). ‵ (cell_at full_share E.mir xs b o)) (Tells-lowered handle (RawPtr-laws, tt) h vs is) refl $ fsplit ! $ drop ! $
      -- [what self owned; self's cell; the open borrow, in three entries; self's first part; what comes]
      sets ! (of_opd ! (get_in ! (fld ! refl (stop !)) (sub ! 0 refl (whole !)))) refl (Ptr-Good d.at) $
      sets ! (of_opd ! (load ! (through ! refl (fld ! refl (stop !))) (look_in ! 1 (sub ! 0 refl (whole !))))) refl (Ptr-Good (at h)) $
      sets ! (of_opd ! (get ! refl)) refl (Ptr-Good d.at) $
      assigns ! (of_opd ! (get ! refl)) (through ! refl (fld ! refl (stop !))) (store_in ! 1 (sub ! 0 refl (whole !)) (Ptr-Good d.at)) $
      sets ! (of_opd ! (get ! refl)) refl (Ptr-Good (at h)) $
      sets ! (agg ! (and_then ! (get ! refl) (no_more !))) refl (and_tt _ (Ptr-Good (at h)).0, ((Ptr-Good (at h)).1, tt)) $
      owner_in R ! (at h) (value h) $ move ! (6 ∷ []) $
      nothing ! $ feq_i ! (List Val) (ptr_val d.at ∷ []) (ptr_val d.at ∷ []) refl $ fjoin ! $ feq_i ! (List Val) (w ∷ []) (w ∷ []) refl $ fjoin ! $
      fpack ! (Valss (RawPtr ∷ [])) (within (shape handle) (d.at, tt) (w ∷ [])) (ptr_val d.at ∷ [], tt) $ fjoin ! $ rewrite ! 0 (λ x. ‵ (Left x)) (is_made d.at d.value) refl $
      -- [what self owns; the result; self's cell; the open borrow; self's first part]
      move ! (2 ∷ 0 ∷ 3 ∷ 4 ∷ 5 ∷ []) $ closes ! tt E left (w ∷ []) b o $
      -- [two parts of self; the token; the result; self's first part]
      fjoin ! $ move ! (3 ∷ 0 ∷ []) $ fjoin ! $ nothing ! $ nothing ! $ fjoin ! $ move ! (1 ∷ 0 ∷ []) $ fjoin ! $ nothing ! $ move ! (2 ∷ 0 ∷ []) $ join ! $
      use0 𝓛 (raw (fact 𝓤 Told)) (fact_i 𝓤 Told (emp 𝓤) (sym (ap (λ (x : Ptr × Option R.Denot). x.1) (is_made d.at d.value)), refl)) $
      returns ! (look_at ! 0 refl) $ free_all ! refl $ keep ! (1 ∷ 2 ∷ 3 ∷ 0 ∷ []) $ by ! (leaves 𝓛 ended hs c z (one (ptr_val (at h))) given (left, (tt, tt)) (tt, (tt, tt))))))))
