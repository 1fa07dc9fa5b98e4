-- Functions that change nothing behind a reference, and whose `ensures` is a plain fact of the result. What such a
-- function's parameters own need not be kept, so its walk may end with the tokens and the result alone, where the fact
-- holds (`walked_meets`). A call of one gives these, and shows the fact, and that the machine value returned stands for
-- the result (`calls`).
-- Assumes `Logic`.
use Prim.Native.Nat.{ℕ}
use mathlib.Core.List.{List, [], ◌∷◌}
use seplogic.Ra.Ura.{Ura}
use mir.Syntax.{Callee, Place, Opd as Operand, Body, Fn, seq, call}
use mir.Val.{Val}
use base.Fml.{Lft, Share}
use base.Logic.{SProp, ent, sep, ex, guard, emp, id⊢, via, mono∗, mono_l, mono_r, fst∗, snd∗, emp∗, ex_i, ex_e, guard_i}
use prog.Model.{Model}
use prog.Routine.{Env as Routines}
use prog.Wp.{Env, Calls, Loops, Tables, WpFn, Closed}
use types.Logic.{Logic, sem}
use sound.WpLaws.{FmC, fm_of, WpFn-mono}
use contract.Lifetimes.{Lfts, Shares, AllOutlive, toks}
use contract.Monad.{fact, fact_use}
use contract.Running.{Running, tables, tables_of}
use types.Kit.{Item, Post, Seq, runs, lands, ‵, raw, ◌⊛◌, given, some, later, ◌$◌, ◌∵◌, !, qed}
use types.Kit.{move, use1, split, join, await, pick, learn, done}
use types.Run.{Opds}
use denote.RattleType.{RattleType, Denots, Valss, flat}
use denote.Laws.{Is, Ises, Are, Spells, Tellss, valss, shows}
use denote.Signature.{Slot, Signature, type_at, types_at}
use denote.Triple.Bound.{Bound, passed}
use denote.Triple.Call.{calls_at}
use denote.Triple.Clauses.{Ended, Clauses, Lasts, at_exit, closing, lasts}
use denote.Triple.End.{Kepts, Fins}
use denote.Triple.Entry.{Args, Res, alive, on_entry}
use denote.Triple.Spec.{Back, Meets, triple_of}
use denote.Triple.Statement.{Contract, Triple}
use denote.Triple.Table.{entered}
use denote.Triple.Walked.{says, Stays, stay_dropped, fits_of, has_of, walk_of, Ending, ends_at, walked}
use denote.Triple.Walked.{Silent, Goes-dropped, AllGo, walk_Meets}

-- ---- nothing is had of any parameter at exit, and nothing is said of it

module _ {n : ℕ} where
  abbrev dropped : (ss : List (Slot n)) (ks : Kepts ss) → Stays ss ks
  dropped [] ks = tt
  dropped (s ∷ ss) ks = (stay_dropped s ks.0, dropped ss ks.1)

  fits : (κs : Lfts n) (ss : List (Slot n)) (ks : Kepts ss) (a : Denots (types_at ss κs)) (ws : Fins κs ss ks a)
      → fits_of κs ss ks (dropped ss ks) a ws
  fits κs [] ks a ws = tt
  fits κs (s ∷ ss) ks a ws = (tt, fits κs ss ks.1 a.1 ws.1)

module _ {M : Type 1} {𝓤 : Ura M} (𝓛 : Logic 𝓤) where
  open 𝓛 use {H, A}

  none_had : {n : ℕ} (κs : Lfts n) (ss : List (Slot n)) (ks : Kepts ss) (a : Denots (types_at ss κs))
      (ws : Fins κs ss ks a) (vss : Valss (types_at ss κs))
      → ent 𝓤 (emp 𝓤) (sem 𝓛 (has_of κs ss ks (dropped ss ks) a ws vss))
  none_had κs [] ks a ws vss = id⊢ 𝓤 (emp 𝓤)
  none_had κs (s ∷ ss) ks a ws vss =
      via 𝓤 (sep 𝓤 (emp 𝓤) (emp 𝓤)) (emp∗ 𝓤 (emp 𝓤))
      (mono_r 𝓤 (emp 𝓤) (none_had κs ss ks.1 a.1 ws.1 vss.1))

  abbrev pub AllSilent : {n : ℕ} (ss : List (Slot n)) → Kepts ss → Type 1
  AllSilent [] ks = Unit {1}
  AllSilent {n} (s ∷ ss) ks = Silent 𝓛 n s ks.0 × AllSilent ss ks.1

  all_go : {n : ℕ} (ss : List (Slot n)) (ks : Kepts ss) → AllSilent ss ks → AllGo 𝓛 n ss ks (dropped ss ks)
  all_go [] ks q = tt
  all_go {n} (s ∷ ss) ks q = (Goes-dropped 𝓛 n s ks.0 q.0, all_go ss ks.1 q.1)

  -- ---- how a walk begins and ends, and what a call gives

  module _ (S : Signature) (x : Bound 𝓛 S) where
    -- the tokens, and what the parameters own
    abbrev pub Begins : SProp 𝓤
    Begins = on_entry 𝓛 S x.0 x.1 x.3 x.4

    module _ (φ : Res S x.0 → Type 0) where
      -- the tokens and the result, of which a fact holds
      abbrev Outcome : Val → Res S x.0 → SProp 𝓤
      Outcome v r = sep 𝓤 (Back 𝓛 S x v r) (fact 𝓤 (φ r))

      abbrev pub Ends : Val → SProp 𝓤
      Ends v = H.⇛ (ex 𝓤 (Outcome v))

      -- a walk of the code of e
      abbrev pub WalkAt : Calls 𝓤 H → Loops 𝓤 H → Fn → Type 1
      WalkAt C Λ e = ent 𝓤 Begins (WpFn 𝓤 H C Λ e (passed 𝓛 S x) Ends)

      pub ends : (v : Val) (r : Res S x.0) → φ r → ent 𝓤 (Back 𝓛 S x v r) (Ends v)
      ends v r said =
          via 𝓤 (Outcome v r) (qed 𝓛 (raw (Back 𝓛 S x v r) ∷ []) ∵ says ! said $ done !)
          (via 𝓤 (ex 𝓤 (Outcome v)) (ex_i 𝓤 (Outcome v) r) (𝓛.laws.⇛_intro (ex 𝓤 (Outcome v))))

      abbrev R : RattleType
      R = type_at S.result x.0

      -- what is learnt of a call's result: the machine value stands for it, and the fact
      abbrev Learnt : Val → Res S x.0 → Type 0
      Learnt v r = Is R r (v ∷ []) × φ r

      abbrev Told : Val → Res S x.0 → SProp 𝓤
      Told v r = guard 𝓤 (Learnt v r) (Back 𝓛 S x v r)

      told : (v : Val) (r : Res S x.0) → ent 𝓤 (Outcome v r) (Told v r)
      told v r =
          let back = Back 𝓛 S x v r in
          let own = sem 𝓛 (R.own_val r (v ∷ [])) in
          fact_use 𝓤 (φ r) (snd∗ 𝓤 back (fact 𝓤 (φ r))) (λ said.
          via 𝓤 back (fst∗ 𝓤 back (fact 𝓤 (φ r)))
          (fact_use 𝓤 (Is R r (v ∷ []))
          (via 𝓤 own (snd∗ 𝓤 (alive 𝓛 S x.0 x.1) own) (shows 𝓛 R r (v ∷ [])))
          (λ is. guard_i 𝓤 (Learnt v r) back (is, said))))

  -- a token that a callee was not lent stands beside what it gives back
  pub token_beside : (κ κ' : Lft) (q q' : Share) (R : RattleType) (r : R.Denot) (v : Val)
      → let own = sem 𝓛 (R.own_val r (v ∷ [])) in
      ent 𝓤 (sep 𝓤 (sep 𝓤 (toks 𝓛 1 (κ', tt) (q', tt)) own) (A.lft κ q))
      (sep 𝓤 (toks 𝓛 2 (κ, (κ', tt)) (q, (q', tt))) own)
  token_beside κ κ' q q' R r v =
      qed 𝓛 ((raw (toks 𝓛 1 (κ', tt) (q', tt)) ⊛ ‵ (R.own_val r (v ∷ []))) ∷ raw (A.lft κ q) ∷ []) ∵
      split ! $ move ! (2 ∷ 0 ∷ []) $ join ! $ join ! $ done !

  module _ (T : Ended) (c : Clauses 𝓤 T) where
    -- the contract as a caller has it
    abbrev pub Contracted : Contract 𝓤
    Contracted = triple_of 𝓛 T.signature (closing 𝓛 T c)

    module _ (y : Contracted.Ghost) (φ : Res T.signature y.0.0 → Type 0)
        (is : (r : Res T.signature y.0.0) (ws : Lasts T y.0.0 y.0.3)
        → ent 𝓤 ((c y.0.0 y.0.3).ensures y.1 r (at_exit T y.0.0 y.0.3 ws)) (fact 𝓤 (φ r))) where
      returned : (v : Val) → ent 𝓤 (Contracted.post y v) (H.⇛ (ex 𝓤 (Told T.signature y.0 φ v)))
      returned v =
          𝓛.laws.⇛_mono _ _ (ex_e 𝓤 _ (λ r.
          via 𝓤 (Outcome T.signature y.0 φ v r)
          (mono_r 𝓤 (Back 𝓛 T.signature y.0 v r) (ex_e 𝓤 _ (λ ws.
          let said = (c y.0.0 y.0.3).ensures y.1 r (at_exit T y.0.0 y.0.3 ws) in
          via 𝓤 said (snd∗ 𝓤 (sem 𝓛 (lasts T y.0.0 y.0.3 ws)) said) (is r ws))))
          (via 𝓤 (Told T.signature y.0 φ v r) (told T.signature y.0 φ v r)
          (ex_i 𝓤 (Told T.signature y.0 φ v) r))))

      -- the call rule
      pub calls : {K : Type 0} {Γ : List (Item 𝓤)} {E : Env 𝓤 H} {C : Calls 𝓤 H} {Λ : Loops 𝓤 H} {f : Callee}
          {xs : List Operand} {d : Place} {rest : Body} {q : Post 𝓤 H}
          → K → FmC 𝓤 H 𝓛.laws C → Triple 𝓤 (C f) Contracted
          → Opds K 𝓛 (raw (Contracted.pre y) ∷ Γ) E xs (Contracted.args y)
          → ((v : Val) (r : Res T.signature y.0.0) → Is (type_at T.signature.result y.0.0) r (v ∷ [])
          → φ r → Seq K 𝓛 (raw (Back 𝓛 T.signature y.0 v r) ∷ Γ) (lands C Λ E d v rest q))
          → Seq K 𝓛 (raw (Contracted.pre y) ∷ Γ) (runs C Λ E (seq (call f xs d) rest) q)
      calls t fm met os k =
          calls_at t fm Contracted met y os (λ v.
          use1 𝓛 (later (some (λ (r : Res T.signature y.0.0).
          given (Learnt T.signature y.0 φ v r) (raw (Back 𝓛 T.signature y.0 v r)))))
          (returned v) $ await t tt $ pick t (λ r. learn t (λ l. k v r l.0 l.1)))

-- ---- from a walk to the contract

-- what is to be said of a function besides its walk: the fact that its `ensures` states, that nothing is bound or said
-- of its parameters at exit, and how they are spelled as machine values
pub record Stated {M : Type 1} {𝓤 : Ura M} (𝓛 : Logic 𝓤) (T : Ended) (c : Clauses 𝓤 T)
    : Type 1 where
  pub φ : (κs : Lfts T.signature.lifetimes) (a : Args T.signature κs) → Res T.signature κs → Type 0
  pub bound : (κs : Lfts T.signature.lifetimes) (a : Args T.signature κs) → Lasts T κs a
  pub silent : AllSilent 𝓛 T.signature.params T.kept
  pub is : (κs : Lfts T.signature.lifetimes) (a : Args T.signature κs) (g : (c κs a).ghost)
      (r : Res T.signature κs)
      → ent 𝓤 (fact 𝓤 (φ κs a r)) ((c κs a).ensures g r (at_exit T κs a (bound κs a)))
  pub spells : (κs : Lfts T.signature.lifetimes) → Spells (types_at T.signature.params κs)
  pub tells : (κs : Lfts T.signature.lifetimes)
      → Tellss (types_at T.signature.params κs) (Ises (types_at T.signature.params κs)) (spells κs)

module _ {M : Type 1} {𝓤 : Ura M} (𝓛 : Logic 𝓤) (T : Ended) (c : Clauses 𝓤 T)
    (F : Stated 𝓛 T c) where
  open 𝓛 use {H}

  abbrev hs : Stays T.signature.params T.kept
  hs = dropped T.signature.params T.kept

  leaves : (y : (walk_of 𝓛 T hs c).Ghost) (v : Val)
      → ent 𝓤 (Ends 𝓛 T.signature y.0 (F.φ y.0.0 y.0.3) v) ((walk_of 𝓛 T hs c).post y v)
  leaves y v =
      let κs = y.0.0 in
      let a = y.0.3 in
      let ws = F.bound κs a in
      via 𝓤 (H.⇛ ((walk_of 𝓛 T hs c).post y v))
      (𝓛.laws.⇛_mono _ _ (ex_e 𝓤 _ (λ r.
      let own = sem 𝓛 ((type_at T.signature.result κs).own_val r (v ∷ [])) in
      via 𝓤 (Ending 𝓛 T hs c y v r ws)
      (mono∗ 𝓤
      (mono_r 𝓤 (alive 𝓛 T.signature κs y.0.1)
      (via 𝓤 (sep 𝓤 (emp 𝓤) own) (emp∗ 𝓤 own)
      (mono_l 𝓤 own (none_had 𝓛 κs T.signature.params T.kept a ws y.0.4))))
      (F.is κs a y.1 r))
      (ends_at 𝓛 T hs c y v r ws (fits κs T.signature.params T.kept a ws)))))
      (𝓛.laws.⇛_trans _)

  -- the parameters' machine values
  abbrev values : (κs : Lfts T.signature.lifetimes) → Args T.signature κs
      → Valss (types_at T.signature.params κs)
  values κs a = valss (types_at T.signature.params κs) (F.spells κs) a

  -- a walk of the code, whatever a call brings
  abbrev pub Walk : Calls 𝓤 H → Loops 𝓤 H → Fn → Type 1
  Walk C Λ e =
      (κs : Lfts T.signature.lifetimes) (qs : Shares T.signature.lifetimes)
      (bounds : AllOutlive T.signature.lifetimes T.signature.outlives κs) (a : Args T.signature κs)
      (g : (c κs a).ghost)
      → Are (types_at T.signature.params κs) (Ises (types_at T.signature.params κs)) a (values κs a)
      → ent 𝓤 (sep 𝓤 (on_entry 𝓛 T.signature κs qs a (values κs a)) ((c κs a).requires g))
      (WpFn 𝓤 H C Λ e (flat (types_at T.signature.params κs) (values κs a))
      (Ends 𝓛 T.signature (κs, qs, bounds, a, values κs a) (F.φ κs a)))

  meets : (𝓣 : Tables 𝓤 H) (e : Fn) → Walk 𝓣.C 𝓣.Λ e
      → Meets 𝓛 T.signature (WpFn 𝓤 H 𝓣.C 𝓣.Λ e) (closing 𝓛 T c)
  meets 𝓣 e walk =
      let mono = WpFn-mono 𝓤 H 𝓛.laws 𝓣 e in
      walk_Meets 𝓛 T hs (all_go 𝓛 T.signature.params T.kept F.silent) c
      (WpFn 𝓤 H 𝓣.C 𝓣.Λ e) mono
      (walked 𝓛 T hs c (WpFn 𝓤 H 𝓣.C 𝓣.Λ e) F.spells F.tells (λ κs qs bounds a g are.
      via 𝓤 _ (walk κs qs bounds a g are)
      (mono (flat (types_at T.signature.params κs) (values κs a)) _ _
      (λ v. leaves ((κs, qs, bounds, a, values κs a), g) v))))

-- a function whose code is walked meets its contract, as the routine that its name means
module _ {M : Type 1} {𝓤 : Ura M} (𝓛 : Logic 𝓤) (𝓜 : Model 𝓤 𝓛.H) (𝓡 : Running 𝓤 𝓛.H 𝓜)
    (γ : Routines) where
  open 𝓛 use {H}

  pub walked_meets : (k : Callee) (e : Fn) → Closed 𝓤 H (tables 𝓤 H 𝓜 𝓡 γ).C (tables 𝓤 H 𝓜 𝓡 γ).Λ k e
      → (T : Ended) (c : Clauses 𝓤 T) (F : Stated 𝓛 T c)
      → (FmC 𝓤 H 𝓛.laws (tables 𝓤 H 𝓜 𝓡 γ).C
      → Walk 𝓛 T c F (tables 𝓤 H 𝓜 𝓡 γ).C (tables 𝓤 H 𝓜 𝓡 γ).Λ e)
      → Meets 𝓛 T.signature (𝓡.run (γ k)) (closing 𝓛 T c)
  unfolding tables_of
  walked_meets k e closed T c F walk =
      let 𝓣 = tables_of 𝓤 H 𝓜 (tables 𝓤 H 𝓜 𝓡 γ) in
      entered 𝓤 H (Contracted 𝓛 T c) (tables 𝓤 H 𝓜 𝓡 γ).C (tables 𝓤 H 𝓜 𝓡 γ).Λ k e closed
      (meets 𝓛 T c F 𝓣 e (walk (fm_of 𝓤 H 𝓛.laws 𝓣)))
