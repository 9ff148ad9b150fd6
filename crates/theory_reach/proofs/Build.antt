-- A list of groups built one by one, each time the group of the lowest gate that may be next, is the first part of
-- `groups`, and is `groups` once every gate is in it. The code of Groups cites it.
--   built-numbered, built-count   what is built is a numbered list, and no longer than its gates
--   built-groups                  once it holds every gate it is `groups`
--   groups-built, groups-at       each first part of `groups` is so built, and entry t is the next gate's group
-- Assumes nothing.
use Prim.Native.Nat.{ℕ, zero, suc, ◌-◌, ◌≤◌, ◌<◌}
use mathlib.Core.Path.{◌≡◌, refl, sym, ap, ◌∙◌}
use mathlib.Core.Logic.{◌⊎◌, inl, inr}
use mathlib.Core.Bool.{true}
use mathlib.Core.List.{List, [], ◌∷◌, ◌++◌, append_assoc, append-nil}
use native.Mathlib.Omega.{arith}
use lib.ListN.{length, get_or, take, length-append}
use lib.Seq.{take-nil, get_or_at, length-take-le}
use Rattle.prelude.specs.Lists.{joined, member, count_below}
use Rattle.prelude.proofs.Tests.{not-both, lt-or-le}
use Rattle.prelude.proofs.Lists.{joined_snoc}
use Rattle.prelude.proofs.Counting.{count_below-le}
use Rattle.netlist.specs.Netlist.{Block, gate_count}
use Rattle.netlist.specs.Groups.{group_of, groups_after, groups}
use Rattle.theory_reach.specs.Numbering.{Numbered, next_gate, Built, none, next}
use Rattle.theory_reach.proofs.Next.{may_be_next-left, numbered-none}
use Rattle.theory_reach.proofs.Next.{numbered_next, next-counts}
use Rattle.theory_reach.proofs.Order.{next_gate-passes, groups_after-elim, groups_after-found, groups_after-none}

module _ (b : Block) where
  -- the gates of a built list are whole groups, each gate once, and all that they read
  pub built-numbered : {gs : List (List ℕ)} → Built b gs → Numbered b (joined gs)
  built-numbered none = numbered-none b
  built-numbered (next {gs} r h) =
      rw (joined_snoc gs (group_of b (next_gate b (joined gs))))
      (numbered_next b (joined gs) (next_gate b (joined gs)) (built-numbered r) (next_gate-passes b (joined gs) h))

  -- a group more, a gate more
  pub built-count : {gs : List (List ℕ)} → Built b gs → length gs ≤ count_below (λ k. member k (joined gs)) (gate_count b)
  built-count none = omega arith
  built-count (next {gs} r h) =
      let u = built-count r in
      let v = next-counts b (joined gs) (next_gate b (joined gs)) h (next_gate-passes b (joined gs) h) in
      rw (joined_snoc gs (group_of b (next_gate b (joined gs))))
      (simp length-append (omega arith))

  -- while a group may be next, there are fewer groups than gates
  pub built-fewer : {gs : List (List ℕ)} → Built b gs → next_gate b (joined gs) < gate_count b → length gs < gate_count b
  built-fewer {gs} r h =
      let u = built-count r in
      let v = next-counts b (joined gs) (next_gate b (joined gs)) h (next_gate-passes b (joined gs) h) in
      let w = count_below-le (λ k. member k (joined gs ++ group_of b (next_gate b (joined gs)))) (gate_count b) in
      omega arith

  -- what is built is the first part of the list, and the rule gives the rest
  pub built-rest : {gs : List (List ℕ)} → Built b gs
      → groups b ≡ gs ++ groups_after b (gate_count b - length gs) (joined gs)
  unfolding groups
  built-rest none = let e : gate_count b ≡ gate_count b - 0 = omega arith in ap (λ (n : ℕ). groups_after b n []) e
  built-rest (next {gs} r h) =
      let g = group_of b (next_gate b (joined gs)) in
      let more = gate_count b - length (gs ++ (g ∷ [])) in
      let f = built-fewer r h in
      let e : gate_count b - length gs ≡ suc more = simp length-append (omega arith) in
      built-rest r
      ∙ ap (λ (n : ℕ). gs ++ groups_after b n (joined gs)) e
      ∙ ap (λ (l : List (List ℕ)). gs ++ l) (groups_after-found b more (joined gs) h)
      ∙ sym (append_assoc gs (g ∷ []) (groups_after b more (joined gs ++ g)))
      ∙ ap (λ (l : List ℕ). gs ++ (g ∷ []) ++ groups_after b more l) (sym (joined_snoc gs g))

  -- where no group may be next, the list is built
  pub built-end : {gs : List (List ℕ)} → Built b gs → gate_count b ≤ next_gate b (joined gs) → gs ≡ groups b
  built-end {gs} r h =
      sym
      (built-rest r
      ∙ ap (λ (l : List (List ℕ)). gs ++ l) (groups_after-none b (gate_count b - length gs) (joined gs) h)
      ∙ append-nil gs)

  -- where every gate is in it, the list is built
  pub built-groups : {gs : List (List ℕ)} → Built b gs → ((j : ℕ) → j < gate_count b → member j (joined gs) ≡ true)
      → gs ≡ groups b
  built-groups {gs} r all = built-end r (go (lt-or-le (next_gate b (joined gs)) (gate_count b)))
    where
      go : (next_gate b (joined gs) < gate_count b) ⊎ (gate_count b ≤ next_gate b (joined gs))
          → gate_count b ≤ next_gate b (joined gs)
      go (inl l) =
          (not-both (all (next_gate b (joined gs)) l) (may_be_next-left b (joined gs) _ (next_gate-passes b (joined gs) l)))
      go (inr l) = l

  after-built : (more : ℕ) (done : List ℕ) (t : ℕ) (gs : List (List ℕ)) → joined gs ≡ done → Built b gs
      → Built b (gs ++ take t (groups_after b more done))
  after-built =
      groups_after-elim b
      (λ more done rest. (t : ℕ) (gs : List (List ℕ)) → joined gs ≡ done → Built b gs → Built b (gs ++ take t rest))
      (λ done t gs e r. rw (take-nil {A = List ℕ} t, append-nil gs) r)
      (λ more done l f t gs e r. go more done l f t gs e r)
      (λ more done l t gs e r. rw (take-nil {A = List ℕ} t, append-nil gs) r)
    where
      go : (more : ℕ) (done : List ℕ) → next_gate b done < gate_count b
          → ((t : ℕ) (gs : List (List ℕ)) → joined gs ≡ done ++ group_of b (next_gate b done) → Built b gs
          → Built b (gs ++ take t (groups_after b more (done ++ group_of b (next_gate b done)))))
          → (t : ℕ) (gs : List (List ℕ)) → joined gs ≡ done
          → Built b gs
          → Built b (gs
          ++ take t (group_of b (next_gate b done) ∷ groups_after b more (done ++ group_of b (next_gate b done))))
      go more done l f zero gs e r = rw (append-nil gs) r
      go more done l f (suc t) gs e r =
          let g = group_of b (next_gate b done) in
          let r' : Built b (gs ++ (g ∷ [])) = rw e at (next r (rw e l)) in
          let e' : joined (gs ++ (g ∷ [])) ≡ done ++ g = joined_snoc gs g ∙ ap (λ (x : List ℕ). x ++ g) e in
          rw (append_assoc gs (g ∷ []) (take t (groups_after b more (done ++ g)))) at (f t (gs ++ (g ∷ [])) e' r')

  -- the rule builds every first part of the list
  pub groups-built : (t : ℕ) → Built b (take t (groups b))
  unfolding groups
  groups-built t = after-built (gate_count b) [] t [] refl none

  -- group t is that of the lowest gate that may be next when the first t are numbered
  pub groups-at : (t : ℕ) → t < length (groups b) → (next_gate b (joined (take t (groups b))) < gate_count b)
      × (get_or (groups b) t [] ≡ group_of b (next_gate b (joined (take t (groups b)))))
  groups-at t h = go (lt-or-le (next_gate b (joined (take t (groups b)))) (gate_count b))
    where
      go : (next_gate b (joined (take t (groups b))) < gate_count b)
          ⊎ (gate_count b ≤ next_gate b (joined (take t (groups b))))
          → (next_gate b (joined (take t (groups b))) < gate_count b)
          × (get_or (groups b) t [] ≡ group_of b (next_gate b (joined (take t (groups b)))))
      go (inl l) =
          let gs = take t (groups b) in
          let g = group_of b (next_gate b (joined gs)) in
          let rest = groups_after b (gate_count b - length (gs ++ (g ∷ []))) (joined (gs ++ (g ∷ []))) in
          let whole = built-rest (next (groups-built t) l) ∙ append_assoc gs (g ∷ []) rest in (
            l,
            ap (λ (x : List (List ℕ)). get_or x t []) whole
                ∙ get_or_at gs g rest [] t (length-take-le t (groups b) (omega arith)),
          )
      go (inr l) =
          let gs = take t (groups b) in
          let same = ap length (built-end (groups-built t) l) in
          let len = length-take-le t (groups b) (omega arith) in
          absurd (omega arith)
