-- The group's own block stands in the netlist: put in place, its gates are the group's gates.
--   boundary-has      the boundary has every outside net that a gate of the group reads; boundary-once: each once
--   own-stands-at     so the own block stands at its cut
-- Assumes nothing.
use Prim.Native.Nat.{ℕ, ◌≤◌, ◌<◌}
use mathlib.Core.Path.{◌≡◌, refl, sym, ap, ◌∙◌}
use mathlib.Core.Logic.{◌⊎◌, inl, inr}
use mathlib.Core.Bool.{Bool, true, false, cond, not, ◌&&◌, ◌||◌, false≢true}
use mathlib.Core.List.{List, [], ◌∷◌, map, map-map, map-id}
use native.Mathlib.Omega.{arith}
use lib.ListN.{length, get_or, length-map}
use lib.Dec.{eqb}
use borrow.Author.Tests.{eqb-true, eq-eqb, lt-ltb}
use Rattle.prelude.specs.Lists.{all, any, keep, member, least}
use Rattle.prelude.proofs.Tests.{bool_cases, not-both, and_left, and_right, and_intro, or_cases, or_left, or_right}
use Rattle.prelude.proofs.Tests.{or-neither}
use Rattle.prelude.proofs.Tab.{length-tab, map-tab, tab-ext, tab-get_d}
use Rattle.prelude.proofs.Least.{least_at}
use Rattle.prelude.proofs.Quantifiers.{all_from, all_append, any_at, any-from, any_append, below-any, member-from}
use Rattle.prelude.proofs.Quantifiers.{all-tab-from}
use Rattle.theory_reach.proofs.ListFacts.{map_same, member-keep, least-at-most}
use Rattle.theory_reach.proofs.Reach.{reads-below}
use Rattle.theory_encoding.proofs.ListFacts.{all_map}
use Rattle.netlist.specs.Assignments.{Assignment}
use Rattle.netlist.specs.Netlist.{Name, Operand, input, gate, constant, Gate, Output, Block, input_count, gate_count}
use Rattle.netlist.specs.Netlist.{gate_of}
use Rattle.netlist.specs.StoredBlock.{is_node, is_operand}
use Rattle.netlist.specs.Groups.{reads}
use Rattle.netlist.specs.Gather.{number_at, place_in}
use Rattle.theory_replacement.specs.Placing.{is_complete, nodes, rewired, in_place}
use Rattle.theory_replacement.specs.Group.{same_net, is_outside_net, first_ones, operands_of, NoNetTwice, boundary}
use Rattle.theory_replacement.specs.Group.{is_shown, is_read_outside, ports, cut_of, net_place, own_operand, own_block}
use Rattle.theory_replacement.specs.Claim.{StandsAt}
use Rattle.theory_replacement.proofs.Rewired.{Among, complete-operand}
use Rattle.theory_replacement.proofs.Numbers.{place_found}

-- ---- nets in lists

-- the net is in the list
abbrev has_net : Operand → List Operand → Bool
has_net o os = any (same_net o) os

-- an input or a gate is itself, and no other is
same_self : (o : Operand) → ((c : Bool) → o ≡ constant c → ⊥) → same_net o o ≡ true
unfolding same_net
same_self (input i) n = eq-eqb i i refl
same_self (gate j) n = eq-eqb j j refl
same_self (constant c) n = absurd (n c refl)

same-eq : (o p : Operand) → same_net o p ≡ true → o ≡ p
unfolding same_net
same-eq (input i) (input k) h = ap input (eqb-true i k h)
same-eq (input i) (gate k) h = absurd (false≢true h)
same-eq (input i) (constant c) h = absurd (false≢true h)
same-eq (gate j) (input k) h = absurd (false≢true h)
same-eq (gate j) (gate k) h = ap gate (eqb-true j k h)
same-eq (gate j) (constant c) h = absurd (false≢true h)
same-eq (constant c) p h = absurd (false≢true h)

-- what passes a test that the net passes
keep-has : (test : Operand → Bool) (o : Operand) (os : List Operand) → test o ≡ true → has_net o os ≡ true
    → has_net o (keep test os) ≡ true
keep-has test o [] t h = absurd (false≢true h)
keep-has test o (p ∷ os) t h = go (test p) refl (or_cases (same_net o p) (has_net o os) h) (keep-has test o os t)
  where
    go : (u : Bool) → test p ≡ u → (same_net o p ≡ true) ⊎ (has_net o os ≡ true)
        → (has_net o os ≡ true → has_net o (keep test os) ≡ true)
        → has_net o (cond u (p ∷ keep test os) (keep test os)) ≡ true
    go true e (inl s) rest = or_left (same_net o p) _ s
    go true e (inr s) rest = or_right (same_net o p) _ (rest s)
    go false e (inl s) rest = not-both (ap test (sym (same-eq o p s)) ∙ t) e
    go false e (inr s) rest = rest s

-- the first ones are all there
first-has : (o : Operand) (os : List Operand) → has_net o os ≡ true → has_net o (first_ones os) ≡ true
unfolding first_ones
first-has o [] h = h
first-has o (p ∷ os) h = go (or_cases (same_net o p) (has_net o os) h) (bool_cases (same_net p o)) (first-has o os)
  where
    go : (same_net o p ≡ true) ⊎ (has_net o os ≡ true) → (same_net p o ≡ true) ⊎ (same_net p o ≡ false)
        → (has_net o os ≡ true → has_net o (first_ones os) ≡ true)
        → has_net o (p ∷ keep (λ q. not (same_net p q)) (first_ones os)) ≡ true
    go (inl s) d rest = or_left (same_net o p) _ s
    go (inr s) (inl d) rest = or_left (same_net o p) _ (let e : p ≡ o = same-eq p o d in rw e (rw e at d))
    go (inr s) (inr d) rest =
        or_right (same_net o p) _ (keep-has (λ q. not (same_net p q)) o (first_ones os) (rw d refl) (rest s))

-- each once
kept-apart : (o : Operand) (os : List Operand) → has_net o (keep (λ q. not (same_net o q)) os) ≡ false
kept-apart o [] = refl
kept-apart o (p ∷ os) = go (same_net o p) refl (kept-apart o os)
  where
    rest : List Operand
    rest = keep (λ q. not (same_net o q)) os

    go : (t : Bool) → same_net o p ≡ t → has_net o rest ≡ false → has_net o (cond (not t) (p ∷ rest) rest) ≡ false
    go true e h = h
    go false e h = rw e h

keep_apart : (test : Operand → Bool) (o : Operand) (os : List Operand) → has_net o os ≡ false
    → has_net o (keep test os) ≡ false
keep_apart test o [] h = h
keep_apart test o (p ∷ os) h = go (test p) (keep_apart test o os (or-neither (same_net o p) (has_net o os) h).1)
  where
    go : (t : Bool) → has_net o (keep test os) ≡ false → has_net o (cond t (p ∷ keep test os) (keep test os)) ≡ false
    go true r = rw (or-neither (same_net o p) (has_net o os) h).0 r
    go false r = r

keep-once : (test : Operand → Bool) (os : List Operand) → NoNetTwice os → NoNetTwice (keep test os)
keep-once test [] h = tt
keep-once test (o ∷ os) h = go (test o) (keep-once test os h.1)
  where
    go : (t : Bool) → NoNetTwice (keep test os) → NoNetTwice (cond t (o ∷ keep test os) (keep test os))
    go true r = (keep_apart test o os h.0, r)
    go false r = r

first-once : (os : List Operand) → NoNetTwice (first_ones os)
unfolding first_ones
first-once [] = tt
first-once (o ∷ os) =
    (kept-apart o (first_ones os), keep-once (λ q. not (same_net o q)) (first_ones os) (first-once os))

-- what all of a list pass, all of the first ones pass
pub all_keep : (test p : Operand → Bool) (os : List Operand) → all p os ≡ true → all p (keep test os) ≡ true
all_keep test p [] h = refl
all_keep test p (o ∷ os) h = go (test o) (all_keep test p os (and_right (p o) _ h))
  where
    go : (u : Bool) → all p (keep test os) ≡ true → all p (cond u (o ∷ keep test os) (keep test os)) ≡ true
    go true r = and_intro (p o) _ (and_left (p o) _ h) r
    go false r = r

pub all_first : (p : Operand → Bool) (os : List Operand) → all p os ≡ true → all p (first_ones os) ≡ true
unfolding first_ones
all_first p [] h = refl
all_first p (o ∷ os) h =
    and_intro (p o) _ (and_left (p o) _ h)
    (all_keep (λ q. not (same_net o q)) p (first_ones os) (all_first p os (and_right (p o) _ h)))

-- a net that is in the list stands at its place
net-found : (nets : List Operand) (o : Operand) → has_net o nets ≡ true
    → (net_place nets o < length nets) × (get_or nets (net_place nets o) (constant false) ≡ o)
unfolding net_place
net-found nets o h =
    let (i, l, s) = any_at (same_net o) nets (constant false) h in
    let test : ℕ → Bool = λ i. same_net o (get_or nets i (constant false)) in
    let first : least test (length nets) ≤ i = least-at-most test (length nets) i s in
    let l' : least test (length nets) < length nets = omega arith in
    (l', sym (same-eq o _ (least_at test (length nets) l')))

-- ---- the boundary

module _ (b : Block) (group : List ℕ) where
  operands-has : (js : List ℕ) (j : ℕ) (o : Operand) → member j js ≡ true → ((c : Bool) → o ≡ constant c → ⊥)
      → Among o (gate_of b j).operands
      → has_net o (operands_of b js) ≡ true
  unfolding operands_of
  operands-has [] j o m n a = absurd (false≢true m)
  operands-has (k ∷ js) j o m n a = any_append (same_net o) (gate_of b k).operands (operands_of b js)
      ∙ go (or_cases (eqb j k) (member j js) m) (λ e. operands-has js j o e n a)
    where
      go : (eqb j k ≡ true) ⊎ (member j js ≡ true) → (member j js ≡ true → has_net o (operands_of b js) ≡ true)
          → (has_net o (gate_of b k).operands || has_net o (operands_of b js)) ≡ true
      go (inl e) rest =
          or_left (has_net o (gate_of b k).operands) _
          (rw (← eqb-true j k e)
          (any-from (same_net o) (gate_of b j).operands a.place (constant false) a.there
          (rw a.is (same_self o n))))
      go (inr e) rest = or_right (has_net o (gate_of b k).operands) _ (rest e)

  -- every net outside that a gate of the group reads is in the boundary
  boundary-has : (j : ℕ) (o : Operand) → member j group ≡ true → is_outside_net group o ≡ true
      → ((c : Bool) → o ≡ constant c → ⊥)
      → Among o (gate_of b j).operands → has_net o (boundary b group) ≡ true
  unfolding boundary
  boundary-has j o m t n a =
      first-has o _ (keep-has (is_outside_net group) o (operands_of b group) t (operands-has group j o m n a))

  -- each net of the boundary stands there once
  pub boundary-once : NoNetTwice (boundary b group)
  unfolding boundary
  boundary-once = first-once (keep (is_outside_net group) (operands_of b group))

  -- each of its nets is there, where the netlist is complete
  operands-there : is_complete b ≡ true → (js : List ℕ) → all (is_operand b) (operands_of b js) ≡ true
  unfolding operands_of
  operands-there whole [] = refl
  operands-there whole (j ∷ js) =
      all_append (is_operand b) (gate_of b j).operands (operands_of b js)
      ∙ and_intro _ _
      (all_from (is_operand b) (gate_of b j).operands (constant false)
      (λ i l. complete-operand b whole j _ (record { place = i; there = l; is = refl })))
      (operands-there whole js)

  pub boundary-there : is_complete b ≡ true → all (is_operand b) (boundary b group) ≡ true
  unfolding boundary
  boundary-there whole =
      all_first (is_operand b) _
      (all_keep (is_outside_net group) (is_operand b) (operands_of b group) (operands-there whole group))

  -- ---- operands, there and back

  abbrev own : Operand → Operand
  own o = own_operand group (boundary b group) o

  abbrev back : Operand → Operand
  back o = in_place (boundary b group) (number_at group) o

  input-has : (j i : ℕ) → member j group ≡ true → Among (input i) (gate_of b j).operands
      → has_net (input i) (boundary b group) ≡ true
  unfolding is_outside_net
  input-has j i m a = boundary-has j (input i) m refl (λ c e. let z : ◌≡◌ {A = ℕ} 0 1 = cc in omega arith) a

  gate-has : (j k : ℕ) → member j group ≡ true → member k group ≡ false → Among (gate k) (gate_of b j).operands
      → has_net (gate k) (boundary b group) ≡ true
  unfolding is_outside_net
  gate-has j k m n a = boundary-has j (gate k) m (rw n refl) (λ c e. let z : ◌≡◌ {A = ℕ} 0 1 = cc in omega arith) a

  operand-back : (j : ℕ) → member j group ≡ true → (o : Operand) → Among o (gate_of b j).operands → back (own o) ≡ o
  unfolding own_operand in_place
  operand-back j m (input i) a = (net-found (boundary b group) (input i) (input-has j i m a)).1
  operand-back j m (gate k) a = go (member k group) refl
    where
      go : (t : Bool) → member k group ≡ t
          → back (cond t (gate (place_in group k)) (input (net_place (boundary b group) (gate k)))) ≡ gate k
      go true e = ap gate (place_found group k e).1
      go false e = (net-found (boundary b group) (gate k) (gate-has j k m e a)).1
  operand-back j m (constant c) a = refl

  gate-back : (j : ℕ) → member j group ≡ true → rewired back (rewired own (gate_of b j)) ≡ gate_of b j
  unfolding rewired
  gate-back j m =
      let g : Gate = gate_of b j in
      ap {B = Gate} (λ (os : List Operand). record { kind = g.kind; operands = os })
      (map-map back own g.operands
      ∙ map_same (λ o. back (own o)) (λ o. o) g.operands (constant false)
      (λ i l. operand-back j m (get_or g.operands i (constant false)) (record { place = i; there = l; is = refl }))
      ∙ map-id g.operands)

  module _ (input_names port_names : List Name) (nevers : List Assignment) (whole : is_complete b ≡ true) where
    abbrev block : Block
    block = own_block b group input_names port_names nevers

    inputs_long : input_count block ≡ length (boundary b group)
    unfolding own_block
    inputs_long = length-tab (λ i. get_or input_names i []) (length (boundary b group))

    gates-long : gate_count block ≡ length group
    unfolding own_block
    gates-long = length-map group (λ j. rewired (own_operand group (boundary b group)) (gate_of b j))

    input-fits : (i : ℕ) → i < length (boundary b group) → is_operand block (input i) ≡ true
    unfolding is_operand is_node
    input-fits i l = lt-ltb i (input_count block) (rw inputs_long l)

    gate-fits : (t : ℕ) → t < length group → is_operand block (gate t) ≡ true
    unfolding is_operand is_node
    gate-fits t l = lt-ltb t (gate_count block) (rw gates-long l)

    operand-fits : (j : ℕ) → member j group ≡ true → (o : Operand) → Among o (gate_of b j).operands
        → is_operand block (own o) ≡ true
    unfolding own_operand is_operand
    operand-fits j m (input i) a = input-fits _ (net-found (boundary b group) (input i) (input-has j i m a)).0
    operand-fits j m (gate k) a = go (member k group) refl
      where
        go : (t : Bool) → member k group ≡ t
            → is_operand block (cond t (gate (place_in group k)) (input (net_place (boundary b group) (gate k)))) ≡ true
        go true e = gate-fits _ (place_found group k e).0
        go false e = input-fits _ (net-found (boundary b group) (gate k) (gate-has j k m e a)).0
    operand-fits j m (constant c) a = refl

    port-member : (p : ℕ) → p < length (ports b group) → member (number_at (ports b group) p) group ≡ true
    unfolding number_at ports
    port-member p l =
        let test : ℕ → Bool = λ j. is_read_outside b group j || is_shown b j in
        and_left _ (test (get_or (keep test group) p 0))
        (sym (member-keep test group (get_or (keep test group) p 0)) ∙ member-from _ (keep test group) p l refl)

    block-complete : is_complete block ≡ true
    unfolding is_complete own_block rewired
    block-complete =
        and_intro _ _
        (all_map (λ (g : Gate). all (is_operand block) g.operands) (λ j. rewired own (gate_of b j)) group
        ∙ all_from (λ j. all (is_operand block) (map own (gate_of b j).operands)) group 0
        (λ t l. let j : ℕ = get_or group t 0 in
        all_map (is_operand block) own (gate_of b j).operands
        ∙ all_from (λ o. is_operand block (own o)) (gate_of b j).operands (constant false)
        (λ i k. operand-fits j (member-from j group t l refl) _ (record { place = i; there = k; is = refl }))))
        (all-tab-from (λ (o : Output). is_operand block o.node) _ (length (ports b group))
        (λ p l. gate-fits _ (place_found group (number_at (ports b group) p) (port-member p l)).0))

    block-gates : map (rewired back) block.gates ≡ map (gate_of b) group
    unfolding own_block
    block-gates =
        map-map (rewired back) (λ j. rewired own (gate_of b j)) group
        ∙ map_same _ (gate_of b) group 0
        (λ t l. gate-back (get_or group t 0) (member-from (get_or group t 0) group t l refl))

    block-outputs : map back (nodes block) ≡ map gate (ports b group)
    unfolding own_block nodes in_place number_at
    block-outputs =
        map-map back (λ (o : Output). o.node) block.outputs
        ∙ map-tab (λ (o : Output). back o.node) _ (length (ports b group))
        ∙ tab-ext _ (λ p. gate (number_at (ports b group) p)) (length (ports b group))
        (λ p l. ap gate (place_found group (number_at (ports b group) p) (port-member p l)).1)
        ∙ sym (map-tab gate (number_at (ports b group)) (length (ports b group)))
        ∙ ap (map gate) (tab-get_d 0 (ports b group) (length (ports b group)) refl)

    port-from : (j : ℕ) → member j group ≡ true → is_read_outside b group j || is_shown b j ≡ true
        → member j (ports b group) ≡ true
    unfolding ports
    port-from j m h = member-keep (λ j. is_read_outside b group j || is_shown b j) group j ∙ and_intro _ _ m h

    read-outside : (i j : ℕ) → member i group ≡ false → reads b i j ≡ true → is_read_outside b group j ≡ true
    unfolding is_read_outside
    read-outside i j m r =
        below-any (λ i. not (member i group) && reads b i j) (gate_count b) i (reads-below b i j r)
        (and_intro (not (member i group)) _ (rw m refl) r)

    -- The own block stands at the group's cut.
    pub own-stands-at : StandsAt b (cut_of b group) block
    unfolding cut_of
    own-stands-at =
        record {
          complete = block-complete;
          nets = boundary-there whole;
          inputs = inputs_long;
          gates = block-gates;
          outputs = block-outputs;
          is_read = λ i j m r n. port-from j n (or_left _ _ (read-outside i j m r));
          is_shown = λ j h n. port-from j n (or_right (is_read_outside b group j) _ h);
        }
