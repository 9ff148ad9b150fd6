-- The first number that repeats one before it is that of the first declaration that repeats one before it. Assumes
-- nothing.
use Prim.Native.Nat.{ℕ, zero, suc, ◌≤◌, ◌<◌}
use mathlib.Core.Path.{◌≡◌, refl, sym, ap, ◌∙◌}
use mathlib.Core.Bool.{true, false}
use mathlib.Core.List.{List, [], ◌∷◌, map, map-map}
use mathlib.Core.Option.{none, some}
use native.Mathlib.Omega.{arith}
use lib.ListN.{length, get_or, take, drop, length-map, get_or-map, drop_of_length-le}
use lib.Seq.{get_or-take, drop-cons, take-suc, length-take-le}
use Rattle.prelude.specs.Lists.{all, same, member_list, least}
use Rattle.prelude.proofs.Quantifiers.{all-at, any_append}
use Rattle.prelude.proofs.Least.{least-le, least-below, least_at}
use Rattle.netlist.specs.Netlist.{Name}
use Rattle.netlist.specs.Names.{is_name_byte}
use Rattle.netlist.specs.Reading.{Mention, first_repeat}
use Rattle.text_names.specs.Packed.{packed}
use Rattle.text_names.specs.Search.{index_of, repeats_at}
use Rattle.text_names.proofs.Lookup.{Bytes, index_same, index-member}
use Rattle.text_names.proofs.ListFacts.{take-map, all_take, or_swap}

abbrev name_of : Mention → Name
name_of d = d.name

abbrev key_of : Mention → ℕ
key_of d = packed d.name

abbrev nobody : Mention
nobody = record { name = []; place = 0 }

-- the names of the first i declarations, last first
abbrev names_to : List Mention → ℕ → List Name
names_to ds zero = []
names_to ds (suc i) = (get_or ds i nobody).name ∷ names_to ds i

member-to : (x : Name) (ds : List Mention) (i : ℕ) → i ≤ length ds
    → member_list x (names_to ds i) ≡ member_list x (take i (map name_of ds))
member-to x ds zero l = refl
member-to x ds (suc i) l =
    let l' : i < length (map name_of ds) = rw (length-map ds name_of) l in
    rw (
      take-suc (map name_of ds) i [] l',
      any_append (same x) (take i (map name_of ds)) (get_or (map name_of ds) i [] ∷ []),
      get_or-map name_of ds i nobody,
      member-to x ds i (omega arith),
    )
    (or_swap (same x (get_or ds i nobody).name) (member_list x (take i (map name_of ds))))

module _ (ds : List Mention) (bytes : Bytes (map name_of ds)) where
  repeats-is : (i : ℕ) → i < length ds → repeats_at (map key_of ds) i ≡ member_list (get_or ds i nobody).name (names_to ds i)
  unfolding repeats_at
  repeats-is i l =
      let names = take i (map name_of ds) in
      let here' : get_or (map key_of ds) i 0 ≡ packed (get_or ds i nobody).name = get_or-map key_of ds i nobody in
      let size : length names ≡ i = length-take-le i (map name_of ds) (rw (length-map ds name_of) (omega arith)) in
      let before : take i (map key_of ds) ≡ map packed names =
      ap (take i) (sym (map-map packed name_of ds)) ∙ take-map packed i (map name_of ds) in
      let cut : index_of (map key_of ds) i (packed (get_or ds i nobody).name)
      ≡ index_of (map packed names) i (packed (get_or ds i nobody).name) =
      index_same (map key_of ds) (map packed names) i (packed (get_or ds i nobody).name)
      (λ j h. sym (rw (← before) (get_or-take i (map key_of ds) j 0 h))) in
      let one : all is_name_byte (get_or ds i nobody).name ≡ true = rw (get_or-map name_of ds i nobody) at
      (all-at (all is_name_byte) (map name_of ds) i [] bytes (rw (length-map ds name_of) l)) in
      let found = index-member (get_or ds i nobody).name names one (all_take (all is_name_byte) i (map name_of ds) bytes) in
      rw (here', cut, member-to (get_or ds i nobody).name ds i (omega arith)) (rw size at found)

  -- past declarations that repeat none
  repeat-walk : (i : ℕ) → i ≤ length ds → ((j : ℕ) → j < i → repeats_at (map key_of ds) j ≡ false)
      → first_repeat [] ds ≡ first_repeat (names_to ds i) (drop i ds)
  unfolding first_repeat
  repeat-walk zero l h = refl
  repeat-walk (suc i) l h =
      let l' : i < length ds = omega arith in
      let e : member_list (get_or ds i nobody).name (names_to ds i) ≡ false = sym (repeats-is i l') ∙ h i (omega arith) in
      repeat-walk i (omega arith) (λ j k. h j (omega arith)) ∙ rw (drop-cons ds i nobody l', e)

  abbrev first : ℕ
  first = least (repeats_at (map key_of ds)) (length ds)

  -- the first that repeats one is the first declaration that does
  pub repeat-found : first < length ds → first_repeat [] ds ≡ some (get_or (map (λ (d : Mention). d.place) ds) first 0)
  unfolding first_repeat
  repeat-found l =
      let e : member_list (get_or ds first nobody).name (names_to ds first) ≡ true = sym (repeats-is first l)
      ∙ least_at (repeats_at (map key_of ds)) (length ds) l in
      repeat-walk first (omega arith) (least-below (repeats_at (map key_of ds)) (length ds))
      ∙ rw (drop-cons ds first nobody l, e, get_or-map (λ (d : Mention). d.place) ds first nobody)

  pub repeat-none : length ds ≤ first → first_repeat [] ds ≡ none
  unfolding first_repeat
  repeat-none l =
      repeat-walk first (least-le (repeats_at (map key_of ds)) (length ds))
      (least-below (repeats_at (map key_of ds)) (length ds)) ∙ rw (drop_of_length-le ds l)
