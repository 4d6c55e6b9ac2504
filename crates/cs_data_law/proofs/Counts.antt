-- How many select lines there are, and where pins stand among those numbered. Assumes nothing.
use mathlib.Core.Path.{◌≡◌, refl, sym, ◌∙◌, ap}
use mathlib.Core.Bool.{Bool, true, false, not, cond}
use mathlib.Core.List.{List, [], ◌∷◌, ◌++◌}
use Prim.Native.Nat.{ℕ, zero, suc, ◌+◌, ◌^◌, ◌≤◌, ◌<◌}
use native.Mathlib.Nat.{zero-div}
use native.Mathlib.Omega.{arith}
use lib.Bits.{or_lt}
use lib.Count.{ones, ones-le}
use lib.Dec.{leb, eqb}
use lib.ListN.{length, get_or, length-append, get_or-append}
use lib.Pow.{pow-lt}
use lib.Seq.{get_or-append-add}
use borrow.Author.Tests.{leb-true, eqb-false}
use Rattle.gpio.specs.Set.{with, size}
use Rattle.gpio.specs.declared.candidates.Candidates.TheVariants.{Absent}
use Rattle.lists.proofs.Bools.{and_left}
use Rattle.bits.proofs.Or.{bit_or_lem}
use Rattle.gpio.proofs.Members.{held, held_other, with_size}
use Rattle.lists.proofs.Tab.{tab-length, get_or-tab}
use Rattle.slot.specs.Description.{is_multi, chip0, line_at, kind_at}
use Rattle.slot.specs.declared.description.Description.{Description}
use Rattle.refusal.specs.declared.Refusal.TheVariants.{OutOfDomain, NoSelectLine}
use Rattle.domain.specs.Domain.{description_in}
use Rattle.domain.proofs.Bounds.{chip0_in}
use Rattle.control.specs.CsConfig.{ignores}
use Rattle.listing.specs.Listing.{listed, x_pins}
use Rattle.listing.specs.Choice.{CandidateOf, pin_at}
use Rattle.listing.specs.Lines.{kind_pin, pin_candidates}
use Rattle.listing.specs.declared.Listed.{Listed}
use Rattle.cs_pins.specs.Pins.{pin_listed, data_listed, active, active_listed, kind_listed, select_listed, multi_commoned, commoned_listed, numbered}
use Rattle.cs_roles.specs.Roles.{active_kinds, x_roles, select_roles}
use Rattle.cs_data_layout.specs.Choices.{num_commoned}

-- the kinds of the active ones of the first k lines, as a set
unfoldable kind_set : Description → ℕ → ℕ
kind_set d zero = 0
kind_set d (suc k) = cond (active d k) (with (kind_set d k) (kind_at (chip0 d).control k)) (kind_set d k)

-- one more where the line is active
kinds-turn : (ks : List ℕ) (s g : ℕ) (t : Bool) → length ks ≡ size s → (t ≡ true → held s g ≡ 0) → length (ks ++ cond t (g ∷ []) []) ≡ size (cond t (with s g) s)
kinds-turn ks s g true e h = simp length-append (omega (arith, with_size s g (h refl)))
kinds-turn ks s g false e h = simp length-append (omega arith)

within-turn : (s g : ℕ) (t : Bool) → s < 2 ^ 6 → (t ≡ true → g ≤ 5) → cond t (with s g) s < 2 ^ 6
within-turn s g true l h = let five = h refl in or_lt 6 s (2 ^ g) l (pow-lt {j = 6} (omega arith))
within-turn s g false l h = l

other_turn : (s g h : ℕ) (t : Bool) → held s h ≡ 0 → (t ≡ true → g ≡ h → ⊥) → held (cond t (with s g) s) h ≡ 0
other_turn s g h true e n = rw (bit_or_lem, e, held_other g h (n refl))
other_turn s g h false e n = e

roles_turn : (ks : List ℕ) (ls : List Listed) (g : ℕ) (l : Listed) (t : Bool) → length ks ≡ length ls → length (ks ++ cond t (g ∷ []) []) ≡ length (ls ++ cond t (l ∷ []) [])
roles_turn ks ls g l true e = simp length-append (omega arith)
roles_turn ks ls g l false e = simp length-append (omega arith)

-- a named line that has candidates is on the chip
line_on : (d : Description) (pin g : ℕ) (t : Bool) → eqb pin 0 ≡ t → CandidateOf (cond t (listed Absent NoSelectLine) (pin_listed d pin)).gpios g → (pin ≡ 0 → ⊥) × CandidateOf (pin_candidates d pin) g
unfolding pin_listed
line_on d pin g true e h = absurd h
line_on d pin g false e h = (eqb-false pin 0 e, h)

pub kind_on : (d : Description) (kind g : ℕ) → CandidateOf (kind_listed d kind).gpios g → (kind_pin d kind ≡ 0 → ⊥) × CandidateOf (pin_candidates d (kind_pin d kind)) g
unfolding kind_listed
kind_on d kind g h = line_on d (kind_pin d kind) g (eqb (kind_pin d kind) 0) refl h

module _ (d : Description) where
  abbrev kind : ℕ → ℕ
  kind k = kind_at (chip0 d).control k

  active_kind : (k : ℕ) → active d k ≡ true → kind k ≤ 5
  active_kind k e = leb-true (kind k) 5 (and_left (leb (kind k) 5) (not (ignores d.cs_config (kind k))) e)

  set_six : (k : ℕ) → kind_set d k < 2 ^ 6
  unfolding kind_set
  set_six zero = omega arith
  set_six (suc k) = within-turn (kind_set d k) (kind k) (active d k) (set_six k) (active_kind k)

  -- a kind that none of the active lines has
  set_without : (h k : ℕ) → ((j : ℕ) → j < k → active d j ≡ true → kind j ≡ h → ⊥) → held (kind_set d k) h ≡ 0
  unfolding kind_set
  set_without h zero n = rw zero-div
  set_without h (suc k) n = other_turn (kind_set d k) (kind k) h (active d k) (set_without h k (λ j l. n j (omega arith))) (n k (omega arith))

  module _ (e : description_in d ≡ true) where
    kinds-size : (k : ℕ) → k ≤ (chip0 d).control.count → length (active_kinds d k) ≡ size (kind_set d k)
    unfolding active_kinds kind_set ones
    kinds-size zero l = refl
    kinds-size (suc k) l =
        kinds-turn (active_kinds d k) (kind_set d k) (kind k) (active d k) (kinds-size k (omega arith)) (λ t.
        set_without (kind k) k (λ j m u. (chip0_in d e).kinds_differ j k m (omega arith) (active_kind k t)))

    kinds-few : (k : ℕ) → k ≤ (chip0 d).control.count → length (active_kinds d k) ≤ 6
    kinds-few k l = rw (kinds-size k l) (ones-le 6 (kind_set d k) (set_six k))

    -- no named kind twice; in Multi the select, X1 and X2
    multi-few : (one both : Bool) (k : ℕ) → length (k ∷ x_roles one both) ≤ 6
    multi-few true true k = omega arith
    multi-few true false k = omega arith
    multi-few false both k = omega arith

    pub few_roles : length (select_roles d) ≤ 6
    unfolding select_roles
    few_roles = by (is_multi d.set_type)
      where
        by : (t : Bool) → length (cond t (d.multi.select ∷ x_roles (leb 2 d.num_chips) (leb 3 d.num_chips)) (active_kinds d (chip0 d).control.count)) ≤ 6
        by true = multi-few (leb 2 d.num_chips) (leb 3 d.num_chips) d.multi.select
        by false = kinds-few (chip0 d).control.count (omega arith)

  -- a role for each select pin
  active_roles : (k : ℕ) → length (active_kinds d k) ≡ length (active_listed d k)
  unfolding active_kinds active_listed
  active_roles zero = refl
  active_roles (suc k) =
      roles_turn (active_kinds d k) (active_listed d k) (kind k) (pin_listed d (line_at (chip0 d).control k).pin) (active d k) (active_roles k)

  x_roles_lem : (one both : Bool) → length (x_roles one both) ≡ length (x_pins d.board one both)
  x_roles_lem true true = refl
  x_roles_lem true false = refl
  x_roles_lem false both = refl

  pub select_roles_lem : length (select_roles d) ≡ length (select_listed d)
  unfolding select_roles select_listed
  select_roles_lem = by (is_multi d.set_type)
    where
      by : (t : Bool) → length (cond t (d.multi.select ∷ x_roles (leb 2 d.num_chips) (leb 3 d.num_chips)) (active_kinds d (chip0 d).control.count))
          ≡ length (cond t (kind_listed d d.multi.select ∷ x_pins d.board (leb 2 d.num_chips) (leb 3 d.num_chips)) (active_listed d (chip0 d).control.count))
      by true = ap suc (x_roles_lem (leb 2 d.num_chips) (leb 3 d.num_chips))
      by false = active_roles (chip0 d).control.count

  multi-selects : is_multi d.set_type ≡ true → select_listed d ≡ kind_listed d d.multi.select ∷ x_pins d.board (leb 2 d.num_chips) (leb 3 d.num_chips)
  unfolding select_listed
  multi-selects m = rw m

  data-length : length (data_listed d) ≡ (chip0 d).num_data_pins
  unfolding data_listed
  data-length = tab-length _ (chip0 d).num_data_pins

  -- the pins numbered: data, select, commoned
  pub numbered-length : length (numbered d) ≡ (chip0 d).num_data_pins + length (select_roles d) + length (commoned_listed d)
  unfolding numbered
  numbered-length = simp (length-append, data-length) (omega (arith, select_roles_lem))

  -- the data pins come first
  pub data-pin : (k : ℕ) → k < (chip0 d).num_data_pins → pin_at (numbered d) k ≡ pin_candidates d (get_or (chip0 d).data_pins k 0)
  unfolding numbered data_listed pin_listed
  data-pin k l =
      let z = listed Absent OutOfDomain in
      let f : ℕ → Listed = λ j. pin_listed d (get_or (chip0 d).data_pins j 0) in
      let n = (chip0 d).num_data_pins in
      ap (λ (x : Listed). x.gpios)
      (get_or-append (data_listed d ++ select_listed d) (commoned_listed d) z k (simp length-append (omega (arith, tab-length f n)))
      ∙ get_or-append (data_listed d) (select_listed d) z k (omega (arith, tab-length f n)) ∙ get_or-tab f n k z l)

  -- the select pins next
  pub select-pin : (k : ℕ) → k < length (select_listed d) → pin_at (numbered d) ((chip0 d).num_data_pins + k) ≡ pin_at (select_listed d) k
  unfolding numbered
  select-pin k l =
      let z = listed Absent OutOfDomain in
      let n = (chip0 d).num_data_pins in
      ap (λ (x : Listed). x.gpios)
      (get_or-append (data_listed d ++ select_listed d) (commoned_listed d) z (n + k) (simp length-append (omega (arith, data-length)))
      ∙ ap (λ (i : ℕ). get_or (data_listed d ++ select_listed d) (i + k) z) (sym data-length)
      ∙ get_or-append-add (data_listed d) (select_listed d) k z)

  -- in Multi the select before the X pins
  pub multi-pin : is_multi d.set_type ≡ true → pin_at (select_listed d) 0 ≡ (kind_listed d d.multi.select).gpios
  multi-pin m = ap (λ (ls : List Listed). pin_at ls 0) (multi-selects m)

  -- and the commoned pins last
  pub commoned-pin : (k : ℕ) → pin_at (numbered d) ((chip0 d).num_data_pins + length (select_roles d) + k) ≡ pin_at (commoned_listed d) k
  unfolding numbered
  commoned-pin k =
      let z = listed Absent OutOfDomain in
      let before : length (data_listed d ++ select_listed d) ≡ (chip0 d).num_data_pins + length (select_roles d) = simp length-append (omega (arith, data-length, select_roles_lem)) in
      ap (λ (x : Listed). x.gpios)
      (ap (λ (i : ℕ). get_or ((data_listed d ++ select_listed d) ++ commoned_listed d) (i + k) z) (sym before)
      ∙ get_or-append-add (data_listed d ++ select_listed d) (commoned_listed d) k z)

  -- as many of them as there are commoned lines
  pub commoned-length : length (commoned_listed d) ≡ num_commoned d
  unfolding commoned_listed
  commoned-length = by (is_multi d.set_type)
    where
      by : (t : Bool) → length (cond t (multi_commoned d) []) ≡ cond t d.multi.num_commoned 0
      by true = tab-length (λ k. kind_listed d (get_or d.multi.commoned k 0)) d.multi.num_commoned
      by false = refl
