-- The sets of GPIOs of a choice, and the window that holds them. Assumes nothing.
use Rattle.std.specs.Prelude.{Option}
use mathlib.Core.Path.{◌≡◌, refl}
use mathlib.Core.Bool.{Bool, true, false, cond}
use Prim.Native.Nat.{ℕ, ◌+◌, ◌-◌, ◌^◌, ◌≤◌, ◌<◌}
use native.Mathlib.Nat.{lt_of_lt_of_le}
use native.Mathlib.Omega.{arith}
use lib.Bits.{bit_or, or_lt}
use lib.Dec.{ltb}
use lib.ListN.{length}
use lib.Pow.{pow_mono}
use borrow.Author.Tests.{ltb-false}
use Rattle.gpio.specs.Law.{In}
use Rattle.gpio.specs.Set.{lowest, end}
use Rattle.gpio.proofs.Fits.{fits_width}
use Rattle.gpio.proofs.Members.{held_left, held_right, held_low, held_high}
use Rattle.gpio.proofs.Sets.{set-within}
use Rattle.slot.specs.declared.description.Description.{Description}
use Rattle.domain.specs.Domain.{qualifier_gpio}
use Rattle.listing.proofs.InDomain.{gpio_in_lem}
use Rattle.cs_pins.specs.Pins.{numbered}
use Rattle.cs_pins.proofs.InDomain.{numbered_in}
use Rattle.cs_verdict.specs.Verdict.{base_of, in_one_window}
use Rattle.cs_data_layout.specs.Layout.{handed}
use Rattle.cs_data_layout.specs.Choices.{num_data, excess_gpio, qualifier_set}
use Rattle.addr_layout.specs.declared.layout.AddrLayout.{AddrLayout}
use Rattle.cs_data_layout.proofs.Bounds.{excess_in, qualifier_line_in}
use Rattle.cs_data_layout.proofs.Searched.{handed_in, qualifiers_in_lem}
use Rattle.cs_data_law.specs.Law.{PastTests, choice, data_picked, select_picked, all_picked}
use Rattle.cs_data_law.proofs.Lines.{in_domain, given_in_lem}

-- a window's base is no higher than what it is taken over
base_by : (x : ℕ) (t : Bool) → ltb x 16 ≡ t → cond t 0 16 ≤ x
base_by x true e = omega arith
base_by x false e = ltb-false x 16 e

-- a GPIO of a set is no lower than its base, and if one window holds the set, in that window
pub base-below : (all g : ℕ) → In all g → base_of all ≤ g
base-below all g h = omega (arith, held_low all g h, base_by (lowest all) (ltb (lowest all) 16) refl)

pub in_window : (all g : ℕ) → all < 2 ^ 64 → in_one_window all ≡ true → In all g → (base_of all ≤ g) × (g < base_of all + 32)
in_window all g l w h =
    let high = held_high all g l h in
    let most = fits_width (base_of all) (end all - base_of all) w in
    (base-below all g h, omega (arith, base-below all g h))

wide : (s : ℕ) → s < 2 ^ 48 → s < 2 ^ 64
wide s l = lt_of_lt_of_le l (pow_mono {i = 48} {j = 64} (omega arith))

module _ (d : Description) (a : Option AddrLayout) where
  -- each part is among all
  pub data-all : (pick : ℕ → ℕ) (g : ℕ) → In (data_picked d pick) g → In (all_picked d a pick) g
  data-all pick g h =
      held_left (bit_or (data_picked d pick) (select_picked d a pick)) (qualifier_set d (handed a)) g (held_left (data_picked d pick) (select_picked d a pick) g h)

  pub select-all : (pick : ℕ → ℕ) (g : ℕ) → In (select_picked d a pick) g → In (all_picked d a pick) g
  select-all pick g h =
      held_left (bit_or (data_picked d pick) (select_picked d a pick)) (qualifier_set d (handed a)) g (held_right (data_picked d pick) (select_picked d a pick) g h)

  pub qualifier_all : (pick : ℕ → ℕ) (g : ℕ) → In (qualifier_set d (handed a)) g → In (all_picked d a pick) g
  qualifier_all pick g h = held_right (bit_or (data_picked d pick) (select_picked d a pick)) (qualifier_set d (handed a)) g h

  module _ (past : PastTests d a) where
    -- each GPIO is the RP2350's, so that the sets have 64 bits
    pub gpio-most : (c k : ℕ) → choice d c k ≤ 47
    gpio-most c k = gpio_in_lem (numbered d) (numbered_in d (in_domain d a past)) c k

    select_48 : (c : ℕ) → select_picked d a (choice d c) < 2 ^ 48
    select_48 c =
        let n = length (numbered d) - num_data d in
        let excess = excess_in (handed a) (handed_in d a (given_in_lem d a past)) in
        or_lt 48 _ _ (set-within (λ k. choice d c (num_data d + k)) n (λ k l. gpio-most c (num_data d + k)))
        (set-within (λ k. excess_gpio (handed a) k) (handed a).num_excess excess)

    qualifier_48 : qualifier_set d (handed a) < 2 ^ 48
    qualifier_48 =
        let listed = qualifiers_in_lem d a (given_in_lem d a past) past.no_fault in
        set-within (λ k. qualifier_gpio d.qualifiers (handed a).gpios k) d.num_qualifiers
        (qualifier_line_in (handed a) (handed_in d a (given_in_lem d a past)) d listed)

    pub select-bits : (c : ℕ) → select_picked d a (choice d c) < 2 ^ 64
    select-bits c = wide (select_picked d a (choice d c)) (select_48 c)

    pub qualifier_bits : qualifier_set d (handed a) < 2 ^ 64
    qualifier_bits = wide (qualifier_set d (handed a)) qualifier_48

    pub all-bits : (c : ℕ) → all_picked d a (choice d c) < 2 ^ 64
    all-bits c =
        let ds = set-within (choice d c) (num_data d) (λ k l. gpio-most c k) in
        wide (all_picked d a (choice d c)) (or_lt 48 _ _ (or_lt 48 _ _ ds (select_48 c)) qualifier_48)
