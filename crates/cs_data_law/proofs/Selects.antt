-- What base, count and ignore index of the selects of a choice's layout say. Assumes nothing.
use Rattle.std.specs.Prelude.{Some, None, Option}
use mathlib.Core.Path.{◌≡◌, refl, sym, ◌∙◌, ap, subst}
use mathlib.Core.Bool.{Bool, true, false, cond, not, ◌&&◌}
use mathlib.Core.Logic.{◌⊎◌, inl, inr}
use Prim.Native.Nat.{ℕ, ◌+◌, ◌-◌, ◌≤◌, ◌<◌}
use native.Mathlib.Nat.{add_assoc}
use native.Mathlib.Omega.{arith}
use lib.Bits.{bit_or}
use lib.Dec.{ltb, eqb}
use lib.ListN.{length}
use borrow.Author.Tests.{eqb-true, ltb-true, ltb-false, not-true}
use Rattle.lists.proofs.Bools.{and_left, and_right}
use Rattle.lists.proofs.Loops.{zero_one}
use Rattle.bits.proofs.Or.{bit_or_lem}
use Rattle.gpio.specs.Law.{In}
use Rattle.gpio.specs.Set.{set_of, lowest, end, width, size, gapless, gap}
use Rattle.gpio.proofs.Members.{held_left, held_right, held_low, held_high, set-held, held_of}
use Rattle.slot.specs.Description.{is_multi}
use Rattle.slot.specs.declared.description.Description.{Description}
use Rattle.cs_pins.specs.Pins.{numbered}
use Rattle.cs_roles.specs.Roles.{select_roles}
use Rattle.cs_data_layout.specs.Layout.{handed}
use Rattle.cs_data_layout.specs.Choices.{num_data, excess_gpio, excess_set, num_commoned, cs_data_layout_of}
use Rattle.addr_layout.specs.declared.layout.AddrLayout.{AddrLayout}
use Rattle.cs_data_layout.specs.declared.layout.CsDataLayout.{CsDataLayout}
use Rattle.cs_data_law.specs.Law.{PastTests, choice, select_picked, all_picked, Fit}
use Rattle.cs_data_law.specs.Sound.{select_gpio, IsSelect, of_select, of_commoned, select_from, select_end, SoundIgnored, SoundSelects}
use Rattle.cs_data_law.proofs.Counts.{select_roles_lem, numbered-length, commoned-length}
use Rattle.cs_data_law.proofs.Faults.{some-select}
use Rattle.cs_data_law.proofs.Gap.{in_or_out, lowest_has, highest_has, not-empty, gapless-all, all-gapless, gap-lowest, gap-between, single}
use Rattle.cs_data_law.proofs.Lines.{select-gpio, excess-gpio, commoned-gpio}
use Rattle.cs_data_law.proofs.Parts.{base-below, select-all, select-bits}

-- a GPIO of two sets put together is in one of them
pub or_in : (s t g : ℕ) → In (bit_or s t) g → In s g ⊎ In t g
or_in s t g e = elim (in_or_out s g) [
  | inl h ↦ inl h
  | inr z ↦ inr (omega (arith, rw (bit_or_lem, z) at e))
]

-- the ignore index is none exactly if there is no gap, and else the lowest of the gap
index_none : (t : Bool) (i : ℕ) → cond t None (Some i) ≡ None → t ≡ true
index_none true i e = refl
index_none false i e = absurd (zero_one cc)

index_at : (t : Bool) (i j : ℕ) → cond t None (Some i) ≡ Some j → (t ≡ false) × (i ≡ j)
index_at true i j e = absurd (zero_one cc)
index_at false i j e = (refl, cc)

-- a line is before the n-th, or behind
before_or_behind : (n k : ℕ) → (k < n) ⊎ (n ≤ k)
before_or_behind n k = by (ltb k n) refl
  where
    by : (t : Bool) → ltb k n ≡ t → (k < n) ⊎ (n ≤ k)
    by true e = inl (ltb-true k n e)
    by false e = inr (ltb-false k n e)

module _ (d : Description) (a : Option AddrLayout) (past : PastTests d a) (c : ℕ) where
  abbrev roles : ℕ
  roles = length (select_roles d)

  abbrev laid : CsDataLayout
  laid = cs_data_layout_of d (handed a) (numbered d) c

  -- the select GPIOs as a set: those of the pins behind the data pins, and those of the excess lines
  abbrev selects : ℕ
  selects = select_picked d a (choice d c)

  abbrev behind : ℕ
  behind = set_of (length (numbered d) - num_data d) (λ k. choice d c (num_data d + k))

  pins-behind : length (numbered d) - num_data d ≡ roles + num_commoned d
  pins-behind = omega (arith, numbered-length d, commoned-length d)

  pin-held : (k : ℕ) → k < roles + num_commoned d → In selects (choice d c (num_data d + k))
  pin-held k l =
      let g = choice d c (num_data d + k) in
      held_left behind (excess_set (handed a)) g (set-held (length (numbered d) - num_data d) (λ j. choice d c (num_data d + j)) k (omega (arith, pins-behind)))

  excess-held : (k : ℕ) → k < (handed a).num_excess → In selects (excess_gpio (handed a) k)
  excess-held k l =
      let g = excess_gpio (handed a) k in
      held_right behind (excess_set (handed a)) g (set-held (handed a).num_excess (λ j. excess_gpio (handed a) j) k l)

  -- a GPIO is in it exactly if it is a select's
  pub select-held : (g : ℕ) → IsSelect laid g → In selects g
  select-held g (of_select k l e) = elim (before_or_behind roles k) [
    | inl h ↦ subst (In selects) (sym (select-gpio d a past c k h) ∙ e) (pin-held k (omega arith))
    | inr h ↦
        let at : roles + (k - roles) ≡ k = omega arith in
        let few : k - roles < (handed a).num_excess = omega arith in
        subst (In selects) (sym (excess-gpio d a past c (k - roles) few) ∙ ap (select_gpio laid) at ∙ e) (excess-held (k - roles) few)
  ]
  select-held g (of_commoned k l e) =
      let few : k < num_commoned d = omega arith in
      subst (In selects) (sym (commoned-gpio d a past c k few) ∙ e) (rw add_assoc (pin-held (roles + k) (omega arith)))

  pub held-select : (g : ℕ) → In selects g → IsSelect laid g
  held-select g h = elim (or_in behind (excess_set (handed a)) g h) [
    | inl p ↦ pin-select (held_of (length (numbered d) - num_data d) (λ j. choice d c (num_data d + j)) g p)
    | inr x ↦
        let (k, l, e) = held_of (handed a).num_excess (λ j. excess_gpio (handed a) j) g x in
        of_select (roles + k) (omega arith) (excess-gpio d a past c k l ∙ e)
  ]
    where
      pin-select : (k : ℕ) × (k < length (numbered d) - num_data d) × (choice d c (num_data d + k) ≡ g) → IsSelect laid g
      pin-select (k, l, e) = elim (before_or_behind roles k) [
        | inl h ↦ of_select k (omega arith) (select-gpio d a past c k h ∙ e)
        | inr h ↦
            let at : num_data d + roles + (k - roles) ≡ num_data d + k = omega arith in
            let few : k - roles < num_commoned d = omega (arith, pins-behind) in
            of_commoned (k - roles) few (commoned-gpio d a past c (k - roles) few ∙ ap (choice d c) at ∙ e)
      ]

  -- there is one: that of the first select pin
  abbrev first : ℕ
  first = choice d c (num_data d + 0)

  first-held : In selects first
  first-held = pin-held 0 (omega (arith, some-select d a past.no_fault, select_roles_lem d))

  low_held : In selects (lowest selects)
  low_held = lowest_has selects first (select-bits d a past c) first-held

  -- base and count
  from_is : select_from laid ≡ lowest selects
  from_is = omega (arith, base-below (all_picked d a (choice d c)) (lowest selects) (select-all d a (choice d c) (lowest selects) low_held))

  end_is : select_end laid ≡ end selects
  end_is = omega (arith, from_is, not-empty selects first (select-bits d a past c) first-held)

  module _ (fit : Fit d a (choice d c)) where
    -- the ignore index
    index_sound : (i : ℕ) → laid.cs_ignore_index ≡ Some i → SoundIgnored d laid i
    index_sound i e =
        let (gapped, is) = index_at (gapless selects) (lowest (gap selects) - lowest selects) i e in
        let missing = gap-lowest selects first (select-bits d a past c) first-held gapped in
        let (low, high, none) = gap-between selects first (select-bits d a past c) first-held (lowest (gap selects)) missing in
        let at : select_from laid + i ≡ lowest (gap selects) = omega (arith, from_is) in
        let allowed : not (is_multi d.set_type) && eqb (width selects) (size selects + 1) ≡ true = rw gapped at fit.select-gap in
        let one = eqb-true (width selects) (size selects + 1) (and_right (not (is_multi d.set_type)) _ allowed) in
        record {
          not-multi = not-true (is_multi d.set_type) (and_left (not (is_multi d.set_type)) (eqb (width selects) (size selects + 1)) allowed);
          above = omega (arith, at, from_is);
          below = omega (arith, at, end_is);
          missing = λ s. none (subst (In selects) at (select-held (select_from laid + i) s));
          single = λ g l m n.
              held-select g
              (single selects first (select-bits d a past c) first-held (lowest (gap selects)) missing one g (omega (arith, from_is)) (omega (arith, end_is)) (λ q. n (q ∙ sym at)));
        }

    pub sound-selects : SoundSelects d laid
    sound-selects = record {
      lowest = subst (IsSelect laid) (sym from_is) (held-select (lowest selects) low_held);
      above = λ g s. omega (arith, from_is, held_low selects g (select-held g s));
      highest = subst (IsSelect laid) (ap (λ (x : ℕ). x - 1) (sym end_is)) (held-select (end selects - 1) (highest_has selects first (select-bits d a past c) first-held));
      below = λ g s. omega (arith, end_is, held_high selects g (select-bits d a past c) (select-held g s));
      none-gapless = λ e g l m.
          held-select g
          (gapless-all selects first (select-bits d a past c) first-held (index_none (gapless selects) (lowest (gap selects) - lowest selects) e) g (omega (arith, from_is)) (omega (arith, end_is)));
      gapless-none = λ f.
          rw (all-gapless selects first (select-bits d a past c) first-held (λ g l m. select-held g (f g (omega (arith, from_is)) (omega (arith, end_is)))));
      ignored = index_sound;
    }
