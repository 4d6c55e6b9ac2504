-- The test of the overrides passes just the slots in which nothing is forced. Assumes nothing.
use mathlib.Core.Path.{◌≡◌, refl, sym, ◌∙◌, ap, subst}
use mathlib.Core.Bool.{Bool, true, false, ◌&&◌, ◌||◌, not}
use mathlib.Core.List.{List}
use mathlib.Core.Logic.{inl, inr}
use Prim.Native.Nat.{ℕ, zero, suc, ◌-◌, ◌/◌, ◌%◌, ◌<◌}
use native.Mathlib.Nat.{not-suc-le-zero, le_of_suc-le-suc, eq-or-lt_of_le}
use native.Mathlib.Omega.{arith}
use lib.Dec.{leb, ltb, eqb}
use lib.ListN.{get_or}
use borrow.Author.Tests.{leb-true, le-leb, ltb-true, lt-ltb, eqb-true, eq-eqb, not-true}
use Rattle.lists.proofs.Bools.{and_left, and_right}
use Rattle.lists.proofs.Each.{each_all, each_at}
use Rattle.addr_law.specs.Law.{InWindow}
use Rattle.addr_layout.specs.declared.layout.AddrLayout.{AddrLayout}
use Rattle.stored_slot.specs.Stored.{within, force_low, force_high, names}
use Rattle.stored_slot.specs.declared.stored.StoredSlot.{StoredSlot}
use Rattle.premises.specs.WellWired.{Unforced}
use Rattle.premises.specs.Given.{forces, nothing_forced}
use Rattle.premises.proofs.Truths.{not_so, clash, fails, or_left, or_right}

-- whether override k names a GPIO by a kind, and whether a kind forces
abbrev named : List ℕ → ℕ → ℕ → ℕ → Bool
named l kind g k = eqb (get_or l k 0 % 64) g && eqb (get_or l k 0 / 64) kind

abbrev forcing : ℕ → Bool
forcing kind = eqb kind force_low || eqb kind force_high

neither : (t u : Bool) → t ≡ false → u ≡ false → t || u ≡ false
neither t u e f = rw (e, f)

-- of some overrides one names a GPIO if any of them does
none_named : (n : ℕ) (l : List ℕ) (kind g : ℕ) → ((k : ℕ) → k < n → named l kind g k ≡ false) → names n l kind g ≡ false
unfolding names
none_named zero l kind g h = refl
none_named (suc n) l kind g h = neither _ _ (none_named n l kind g (λ k m. h k (omega arith))) (h n (omega arith))

one-named : (n : ℕ) (l : List ℕ) (kind g k : ℕ) → k < n → named l kind g k ≡ true → names n l kind g ≡ true
unfolding names
one-named zero l kind g k m e = absurd (not-suc-le-zero m)
one-named (suc n) l kind g k m e =
    elim (eq-or-lt_of_le (le_of_suc-le-suc m)) [
      | inl q ↦ or_right (names n l kind g) (named l kind g n) (ap (named l kind g) (sym q) ∙ e)
      | inr q ↦ or_left (names n l kind g) (named l kind g n) (one-named n l kind g k q e)
    ]

module _ (a : AddrLayout) (s : StoredSlot) where
  -- the window's test
  abbrev inside : ℕ → Bool
  inside g = within a.gpio_base a.num_addr_pins g

  window_is : (g : ℕ) → inside g ≡ true → InWindow a g
  window_is g e =
      let low = leb-true a.gpio_base g (and_left (leb a.gpio_base g) (ltb (g - a.gpio_base) a.num_addr_pins) e) in
      let high = ltb-true (g - a.gpio_base) _ (and_right (leb a.gpio_base g) (ltb (g - a.gpio_base) a.num_addr_pins) e) in
      (low, omega (arith, low, high))

  window_of : (g : ℕ) → InWindow a g → inside g ≡ true
  window_of g w =
      let high : g - a.gpio_base < a.num_addr_pins = omega (arith, w.0, w.1) in
      rw (le-leb a.gpio_base g w.0, lt-ltb _ _ high)

  abbrev over : ℕ → ℕ
  over k = get_or s.overrides k 0

  -- an override that forces a GPIO of the window
  forced : (k kind g : ℕ) → forcing kind ≡ true → InWindow a g → named s.overrides kind g k ≡ true → forces a (over k) ≡ true
  forced k kind g f w e =
      let at : over k % 64 ≡ g = eqb-true _ _ (and_left (eqb (over k % 64) g) (eqb (over k / 64) kind) e) in
      let by : over k / 64 ≡ kind = eqb-true _ _ (and_right (eqb (over k % 64) g) (eqb (over k / 64) kind) e) in
      let within : inside (over k % 64) ≡ true = window_of _ (subst (InWindow a) (sym at) w) in
      let force : forcing (over k / 64) ≡ true = ap (λ (x : ℕ). forcing x) by ∙ f in
      rw (within, force)

  none_by : nothing_forced a s ≡ true → (kind g : ℕ) → forcing kind ≡ true → InWindow a g → names s.num_overrides s.overrides kind g ≡ false
  unfolding nothing_forced
  none_by e kind g f w =
      none_named s.num_overrides s.overrides kind g (λ k m.
      fails _ (λ t. clash (forces a (over k)) (forced k kind g f w t) (not-true _ (each_at _ s.num_overrides e k m))))

  pub unforced_is : nothing_forced a s ≡ true → Unforced a s
  unforced_is e g w = (none_by e force_low g refl w, none_by e force_high g refl w)

  -- what forces is of one of the two kinds
  named_by : (k : ℕ) → k < s.num_overrides → (kind : ℕ) → eqb (over k / 64) kind ≡ true
      → names s.num_overrides s.overrides kind (over k % 64) ≡ true
  named_by k m kind e =
      one-named s.num_overrides s.overrides kind (over k % 64) k m (rw (eq-eqb (over k % 64) (over k % 64) refl, e))

  not_forced : Unforced a s → (k : ℕ) → k < s.num_overrides → forces a (over k) ≡ true → ⊥
  not_forced u k m e = by (eqb (over k / 64) force_low) (eqb (over k / 64) force_high) refl refl (and_right (inside (over k % 64)) (forcing (over k / 64)) e) where
    free : (names s.num_overrides s.overrides force_low (over k % 64) ≡ false) × (names s.num_overrides s.overrides force_high (over k % 64) ≡ false)
    free = u (over k % 64) (window_is (over k % 64) (and_left (inside (over k % 64)) (forcing (over k / 64)) e))

    by : (t v : Bool) → eqb (over k / 64) force_low ≡ t → eqb (over k / 64) force_high ≡ v → t || v ≡ true → ⊥
    by true v p q h = clash _ (named_by k m force_low p) free.0
    by false true p q h = clash _ (named_by k m force_high q) free.1
    by false false p q h = not_so h

  pub unforced_if : Unforced a s → nothing_forced a s ≡ true
  unfolding nothing_forced
  unforced_if u = each_all _ s.num_overrides (λ k m. ap not (fails (forces a (over k)) (not_forced u k m)))
