-- The first fault of several, by what 'first' says. Assumes nothing.
use Rattle.std.specs.Prelude.{Option, Some, None}
use mathlib.Core.Path.{◌≡◌, refl, sym, ◌∙◌, ap}
use mathlib.Core.Logic.{inl, inr}
use Prim.Native.Nat.{ℕ, zero, suc}
use native.Mathlib.Nat.{eq-or-lt_of_le, le_of_suc-le-suc}
use native.Mathlib.Omega.{arith}
use Rattle.lists.proofs.Loops.{zero_one}
use Rattle.refusal.specs.First.{or_else, first_of}
use Rattle.refusal.specs.Law.{Lowest, FirstLaw, NumberLaw}
use Rattle.refusal.specs.declared.Refusal.{Refusal}
use Rattle.refusal.specs.declared.Refusal.TheVariants.{
  OutOfDomain,
  NoSelectLine,
  UnmappedPin,
  MissingXPin,
  MissingAddrPinGpios,
  RomTooLargeNoCsConfig,
  NonContiguousSelect,
  InteriorIgnoredLine,
  NoValidLayout,
  IncompatiblePinCount,
  RomTableTooLarge,
  InvalidConfig,
  BadPosition,
  MissingImageData,
  ShortImageData,
  ShortBuffer,
  WrongSize,
  UnknownSlotType,
  MissingLayout,
  UnknownAlgorithm,
  BadLayout,
  XPin,
  Inconsistent,
  Unserved,
  NoActiveLine,
  BadRecord,
  BadChecksum,
  PastChip,
}
use Rattle.refusal.proofs.Firsts.{first-all, none_of}

module _ (f : ℕ → Option Refusal) where
  -- one more: the fault found before, else its own
  more : (n : ℕ) (r : Refusal) (g : Option Refusal) → first_of n f ≡ g → ((q : Refusal) → first_of n f ≡ Some q → Lowest n f q) → or_else g (f n) ≡ Some r
      → Lowest (suc n) f r
  more n r (Some q) e h o =
      let l = h r (e ∙ o) in
      record { at = l.at; within = omega (arith, l.within); fault = l.fault; none_before = l.none_before }
  more n r None e h o = record { at = n; within = omega arith; fault = o; none_before = first-all f n e }

  found : (n : ℕ) (r : Refusal) → first_of n f ≡ Some r → Lowest n f r
  unfolding first_of
  found zero r e = absurd (zero_one cc)
  found (suc n) r e = more n r (first_of n f) refl (found n) e

  is_found : (n : ℕ) (r : Refusal) → Lowest n f r → first_of n f ≡ Some r
  unfolding first_of
  is_found zero r l = absurd (omega (arith, l.within))
  is_found (suc n) r l = elim (eq-or-lt_of_le (le_of_suc-le-suc l.within)) [
    | inl q ↦
        let none : first_of n f ≡ None = none_of n f (λ k h. l.none_before k (omega arith)) in
        let own : f n ≡ Some r = ap f (sym q) ∙ l.fault in
        rw (none, own)
    | inr h ↦
        let before : first_of n f ≡ Some r = is_found n r (record { at = l.at; within = h; fault = l.fault; none_before = l.none_before }) in
        rw before
  ]

pub first_law : (n : ℕ) (f : ℕ → Option Refusal) → FirstLaw n f
first_law n f = record { found = found f n; is_found = is_found f n; none = first-all f n; is_none = none_of n f }

pub number_law : (why : Refusal) → NumberLaw why
number_law OutOfDomain = record { some = omega arith; most = omega arith }
number_law NoSelectLine = record { some = omega arith; most = omega arith }
number_law (UnmappedPin pin) = record { some = omega arith; most = omega arith }
number_law (MissingXPin x) = record { some = omega arith; most = omega arith }
number_law MissingAddrPinGpios = record { some = omega arith; most = omega arith }
number_law RomTooLargeNoCsConfig = record { some = omega arith; most = omega arith }
number_law (NonContiguousSelect gpios) = record { some = omega arith; most = omega arith }
number_law (InteriorIgnoredLine gpio) = record { some = omega arith; most = omega arith }
number_law NoValidLayout = record { some = omega arith; most = omega arith }
number_law IncompatiblePinCount = record { some = omega arith; most = omega arith }
number_law RomTableTooLarge = record { some = omega arith; most = omega arith }
number_law InvalidConfig = record { some = omega arith; most = omega arith }
number_law BadPosition = record { some = omega arith; most = omega arith }
number_law (MissingImageData chip) = record { some = omega arith; most = omega arith }
number_law (ShortImageData chip) = record { some = omega arith; most = omega arith }
number_law ShortBuffer = record { some = omega arith; most = omega arith }
number_law WrongSize = record { some = omega arith; most = omega arith }
number_law UnknownSlotType = record { some = omega arith; most = omega arith }
number_law MissingLayout = record { some = omega arith; most = omega arith }
number_law UnknownAlgorithm = record { some = omega arith; most = omega arith }
number_law BadLayout = record { some = omega arith; most = omega arith }
number_law (XPin x) = record { some = omega arith; most = omega arith }
number_law (Inconsistent rom addr) = record { some = omega arith; most = omega arith }
number_law (Unserved rom addr) = record { some = omega arith; most = omega arith }
number_law NoActiveLine = record { some = omega arith; most = omega arith }
number_law BadRecord = record { some = omega arith; most = omega arith }
number_law BadChecksum = record { some = omega arith; most = omega arith }
number_law PastChip = record { some = omega arith; most = omega arith }
