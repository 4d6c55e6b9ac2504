-- Demand 2 of the address search, over its call. Assumes nothing.
use Rattle.std.specs.Prelude.{Ok, Err, Result}
use mathlib.Core.Path.{◌≡◌, refl, sym, ◌∙◌, ap, subst}
use mathlib.Core.Bool.{Bool, true, false, ◌&&◌, ◌||◌}
use mathlib.Core.List.{List}
use mathlib.Core.Logic.{inl, inr}
use Prim.Native.Nat.{ℕ, ◌+◌, ◌≤◌, ◌<◌}
use native.Mathlib.Omega.{arith}
use lib.Dec.{leb}
use lib.ListN.{length, take}
use borrow.Author.Tests.{leb-true, le-leb, le-ltb}
use Rattle.lists.proofs.Bools.{and_left, and_right}
use Rattle.slot.specs.declared.description.Description.{Description}
use Rattle.domain.specs.Domain.{description_in}
use Rattle.refusal.specs.declared.Refusal.{Refusal}
use Rattle.refusal.specs.declared.Refusal.TheVariants.{NoValidLayout}
use Rattle.addr_layout.specs.Search.{addr_answer}
use Rattle.addr_layout.specs.declared.layout.AddrLayout.{AddrLayout}
use Rattle.addr_law.specs.Law as law
use Rattle.addr_law.proofs.Law.{addr_demand}
use Rattle.gpio.specs.Window.{fits}
use Rattle.cs_data_law.proofs.Law.{neither-below}
use Rattle.premises.proofs.Truths.{or_right}
use Rattle.addr_record.specs.AddrRecord.{addr_size, layout_at, ValuedAddr}
use Rattle.addr_record.proofs.Back.{layout-back}
use Rattle.calls.specs.Packed.{packed_code, result_of}
use Rattle.calls.specs.Calls.{Answered, addr_found, addr_call}
use Rattle.calls.proofs.Law.{done_alone}
use Rattle.demands.specs.Refused.{number_in}
use Rattle.demands.specs.Searches.{described, Seen, AddressFits, address_score, BestAddress, address_called, AddressPast, AddressDemand}
use Rattle.demands.proofs.Found.{addr-valued}
use Rattle.demands.proofs.FourCalls as calls
use Rattle.demands.proofs.Refused.{number_of_lem}

-- what a PIO block sees, as numbers and as the definition's test
seen-fits : (low pins : ℕ) → Seen low pins → fits low pins ≡ true
seen-fits low pins s = elim s [
  | inl h ↦ rw (le-leb (low + pins) 32 (omega (arith, h)))
  | inr h ↦ or_right (leb (low + pins) 32) (leb 16 low && leb (low + pins) 48)
      (rw (le-leb 16 low (omega (arith, h.0)), le-leb (low + pins) 48 (omega (arith, h.1))))
]

fits-seen : (low pins : ℕ) → fits low pins ≡ true → Seen low pins
fits-seen low pins e = by (leb (low + pins) 32) refl e
  where
    by : (t : Bool) → leb (low + pins) 32 ≡ t → t || (leb 16 low && leb (low + pins) 48) ≡ true → Seen low pins
    by true q h = inl (leb-true _ _ q)
    by false q h = inr (leb-true _ _ (and_left (leb 16 low) (leb (low + pins) 48) h), leb-true _ _ (and_right (leb 16 low) (leb (low + pins) 48) h))

to_law : (d : Description) (pick : ℕ → ℕ) (low pins : ℕ) → AddressFits d pick low pins → law.Fit d pick low pins
to_law d pick low pins f = record {
  extent = record { attained = f.lowest; lowest = f.above; inside = f.below; wide = f.eight; tight = f.tight };
  window = seen-fits low pins f.seen;
}

from_law : (d : Description) (pick : ℕ → ℕ) (low pins : ℕ) → law.Fit d pick low pins → AddressFits d pick low pins
from_law d pick low pins f = record {
  lowest = f.extent.attained;
  above = f.extent.lowest;
  below = f.extent.inside;
  eight = f.extent.wide;
  tight = f.extent.tight;
  seen = fits-seen low pins f.window;
}

module _ (description buffer : List ℕ) (past : AddressPast description buffer) where
  abbrev d : Description
  d = described description

  abbrev tests : law.PastTests d
  tests = record { domain = past.domain; no_fault = past.no_fault }

  called_is : addr_call description buffer ≡ addr_found (addr_answer d) buffer
  unfolding addr_call
  called_is = rw past.formed

  -- a layout that is found is written
  written-done : (x : Result AddrLayout Refusal) (l : AddrLayout) → x ≡ Ok l → (addr_found x buffer).answer ≡ Ok tt
  written-done x l e = rw (e, le-ltb (length buffer) addr_size past.room)

  found : (l : AddrLayout) → addr_answer d ≡ Ok l → (address_called description buffer).result ≡ 0
  unfolding packed_code
  found l e = rw (ap (λ (x : Answered). x.answer) called_is ∙ written-done (addr_answer d) l e)

  best : (address_called description buffer).result ≡ 0 → BestAddress d (layout_at (take addr_size (address_called description buffer).buffer))
  best e =
      let is-done = ap (λ (x : Answered). x.answer) (sym called_is) ∙ done_alone (addr_call description buffer).answer e in
      let (l, laid, at_front) = calls.addr-found (addr_answer d) buffer is-done in
      let (c, b) = (addr_demand d tests).found-best l laid in
      let in_domain = and_left (description_in d) _ past.domain in
      let back = layout-back l (subst ValuedAddr (sym b.layout) (addr-valued d c in_domain)) in
      let reads : layout_at (take addr_size (addr_call description buffer).buffer) ≡ l =
      ap (λ (x : Answered). layout_at (take addr_size x.buffer)) called_is ∙ ap layout_at at_front ∙ back in
      subst (BestAddress d) (sym reads) (record {
        choice = c;
        lines = b.sound.line-gpio;
        fits = from_law d _ _ _ b.fit;
        lowest = λ pick low pins h f. b.lowest pick low pins h (to_law d pick low pins f);
        earliest = λ j low pins h f. omega (arith, b.earliest j low pins h (to_law d _ low pins f));
      })

  -- of two best choices neither is earlier
  no_worse : (l m : AddrLayout) (p : BestAddress d l) (q : BestAddress d m)
      → address_score l.gpio_base l.num_addr_pins ≤ address_score m.gpio_base m.num_addr_pins
  no_worse l m p q = p.lowest _ _ _ ((addr_demand d tests).numbers.makes_one q.choice) q.fits

  not_earlier : (l m : AddrLayout) (p : BestAddress d l) (q : BestAddress d m) → p.choice < q.choice → ⊥
  not_earlier l m p q h = omega (arith, no_worse l m p q, q.earliest p.choice _ _ h p.fits)

  below_48 : (low pins : ℕ) → Seen low pins → low ≤ 48
  below_48 low pins s = elim s [ inl h ↦ omega (arith, h) | inr h ↦ omega (arith, h.1) ]

  one : (l m : AddrLayout) (p : BestAddress d l) (q : BestAddress d m)
      → (p.choice ≡ q.choice) × (l.gpio_base ≡ m.gpio_base) × (l.num_addr_pins ≡ m.num_addr_pins)
  one l m p q =
      let same = no_worse l m p q in
      let other = no_worse m l q p in
      let low = below_48 _ _ p.fits.seen in
      let low' = below_48 _ _ q.fits.seen in
      (neither-below p.choice q.choice (not_earlier l m p q) (not_earlier m l q p), omega (arith, same, other, low, low'), omega (arith, same, other, low, low'))

  none : addr_answer d ≡ Err NoValidLayout → number_in (address_called description buffer).result ≡ 9
  none e =
      ap (λ (x : Answered). number_in (result_of x.answer)) called_is
      ∙ ap (λ (x : Result AddrLayout Refusal). number_in (result_of (addr_found x buffer).answer)) e
      ∙ number_of_lem NoValidLayout

  pub address_demand : AddressDemand description buffer
  address_demand = record {
    found = λ pick low pins h f. let (l, e) = (addr_demand d tests).some-found pick low pins h (to_law d pick low pins f) in found l e;
    best = best;
    one = one;
    none = λ h. none ((addr_demand d tests).none-nine (λ pick low pins a f. h pick low pins a (from_law d pick low pins f)));
  }
