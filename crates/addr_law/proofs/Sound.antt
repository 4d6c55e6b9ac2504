-- What the fields of the layout of a choice that fits keep. Assumes nothing.
use Rattle.std.specs.Prelude.{Option, Some}
use mathlib.Core.Path.{◌≡◌, refl, sym, ◌∙◌, ap}
use mathlib.Core.Bool.{Bool, true, false, cond, not}
use mathlib.Core.List.{List, ◌++◌}
use Prim.Native.Nat.{ℕ, ◌+◌, ◌≤◌, ◌<◌}
use native.Mathlib.Nat.{add-zero}
use native.Mathlib.Omega.{arith}
use lib.Dec.{leb, ltb}
use lib.ListN.{length, get_or, length-append, get_or-append}
use lib.Seq.{get_or-append-add}
use borrow.Author.Tests.{ltb-false, lt-ltb, le-ltb, le-leb}
use Rattle.lists.specs.Tab.{tab}
use Rattle.lists.proofs.Tab.{tab-length, get_or-tab}
use Rattle.gpio.specs.declared.candidates.Candidates.{Candidates}
use Rattle.gpio.specs.declared.candidates.Candidates.TheVariants.{Absent}
use Rattle.slot.specs.Description.{is_single}
use Rattle.slot.specs.declared.description.Description.{Description}
use Rattle.refusal.specs.declared.Refusal.TheVariants.{OutOfDomain}
use Rattle.domain.specs.Domain.{description_in}
use Rattle.domain.proofs.Bounds.{chip0_in}
use Rattle.listing.specs.Choice.{pin_at, gpio_at}
use Rattle.listing.specs.Law.{Assigned}
use Rattle.listing.specs.Listing.{listed, x_pins}
use Rattle.listing.specs.declared.Listed.{Listed}
use Rattle.addr_lines.specs.Lines.{lines, line_listed, addr_listed}
use Rattle.addr_lines.specs.Range.{reach, in_range}
use Rattle.addr_layout.specs.Layouts.{addr_layout_of}
use Rattle.addr_layout.specs.declared.layout.AddrLayout.{AddrLayout}
use Rattle.addr_law.specs.Law.{Spanned, of_pin, Fit, InWindow, XLaid, SoundLayout}

-- the fewer of two numbers is at most either
fewer_both : (m n : ℕ) (t : Bool) → ltb m n ≡ t → cond t m n ≤ m
fewer_both m n true e = omega arith
fewer_both m n false e = omega (arith, ltb-false m n e)

-- the fields of the layout of choice c, its GPIOs being candidates that fit
module _ (d : Description) (c : ℕ) (e : description_in d ≡ true)
    (candidate : Assigned (addr_listed d) (λ k. gpio_at (addr_listed d) c k))
    (fit : Fit d (λ k. gpio_at (addr_listed d) c k) (addr_layout_of d (addr_listed d) c).gpio_base (addr_layout_of d (addr_listed d) c).num_addr_pins) where
  abbrev laid : AddrLayout
  laid = addr_layout_of d (addr_listed d) c

  abbrev xs : List Listed
  xs = x_pins d.board (not (is_single d.set_type)) (leb 3 d.num_chips)

  few : (in_range d ≤ lines d) × (lines d ≤ 24)
  few =
      let pins = (chip0_in d e).address-pins in
      (fewer_both (lines d) (reach d) (ltb (lines d) (reach d)) refl, omega (arith, pins))

  listed-length : length (addr_listed d) ≡ lines d + length xs
  unfolding addr_listed
  listed-length = simp (length-append, tab-length)

  line-pin : (n : ℕ) → n < lines d → pin_at (addr_listed d) n ≡ (line_listed d n).gpios
  unfolding addr_listed
  line-pin n l =
      let z = listed Absent OutOfDomain in
      ap (λ (x : Listed). x.gpios)
      (get_or-append (tab (lines d) (λ k. line_listed d k)) xs z n (rw (tab-length (λ k. line_listed d k) (lines d)) l)
      ∙ get_or-tab (λ k. line_listed d k) (lines d) n z l)

  x_pin : (k : ℕ) → pin_at (addr_listed d) (lines d + k) ≡ pin_at xs k
  unfolding addr_listed
  x_pin k =
      let z = listed Absent OutOfDomain in
      let ls = tab (lines d) (λ k. line_listed d k) in
      ap (λ (x : Listed). x.gpios)
      (ap (λ (n : ℕ). get_or (ls ++ xs) (n + k) z) (sym (tab-length (λ k. line_listed d k) (lines d))) ∙ get_or-append-add ls xs k z)

  line_is : (n : ℕ) → n < in_range d → get_or laid.gpios n 0 ≡ gpio_at (addr_listed d) c n
  line_is n l =
      get_or-tab (λ k. cond (ltb k (lines d)) (gpio_at (addr_listed d) c k) 0) 24 n 0 (omega (arith, few)) ∙ rw (lt-ltb n (lines d) (omega (arith, few)))

  in_window : (g : ℕ) → Spanned d (λ k. gpio_at (addr_listed d) c k) g → InWindow laid g
  in_window g s = (fit.extent.lowest g s, fit.extent.inside g s)

  line-spanned : (n : ℕ) → n < in_range d → Spanned d (λ k. gpio_at (addr_listed d) c k) (gpio_at (addr_listed d) c n)
  line-spanned n l = of_pin n (omega (arith, listed-length, few)) (rw (lt-ltb n (in_range d) l)) refl

  -- an X pin behind the lines
  x_laid : (k : ℕ) (x : Candidates) (used : Option ℕ) → k < length xs → pin_at xs k ≡ x → used ≡ Some (gpio_at (addr_listed d) c (lines d + k)) → XLaid laid x used
  x_laid k x used l p u =
      let past : in_range d ≤ lines d + k = omega (arith, few) in
      let from : lines d ≤ lines d + k = omega arith in
      let here : lines d + k < length (addr_listed d) = omega (arith, listed-length) in
      let g = gpio_at (addr_listed d) c (lines d + k) in (
        g,
        u,
        rw (x_pin k ∙ p) at (candidate (lines d + k) here),
        in_window g (of_pin (lines d + k) here (rw (le-ltb (lines d + k) (in_range d) past, le-leb (lines d) (lines d + k) from)) refl),
      )

  pub sound-layout : SoundLayout d c laid
  sound-layout = record {
    in_use = refl;
    line-gpio = line_is;
    line-candidate = λ n l. rw (line_is n l, ← line-pin n (omega (arith, few))) (candidate n (omega (arith, listed-length, few)));
    line-window = λ n l. rw (line_is n l) (in_window (gpio_at (addr_listed d) c n) (line-spanned n l));
    x1 = λ s. x_laid 0 d.board.x1 laid.x1_gpio (rw s (omega arith)) (rw s) (rw (s, add-zero));
    x2 = λ s l. x_laid 1 d.board.x2 laid.x2_gpio (rw (s, le-leb 3 d.num_chips l) (omega arith)) (rw (s, le-leb 3 d.num_chips l)) (rw (s, le-leb 3 d.num_chips l));
  }
