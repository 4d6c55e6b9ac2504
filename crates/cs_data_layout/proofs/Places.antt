-- Each refusal of the select search is one of document 01's rows, with a place of 48 bits. Assumes nothing.
use Rattle.std.specs.Prelude.{Option, Some, None, is_none, Err}
use Rattle.refusal.specs.First.{or_else}
use Rattle.refusal.specs.declared.Refusal.{Refusal}
use mathlib.Core.Path.{◌≡◌, refl}
use mathlib.Core.Bool.{Bool, true, false, ◌&&◌, cond}
use mathlib.Core.List.{List, [], ◌∷◌, ◌++◌}
use Prim.Native.Nat.{ℕ, zero, suc, ◌+◌, ◌-◌, ◌^◌, ◌≤◌, ◌<◌}
use native.Mathlib.Omega.{arith}
use lib.Bits.{bit_and, or_lt}
use lib.Count.{count_trailing_zeros, trailing_le}
use lib.Dec.{leb, ltb, eqb}
use lib.ListN.{length, get_or}
use Rattle.lists.proofs.Bools.{and_left, and_right}
use Rattle.gpio.specs.Set.{set_of, gap, gapless}
use Rattle.gpio.specs.declared.candidates.Candidates.TheVariants.{Absent}
use Rattle.gpio.proofs.Sets.{set-within}
use Rattle.slot.specs.Description.{is_multi, chip0, line_at, kind_at, cs1_kind}
use Rattle.slot.specs.declared.description.Description.{Description}
use Rattle.refusal.specs.declared.Refusal.TheVariants.{OutOfDomain, NoSelectLine, MissingAddrPinGpios, RomTooLargeNoCsConfig, InteriorIgnoredLine}
use Rattle.refusal.proofs.Places.{FirstRows, FirstRow, Small, small_or}
use Rattle.domain.specs.Domain.{description_in}
use Rattle.domain.proofs.Bounds.{chip0_in}
use Rattle.control.specs.CsConfig.{ignores}
use Rattle.listing.specs.Choice.{gpio_at}
use Rattle.listing.specs.Lines.{pin_of, kind_pin}
use Rattle.listing.specs.Listing.{listed, x_pins, twos, first_fault}
use Rattle.listing.specs.declared.Listed.{Listed}
use Rattle.listing.proofs.InDomain.{gpio_in_lem}
use Rattle.listing.proofs.Places.{Placed, placed-append, placed_one, placed-tab, placed_if, placed_x, small-fault}
use Rattle.search.specs.declared.Found.{Found}
use Rattle.cs_pins.specs.Pins.{pin_listed, data_listed, active, if_active, active_listed, kind_listed, multi_commoned, numbered, cs_search_in}
use Rattle.cs_pins.proofs.InDomain.{numbered_in}
use Rattle.cs_checked.specs.Checked.{or_no_active, ignored_listed, multi_checked, checked}
use Rattle.cs_verdict.specs.Verdict.{all_of, selectable, in_one_window, score_of, verdict_of}
use Rattle.cs_verdict.specs.declared.Verdict.{Verdict}
use Rattle.cs_verdict.specs.declared.Verdict.TheVariants.{DataGap, SelectGap, OutsideWindow, Fits}
use Rattle.cs_choices.specs.Nothing.{interior_in, interior_of, interior, refused_of, last_refused, nothing_fits}
use Rattle.cs_choices.specs.Sets.{data_set, select_set}
use Rattle.cs_data_layout.specs.Layout.{cs_data_code, handed}
use Rattle.cs_data_layout.specs.Choices.{num_data, excess_gpio, excess_set, qualifier_set, cs_verdict, ignored_set}
use Rattle.cs_data_layout.specs.Search.{given_in, earlier, cs_best, or_no_layout, none_fits, cs_data_answer_of, after_earlier, cs_data_answer}
use Rattle.addr_layout.specs.declared.layout.AddrLayout.{AddrLayout}
use Rattle.cs_data_layout.proofs.Bounds.{described, excess_in}
use Rattle.cs_data_layout.proofs.Searched.{handed_in}

-- a test, and what is tested after it
small_test : (bad : Bool) (why : Refusal) (rest : Option Refusal) → FirstRow why → Small rest → Small (or_else (cond bad (Some why) None) rest)
small_test true why rest h s = h
small_test false why rest h s = s

-- the lists: pins 1 to 40 of the chip, and X pins
most_of : (t : Bool) (x y : ℕ) → x ≤ 40 → y ≤ 40 → cond t x y ≤ 40
most_of true x y p q = p
most_of false x y p q = q

no_active_placed : (ls : List Listed) → Placed ls → Placed (or_no_active ls)
unfolding or_no_active
no_active_placed [] p = placed_one (listed Absent NoSelectLine) (omega arith)
no_active_placed (l ∷ ls) p = p

module _ (d : Description) (e : description_in d ≡ true) where
  pin-placed : (pin : ℕ) → pin ≤ 40 → FirstRow (pin_listed d pin).fault
  unfolding pin_listed
  pin-placed pin l = omega arith

  data-placed : Placed (data_listed d)
  unfolding data_listed
  data-placed =
      placed-tab (chip0 d).num_data_pins (λ k. pin_listed d (get_or (chip0 d).data_pins k 0)) (λ k l. pin-placed (get_or (chip0 d).data_pins k 0) ((chip0_in d e).data-pin k l))

  kind_most : (kind k : ℕ) → k ≤ (chip0 d).control.count → pin_of (chip0 d).control kind k ≤ 40
  unfolding pin_of
  kind_most kind zero l = omega arith
  kind_most kind (suc k) l =
      most_of (eqb (kind_at (chip0 d).control k) kind) (line_at (chip0 d).control k).pin (pin_of (chip0 d).control kind k)
      ((chip0_in d e).control_pin k l) (kind_most kind k (omega arith))

  no_line-placed : (t : Bool) (pin : ℕ) → pin ≤ 40 → FirstRow (cond t (listed Absent NoSelectLine) (pin_listed d pin)).fault
  no_line-placed true pin l = omega arith
  no_line-placed false pin l = pin-placed pin l

  kind_placed : (kind : ℕ) → FirstRow (kind_listed d kind).fault
  unfolding kind_listed
  kind_placed kind = no_line-placed (eqb (kind_pin d kind) 0) (kind_pin d kind) (kind_most kind (chip0 d).control.count (omega arith))

  active-placed : (k : ℕ) → k ≤ (chip0 d).control.count → Placed (active_listed d k)
  unfolding active_listed
  active-placed zero l = tt
  active-placed (suc k) l =
      let pin = (line_at (chip0 d).control k).pin in
      placed-append (active_listed d k) (if_active d k) (active-placed k (omega arith))
      (placed_if (active d k) (pin_listed d pin ∷ []) [] (placed_one (pin_listed d pin) (pin-placed pin ((chip0_in d e).control_pin k l))) tt)

  ignored-placed : Placed (ignored_listed d)
  unfolding ignored_listed
  ignored-placed = placed-tab d.multi.num_ignored (λ k. kind_listed d (get_or d.multi.ignored k 0)) (λ k l. kind_placed (get_or d.multi.ignored k 0))

  multi-placed : Placed (multi_checked d)
  unfolding multi_checked
  multi-placed =
      let one = kind_listed d d.multi.select ∷ [] in
      placed-append ((one ++ multi_commoned d) ++ ignored_listed d) (x_pins d.board (leb 2 d.num_chips) (leb 3 d.num_chips))
      (placed-append (one ++ multi_commoned d) (ignored_listed d)
      (placed-append one (multi_commoned d) (placed_one (kind_listed d d.multi.select) (kind_placed d.multi.select))
      (placed-tab d.multi.num_commoned (λ k. kind_listed d (get_or d.multi.commoned k 0)) (λ k l. kind_placed (get_or d.multi.commoned k 0))))
      ignored-placed)
      (placed_x d.board (leb 2 d.num_chips) (leb 3 d.num_chips))

  checked-placed : Placed (checked d)
  unfolding checked
  checked-placed =
      let n = (chip0 d).control.count in
      placed_if (is_multi d.set_type) (multi_checked d) (or_no_active (active_listed d n)) multi-placed
      (no_active_placed (active_listed d n) (active-placed n (omega arith)))

  small-earlier : (a : Option AddrLayout) → Small (earlier d a)
  unfolding earlier
  small-earlier a =
      small_test (is_none a && ltb 0 d.num_qualifiers) MissingAddrPinGpios _ (omega arith)
      (small_test (ltb 0 (handed a).num_excess && ignores d.cs_config cs1_kind) RomTooLargeNoCsConfig _ (omega arith)
      (small_or (first_fault (data_listed d)) (first_fault (checked d)) (small-fault (data_listed d) data-placed) (small-fault (checked d) checked-placed)))

-- where nothing fits: a GPIO of 64 at most, or a select set
abbrev GapIn : Verdict → Type 0
GapIn DataGap = Unit
GapIn (SelectGap s) = s < 2 ^ 48
GapIn OutsideWindow = Unit
GapIn (Fits score) = Unit

small-seen : (seen : ℕ) → Small (interior_in seen)
small-seen seen = by (eqb seen 0)
  where
    by : (t : Bool) → Small (cond t None (Some (InteriorIgnoredLine (count_trailing_zeros 64 seen))))
    by true = tt
    by false = omega (arith, trailing_le 64 seen)

small-interior : (ignored : ℕ) (v : Verdict) → Small (interior_of ignored v)
small-interior ignored DataGap = tt
small-interior ignored (SelectGap s) = small-seen (bit_and (gap s) ignored)
small-interior ignored OutsideWindow = tt
small-interior ignored (Fits score) = tt

small-refused : (v : Verdict) → GapIn v → Small (refused_of v)
small-refused DataGap h = tt
small-refused (SelectGap s) h = omega arith
small-refused OutsideWindow h = tt
small-refused (Fits score) h = tt

module _ (ignored : ℕ) (verdict : ℕ → Verdict) (h : (c : ℕ) → GapIn (verdict c)) where
  small_interiors : (n : ℕ) → Small (interior ignored verdict n)
  unfolding interior
  small_interiors zero = tt
  small_interiors (suc n) = small_or (interior ignored verdict n) _ (small_interiors n) (small-interior ignored (verdict n))

  small-last : (n : ℕ) → Small (last_refused verdict n)
  unfolding last_refused
  small-last zero = tt
  small-last (suc n) = small_or (refused_of (verdict n)) (last_refused verdict n) (small-refused (verdict n) (h n)) (small-last n)

  small-nothing : (n : ℕ) → Small (nothing_fits ignored verdict n)
  small-nothing n = small_or (interior ignored verdict n) (last_refused verdict n) (small_interiors n) (small-last n)

gap_in : (one two three : Bool) (score s : ℕ) → s < 2 ^ 48 → GapIn (cond one (cond two (cond three (Fits score) OutsideWindow) (SelectGap s)) DataGap)
gap_in true true true score s h = tt
gap_in true true false score s h = tt
gap_in true false three score s h = h
gap_in false two three score s h = tt

module _ (d : Description) (a : Option AddrLayout) (search-in : cs_search_in d ≡ true) (given_in_lem : given_in d a ≡ true) where
  verdict_in : (c : ℕ) → GapIn (cs_verdict d (handed a) c)
  unfolding verdict_of
  verdict_in c =
      let ls = numbered d in
      let n = num_data d in
      let q = qualifier_set d (handed a) in
      let ds = data_set ls n c in
      let ss = select_set ls n (excess_set (handed a)) c in
      let pins = set-within (λ k. gpio_at ls c (n + k)) (length ls - n) (λ k l. gpio_in_lem ls (numbered_in d (described d search-in)) c (n + k)) in
      let excess = set-within (λ k. excess_gpio (handed a) k) (handed a).num_excess (excess_in (handed a) (handed_in d a given_in_lem)) in
      gap_in (gapless ds) (selectable (is_multi d.set_type) ss) (in_one_window (all_of ds ss q)) (score_of ss q (all_of ds ss q)) ss
      (or_lt 48 (set_of (length ls - n) (λ k. gpio_at ls c (n + k))) (excess_set (handed a)) pins excess)

  none-place : (f : Option Refusal) → Small f → FirstRows (cs_data_code (or_no_layout f))
  none-place (Some why) h = h
  none-place None h = omega arith

  found-place : (x : Option Found) → FirstRows (cs_data_code (cs_data_answer_of d (handed a) x))
  unfolding none_fits
  found-place None =
      let n = 2 ^ twos (numbered d) in
      none-place (nothing_fits (ignored_set d) (cs_verdict d (handed a)) n) (small-nothing (ignored_set d) (cs_verdict d (handed a)) verdict_in n)
  found-place (Some f) = omega arith

  after_place : (f : Option Refusal) → Small f → FirstRows (cs_data_code (after_earlier d (handed a) f))
  after_place (Some why) h = h
  after_place None h = found-place (cs_best d (handed a))

module _ (d : Description) (a : Option AddrLayout) where
  in_place : (t : Bool) → cs_search_in d && given_in d a ≡ t
      → FirstRows (cs_data_code (cond t (after_earlier d (handed a) (earlier d a)) (Err OutOfDomain)))
  in_place true e =
      let search-in = and_left (cs_search_in d) (given_in d a) e in
      after_place d a search-in (and_right (cs_search_in d) (given_in d a) e) (earlier d a) (small-earlier d (described d search-in) a)
  in_place false e = omega arith

  pub cs_data_place : FirstRows (cs_data_code (cs_data_answer d a))
  cs_data_place = in_place (cs_search_in d && given_in d a) refl
