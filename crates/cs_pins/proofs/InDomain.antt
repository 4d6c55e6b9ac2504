-- In a description of the domain each pin that the select search numbers has GPIOs of the RP2350 for candidates, and so has the line
-- of any kind; and there are no more such pins than a listing has room for. Assumes nothing.
use mathlib.Core.Path.{◌≡◌, refl}
use mathlib.Core.Bool.{Bool, true, false, cond}
use mathlib.Core.List.{List, ◌++◌}
use Prim.Native.Nat.{ℕ, zero, suc}
use lib.Dec.{leb, eqb}
use lib.ListN.{get_or}
use Rattle.gpio.specs.Candidates.{candidates_in}
use Rattle.gpio.specs.declared.candidates.Candidates.TheVariants.{Absent}
use Rattle.slot.specs.Description.{is_multi, chip0, line_at}
use Rattle.slot.specs.declared.description.Description.{Description}
use Rattle.refusal.specs.declared.Refusal.TheVariants.{NoSelectLine}
use Rattle.domain.specs.Domain.{description_in}
use Rattle.domain.proofs.Bounds.{description_in_lem, chip0_in, config_in}
use Rattle.listing.specs.Choice.{GpiosIn}
use Rattle.listing.specs.Lines.{kind_pin}
use Rattle.listing.specs.Listing.{listed, x_pins}
use Rattle.listing.specs.declared.Listed.{Listed}
use Rattle.listing.proofs.InDomain.{none_in, cons_in, one_in, append_in, tab_in, x_pins_in, pin_in}
use Rattle.cs_pins.specs.Pins.{
  pin_listed,
  data_listed,
  active,
  if_active,
  active_listed,
  kind_listed,
  select_listed,
  commoned_listed,
  numbered,
}
use Rattle.cs_pins.specs.Design.Numbered.{NumberedIn}

-- lists picked by a test
cond_in : (t : Bool) (a b : List Listed) → GpiosIn a → GpiosIn b → GpiosIn (cond t a b)
cond_in true a b ha hb = ha
cond_in false a b ha hb = hb

module _ (d : Description) (e : description_in d ≡ true) where
  listed_in : (pin : ℕ) → candidates_in (pin_listed d pin).gpios ≡ true
  unfolding pin_listed
  listed_in pin = pin_in d e pin

  or_no_line_in : (t : Bool) (pin : ℕ) → candidates_in (cond t (listed Absent NoSelectLine) (pin_listed d pin)).gpios ≡ true
  or_no_line_in true pin = refl
  or_no_line_in false pin = listed_in pin

  pub kind_in : (kind : ℕ) → candidates_in (kind_listed d kind).gpios ≡ true
  unfolding kind_listed
  kind_in kind = or_no_line_in (eqb (kind_pin d kind) 0) (kind_pin d kind)

  active_in : (k : ℕ) → GpiosIn (active_listed d k)
  unfolding active_listed
  active_in zero = none_in
  active_in (suc k) =
      append_in (active_listed d k) (if_active d k) (active_in k)
      (cond_in (active d k) _ _ (one_in (pin_listed d (line_at (chip0 d).control k).pin) (listed_in _)) none_in)

  data_in : GpiosIn (data_listed d)
  unfolding data_listed
  data_in = tab_in _ (λ k. listed_in (get_or (chip0 d).data_pins k 0)) (chip0 d).num_data_pins

  select_in : GpiosIn (select_listed d)
  unfolding select_listed
  select_in =
      let one = leb 2 d.num_chips in
      let both = leb 3 d.num_chips in
      cond_in (is_multi d.set_type) _ _
      (cons_in (kind_listed d d.multi.select) (x_pins d.board one both) (kind_in _) (x_pins_in d.board (description_in_lem d e).board one both))
      (active_in (chip0 d).control.count)

  commoned_in : GpiosIn (commoned_listed d)
  unfolding commoned_listed
  commoned_in =
      cond_in (is_multi d.set_type) _ _ (tab_in _ (λ k. kind_in (get_or d.multi.commoned k 0)) d.multi.num_commoned) none_in

  pub numbered_in : GpiosIn (numbered d)
  unfolding numbered
  numbered_in =
      append_in (data_listed d ++ select_listed d) (commoned_listed d) (append_in (data_listed d) (select_listed d) data_in select_in) commoned_in

  pub few-numbered : NumberedIn d
  few-numbered = let chip = chip0_in d e in record { data-pins = chip.data-pins.1; control_lines = chip.control_lines; commoned-lines = λ m. (config_in d e m).commoned-lines }
