-- What the select search answered before does not hang on the package either. Assumes nothing.
use Rattle.std.specs.Prelude.{Option, Some, None, Err, Result}
use Rattle.refusal.specs.declared.Refusal.{Refusal}
use Rattle.cs_data_layout.specs.declared.layout.CsDataLayout.{CsDataLayout}
use mathlib.Core.Path.{◌≡◌, refl, ap, ◌∙◌}
use mathlib.Core.Bool.{cond}
use mathlib.Core.List.{List, ◌∷◌, ◌++◌}
use Prim.Native.Nat.{ℕ, zero, suc, ◌^◌}
use lib.Dec.{leb}
use lib.ListN.{get_or}
use Rattle.slot.specs.Description.{is_multi, chip0}
use Rattle.slot.specs.declared.description.Package.{Package}
use Rattle.slot.specs.declared.description.Description.{Description}
use Rattle.domain.specs.Domain.{slot_in}
use Rattle.refusal.specs.First.{or_else}
use Rattle.refusal.specs.declared.Refusal.TheVariants.{OutOfDomain}
use Rattle.listing.specs.Listing.{x_pins, twos, first_fault}
use Rattle.listing.specs.Lines.{pin_candidates}
use Rattle.listing.specs.declared.Listed.{Listed}
use Rattle.search.specs.Search.{best}
use Rattle.search.specs.declared.Found.{Found}
use Rattle.cs_pins.specs.Pins.{pin_listed, data_listed, if_active, active_listed, kind_listed, select_listed, commoned_listed, numbered}
use Rattle.cs_checked.specs.Checked.{or_no_active, ignored_listed, multi_checked, checked}
use Rattle.cs_roles.specs.Roles.{x_roles, if_active_kind, active_kinds, select_roles}
use Rattle.cs_verdict.specs.Verdict.{verdict_trial}
use Rattle.cs_choices.specs.Sets.{verdict_on}
use Rattle.cs_choices.specs.Nothing.{nothing_fits}
use Rattle.addr_layout.specs.declared.layout.AddrLayout.{AddrLayout}
use Rattle.cs_data_layout.specs.Layout.{handed}
use Rattle.cs_data_layout.specs.Choices.{fixed_of, with_candidates, ignored_at, ignored_set}
use Rattle.cs_data_layout.specs.Search.{missing_layout, rom_too_large, earlier, cs_best, or_no_layout, none_fits, cs_data_answer_of, after_earlier}
use Rattle.package_law.specs.Before.{cs_data_in_before, cs_data_before}
use Rattle.package_law.specs.Law.{on}

module _ (p : Package) (d : Description) where
  abbrev controls : ℕ
  controls = (chip0 d).control.count

  -- the pins that are numbered

  data-same : data_listed (on p d) ≡ data_listed d
  unfolding data_listed pin_listed pin_candidates
  data-same = refl

  kind_same : (kind : ℕ) → kind_listed (on p d) kind ≡ kind_listed d kind
  unfolding kind_listed pin_listed pin_candidates
  kind_same kind = refl

  active-same : (k : ℕ) → active_listed (on p d) k ≡ active_listed d k
  unfolding active_listed pin_listed pin_candidates
  active-same zero = refl
  active-same (suc k) = ap (λ (ls : List Listed). ls ++ if_active d k) (active-same k)

  select-same : select_listed (on p d) ≡ select_listed d
  unfolding select_listed
  select-same = λ i.
      cond (is_multi d.set_type)
      (kind_same d.multi.select i ∷ x_pins d.board (leb 2 d.num_chips) (leb 3 d.num_chips))
      (active-same controls i)

  commoned-same : commoned_listed (on p d) ≡ commoned_listed d
  unfolding commoned_listed kind_listed pin_listed pin_candidates
  commoned-same = refl

  numbered-same : numbered (on p d) ≡ numbered d
  unfolding numbered
  numbered-same = λ i. (data-same i ++ select-same i) ++ commoned-same i

  -- the tests before any choice

  multi-same : multi_checked (on p d) ≡ multi_checked d
  unfolding multi_checked ignored_listed kind_listed pin_listed pin_candidates
  multi-same = refl

  checked-same : checked (on p d) ≡ checked d
  unfolding checked
  checked-same = λ i. cond (is_multi d.set_type) (multi-same i) (or_no_active (active-same controls i))

  earlier-same : (a : Option AddrLayout) → earlier (on p d) a ≡ earlier d a
  unfolding earlier
  earlier-same a = λ i.
      or_else (missing_layout d a) (or_else (rom_too_large d (handed a)) (or_else (first_fault (data-same i)) (first_fault (checked-same i))))

  -- the choices

  ignored_at-same : (k : ℕ) → ignored_at (on p d) k ≡ ignored_at d k
  unfolding ignored_at
  ignored_at-same zero = refl
  ignored_at-same (suc k) = λ i. with_candidates (ignored_at-same k i) (kind_same (get_or d.multi.ignored k 0) i).gpios

  ignored-same : ignored_set (on p d) ≡ ignored_set d
  ignored-same = λ i. cond (is_multi d.set_type) (ignored_at-same d.multi.num_ignored i) 0

  kinds-same : (k : ℕ) → active_kinds (on p d) k ≡ active_kinds d k
  unfolding active_kinds
  kinds-same zero = refl
  kinds-same (suc k) = ap (λ (l : List ℕ). l ++ if_active_kind d k) (kinds-same k)

  roles_same : select_roles (on p d) ≡ select_roles d
  unfolding select_roles
  roles_same = λ i.
      cond (is_multi d.set_type) (d.multi.select ∷ x_roles (leb 2 d.num_chips) (leb 3 d.num_chips)) (kinds-same controls i)

  best-same : (h : AddrLayout) → cs_best (on p d) h ≡ cs_best d h
  unfolding cs_best
  best-same h = λ i. best (λ c. verdict_trial (verdict_on (numbered-same i) (fixed_of d h) c)) (2 ^ twos (numbered-same i))

  none-same : (h : AddrLayout) → none_fits (on p d) h ≡ none_fits d h
  unfolding none_fits
  none-same h = λ i.
      or_no_layout (nothing_fits (ignored-same i) (λ c. verdict_on (numbered-same i) (fixed_of d h) c) (2 ^ twos (numbered-same i)))

  found-same : (h : AddrLayout) (x : Option Found) → cs_data_answer_of (on p d) h x ≡ cs_data_answer_of d h x
  found-same h None = none-same h
  found-same h (Some f) = rw (numbered-same, roles_same)

  after_same : (h : AddrLayout) (f : Option Refusal) → after_earlier (on p d) h f ≡ after_earlier d h f
  after_same h (Some r) = refl
  after_same h None = ap (cs_data_answer_of (on p d) h) (best-same h) ∙ found-same h (cs_best d h)

  pub cs_data_same : (a : Option AddrLayout) → cs_data_before (on p d) a ≡ cs_data_before d a
  unfolding slot_in
  cs_data_same a =
      rw (numbered-same, earlier-same a)
      (ap (λ (x : Result CsDataLayout Refusal). cond (cs_data_in_before d a) x (Err OutOfDomain)) (after_same (handed a) (earlier d a)))
