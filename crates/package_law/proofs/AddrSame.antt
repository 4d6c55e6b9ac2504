-- What the address search answered before does not hang on the package: no definition by which it answered looks at it. Assumes nothing.
use Rattle.std.specs.Prelude.{Option, Some, None, Err, Result}
use Rattle.refusal.specs.declared.Refusal.{Refusal}
use Rattle.addr_layout.specs.declared.layout.AddrLayout.{AddrLayout}
use mathlib.Core.Path.{◌≡◌, refl, ap, ◌∙◌}
use mathlib.Core.Bool.{not, cond}
use mathlib.Core.List.{List, ◌++◌}
use Prim.Native.Nat.{ℕ, zero, suc, ◌^◌}
use lib.Dec.{leb}
use lib.ListN.{get_or}
use Rattle.lists.proofs.Tab.{tab_cong}
use Rattle.gpio.specs.declared.span.Span.{Span}
use Rattle.gpio.specs.Span.{empty}
use Rattle.slot.specs.Description.{is_single, is_multi}
use Rattle.slot.specs.declared.description.Package.{Package}
use Rattle.slot.specs.declared.description.Description.{Description}
use Rattle.domain.specs.Domain.{slot_in}
use Rattle.refusal.specs.declared.Refusal.TheVariants.{OutOfDomain}
use Rattle.listing.specs.Listing.{x_pins, twos, first_fault}
use Rattle.listing.specs.Lines.{pin_candidates}
use Rattle.listing.specs.declared.Listed.{Listed}
use Rattle.search.specs.Search.{best}
use Rattle.search.specs.declared.Found.{Found}
use Rattle.addr_lines.specs.Range.{reach, in_range}
use Rattle.addr_lines.specs.Lines.{lines, line_socket, at_socket, line_listed, addr_listed}
use Rattle.select_span.specs.Selects.{widened_first, kind_candidates, select_span, fixed_span}
use Rattle.addr_choices.specs.Choices.{choice_span, span_trial}
use Rattle.addr_choices.specs.declared.Spanning.{Spanning}
use Rattle.addr_layout.specs.Search.{addr_best, addr_answer_of, after_faults}
use Rattle.package_law.specs.Before.{addr_in_before, addr_before}
use Rattle.package_law.specs.Law.{on}

module _ (p : Package) (d : Description) where
  at_same : (n : ℕ) (s : Option ℕ) → at_socket (on p d) n s ≡ at_socket d n s
  unfolding line_socket
  at_same n (Some s) = refl
  at_same n None = refl

  line_same : (n : ℕ) → line_listed (on p d) n ≡ line_listed d n
  unfolding line_listed line_socket
  line_same n = at_same n (line_socket d n)

  listed_same : addr_listed (on p d) ≡ addr_listed d
  unfolding addr_listed
  listed_same =
      ap (λ (ls : List Listed). ls ++ x_pins d.board (not (is_single d.set_type)) (leb 3 d.num_chips))
      (tab_cong (line_listed (on p d)) (line_listed d) (lines d) (λ n l. line_same n))

  select_span-same : (k : ℕ) → select_span (on p d) k ≡ select_span d k
  unfolding select_span pin_candidates
  select_span-same zero = refl
  select_span-same (suc k) = ap (λ (s : Span). widened_first s (kind_candidates d (get_or d.multi.commoned k 0))) (select_span-same k)

  span_same : fixed_span (on p d) ≡ fixed_span d
  unfolding fixed_span
  span_same = ap (λ (s : Span). cond (is_multi d.set_type) s empty) (select_span-same d.multi.num_commoned)

  abbrev spanning : Span → Spanning
  spanning s = record { in_range = in_range d; lines = lines d; fixed = s }

  best-same : addr_best (on p d) ≡ addr_best d
  unfolding addr_best reach
  best-same = λ i. best (λ c. span_trial (choice_span (listed_same i) (spanning (span_same i)) c)) (2 ^ twos (listed_same i))

  found-same : (x : Option Found) → addr_answer_of (on p d) x ≡ addr_answer_of d x
  unfolding reach
  found-same None = refl
  found-same (Some f) = rw (listed_same, span_same)

  faults_same : (f : Option Refusal) → after_faults (on p d) f ≡ after_faults d f
  faults_same (Some r) = refl
  faults_same None = ap (addr_answer_of (on p d)) best-same ∙ found-same (addr_best d)

  pub addr_same : addr_before (on p d) ≡ addr_before d
  unfolding slot_in
  addr_same =
      rw listed_same
      (ap (λ (x : Result AddrLayout Refusal). cond (addr_in_before d) x (Err OutOfDomain)) (faults_same (first_fault (addr_listed d))))
