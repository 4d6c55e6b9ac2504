-- `derive_addr_layout` meets its contract. Assumes nothing.
use Rattle.std.specs.Prelude.{Option, Some, None, Result, Err}
use mathlib.Core.Path.{◌≡◌, refl, sym, ◌∙◌}
use mathlib.Core.Bool.{true}
use mathlib.Core.List.{List}
use Prim.Native.Nat.{ℕ, ◌≤◌, ◌<◌}
use native.Mathlib.Omega.{arith}
use borrow.Author.Tests.{le-leb, lt-leb}
use Rattle.slot.specs.declared.description.Description.{Description}
use Rattle.refusal.specs.declared.Refusal.{Refusal}
use Rattle.refusal.specs.declared.Refusal.TheVariants.{OutOfDomain}
use Rattle.domain.specs.Domain.{description_in}
use Rattle.domain.proofs.Bounds.{chip0_in}
use Rattle.listing.specs.Listing.{twos, first_fault}
use Rattle.listing.specs.declared.Listed.{Listed}
use Rattle.addr_lines.specs.Lines.{lines, addr_listed}
use Rattle.addr_layout.specs.Search.{addr_best, addr_answer_of, after_faults, addr_answer}
use Rattle.addr_layout.specs.declared.layout.AddrLayout.{AddrLayout}
use Rattle.addr_layout.proofs.derive_addr_layout.Goals as goal

few-lines : (d : Description) → description_in d ≡ true → lines d ≤ 24
few-lines d e = omega (arith, (chip0_in d e).address-pins)

module _ (d : Description) (ls : List Listed) (bits : ℕ) (din : description_in d ≡ true) (el : ls ≡ addr_listed d) (eb : bits ≡ twos ls) where
  too_many : 16 < bits → Err OutOfDomain ≡ addr_answer d
  too_many h = rw (din, ← el, ← eb, lt-leb bits 16 h)

  past-domain : bits ≤ 16 → after_faults d (first_fault ls) ≡ addr_answer d
  past-domain h = rw (din, ← el, ← eb, le-leb bits 16 h)

  faulty : (f : Option Refusal) (why : Refusal) → bits ≤ 16 → f ≡ first_fault ls → f ≡ Some why → Err why ≡ addr_answer d
  faulty f why h e i = (rw (← e, i) refl) ∙ past-domain h

  searched : (f : Option Refusal) (r : Result AddrLayout Refusal) → bits ≤ 16 → f ≡ first_fault ls → f ≡ None → r ≡ addr_answer_of d (addr_best d) → r ≡ addr_answer d
  searched f r h e i j = j ∙ (rw (← e, i)) ∙ past-domain h

pub list-l-requires : goal.list-l-requires
list-l-requires c = few-lines c.args.d (sym c.description_in.ensures ∙ c.if-not-description_in.false)

pub search-requires : goal.search-requires
search-requires c =
    let list = c.list-l.ensures in
    record {
      pins = omega (arith, list.1);
      address-lines = few-lines c.args.d (sym c.description_in.ensures ∙ c.if-not-description_in.false);
      listed = list.0;
      counted = c.choice_bits-bits.ensures.value;
      few_bits = c.if-bits-gt16.false;
    }
