-- `first_fault` meets its contract. The loop's invariant: the pins passed have no fault. Assumes nothing.
use Rattle.std.specs.Prelude.{Some, None}
use mathlib.Core.Path.{◌≡◌, refl, sym, ◌∙◌, ap}
use mathlib.Core.Bool.{Bool, true, false, cond}
use mathlib.Core.List.{List, map}
use Prim.Native.Nat.{ℕ, ◌+◌, ◌<◌}
use native.Mathlib.Omega.{arith}
use lib.Dec.{eqb}
use lib.ListN.{length, take, get_or}
use borrow.Author.Rules.{rules}
use borrow.Author.Tests.{eq-eqb, ne_eqb}
use Rattle.gpio.specs.declared.candidates.Candidates.{Candidates}
use Rattle.gpio.specs.declared.candidates.Candidates.TheVariants.{Absent, One, Two}
use Rattle.refusal.specs.declared.Refusal.{Refusal}
use Rattle.lists.proofs.Lists.{mapped_length}
use Rattle.listing.specs.declared.Listed.{Listed}
use Rattle.listing.specs.Listing.{fault_from, fault_of, first_fault}
use Rattle.listing.specs.Design.Packed.{blank, listed_by}
use Rattle.listing.specs.declared.packed.Packed.{Packed}
use Rattle.listing.proofs.Pushed.{taken}
use Rattle.listing.proofs.Faults.{fault_snoc, found_further}
use Rattle.listing.proofs.first_fault.Goals as goal

one_or_two : (g h : ℕ) (r : Refusal) (t : Bool) → fault_of (cond t (One g) (Two g h)) r ≡ None
one_or_two g h r true = refl
one_or_two g h r false = refl

module _ (ps : List Packed) (k : ℕ) (h : k < length ps) (i : first_fault (take k (map listed_by ps)) ≡ None) where
  passed : eqb (get_or ps k blank).candidates 0 ≡ false → first_fault (take (k + 1) (map listed_by ps)) ≡ None
  passed e =
      let p = get_or ps k blank in
      rw (taken ps k (listed_by p) h refl, fault_snoc, i, e) (one_or_two p.first p.second (listed_by p).fault (eqb p.candidates 1))

  found : (n : ℕ) (x : Listed) → k < n → x ≡ listed_by (get_or ps k blank) → eqb (get_or ps k blank).candidates 0 ≡ true
      → Some x.fault ≡ first_fault (take n (map listed_by ps))
  found n x l e t =
      let absent : (listed_by (get_or ps k blank)).gpios ≡ Absent = rw t in
      let gone : x.gpios ≡ Absent = ap (λ (y : Listed). y.gpios) e ∙ absent in
      let here : first_fault (take (k + 1) (map listed_by ps)) ≡ Some x.fault = rw (taken ps k x h e, fault_snoc, i) (ap (λ (g : Candidates). fault_of g x.fault) gone) in
      sym (found_further (map listed_by ps) None (k + 1) n x.fault (omega arith) here)

pub loop-k-init : goal.loop-k-init
unfolding fault_from
loop-k-init c = (omega arith, omega arith, search (mapped_length, rules), refl)

pub returns-then-pin-eq0 : goal.returns-then-pin-eq0
returns-then-pin-eq0 c =
    let v = c.loop-k in
    let l = c.args.l in
    found l.pins v.k (omega arith) v.invariant.3 l.count _ (omega arith) c.listed-listed.ensures (eq-eqb _ _ c.if-pin-eq0.true)

pub loop-k-preserved : goal.loop-k-preserved
loop-k-preserved c =
    let v = c.loop-k in
    let l = c.args.l in
    (omega arith, omega arith, v.invariant.2, passed l.pins v.k (omega arith) v.invariant.3 (ne_eqb _ _ c.if-pin-eq0.false))
