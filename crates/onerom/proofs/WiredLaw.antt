-- The wiring's call returns 0 just where the slot is well wired and its board keeps to its package. Assumes nothing.
use Rattle.std.specs.Prelude.{Result, Ok, Err}
use mathlib.Core.Path.{◌≡◌, refl}
use mathlib.Core.Bool.{Bool, true, false, cond}
use mathlib.Core.List.{List}
use Prim.Native.Nat.{ℕ}
use Rattle.lists.proofs.Loops.{zero_one}
use Rattle.slot.specs.declared.description.Description.{Description}
use Rattle.domain.specs.Domain.{package_in}
use Rattle.refusal.specs.declared.Refusal.{Refusal}
use Rattle.refusal.specs.declared.Refusal.TheVariants.{OutOfDomain}
use Rattle.description_record.specs.Record.{decoded_of}
use Rattle.addr_record.specs.AddrRecord.{layout_at, layout_formed}
use Rattle.premises.specs.WellWired.{WellWired}
use Rattle.premises.specs.Wired.{wired}
use Rattle.premises.proofs.Law.{premise_law}
use Rattle.calls.specs.Packed.{packed}
use Rattle.calls.specs.Calls.{if_described}
use Rattle.calls.proofs.Law.{done_alone}
use Rattle.onerom.specs.Wired.{wired_as, wired_from, wired_call, InPackage, WiredLaw}

-- no refusal's result is 0
refused-not : (why : Refusal) → packed why ≡ 0 → ⊥
refused-not why e = let q : Err why ≡ (Ok tt) = done_alone (Err why) e in zero_one cc

passed : (t : Bool) → ◌≡◌ {A = ℕ} (cond t 0 1) 0 → t ≡ true
passed true e = refl
passed false e = absurd (zero_one cc)

module _ (description layout : List ℕ) where
  abbrev d : Description
  d = (decoded_of description).description

  abbrev of_answer : Result (Unit {0}) Refusal → ℕ
  of_answer x = if_described (λ d. wired_from d layout) (λ why. packed why) x d

  kept_is : (t : Bool) → package_in d.«package» d.board ≡ t → cond t (wired_as d layout) (packed OutOfDomain) ≡ 0
      → InPackage d × WellWired d (layout_at layout)
  kept_is true q e = (q, premise_law.wired_is d (layout_at layout) (passed (wired d (layout_at layout)) e))
  kept_is false q e = absurd (refused-not OutOfDomain e)

  described_is : (x : Result (Unit {0}) Refusal) → of_answer x ≡ 0 → (x ≡ Ok tt) × InPackage d × WellWired d (layout_at layout)
  described_is (Ok tt) e = let (kept, well) = kept_is (package_in d.«package» d.board) refl e in (refl, kept, well)
  described_is (Err why) e = absurd (refused-not why e)

  formed_is : (t : Bool) → layout_formed layout ≡ t → cond t (of_answer (decoded_of description).answer) (packed OutOfDomain) ≡ 0
      → ((decoded_of description).answer ≡ Ok tt) × (t ≡ true) × InPackage d × WellWired d (layout_at layout)
  formed_is true q e = let (done, kept, well) = described_is (decoded_of description).answer e in (done, refl, kept, well)
  formed_is false q e = absurd (refused-not OutOfDomain e)

  pub wired_law : WiredLaw description layout
  unfolding wired_call
  wired_law = record {
    zero_is = λ e. formed_is (layout_formed layout) refl e;
    zero_if = λ done formed kept well. rw (formed, done, kept, premise_law.wired_if d (layout_at layout) well);
  }
