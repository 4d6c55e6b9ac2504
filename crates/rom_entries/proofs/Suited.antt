-- One value that picks a place, and what is tested of a ROM. Assumes nothing.
use mathlib.Core.Path.{◌≡◌, refl, sym, ◌∙◌, ap}
use mathlib.Core.Bool.{Bool, true, false, not, ◌&&◌, ◌||◌}
use mathlib.Core.Logic.{◌⊎◌, inl, inr}
use mathlib.Core.List.{List}
use Prim.Native.Nat.{ℕ, zero, suc, ◌+◌, ◌^◌, ◌≤◌, ◌<◌}
use native.Mathlib.Nat.{le_of_suc-le-suc, eq-or-lt_of_le}
use native.Mathlib.Numerals.{add-one}
use native.Mathlib.Omega.{arith}
use lib.Dec.{ltb, leb, eqb}
use lib.ListN.{get_or}
use borrow.Author.Tests.{ltb-true, ltb-false, leb-true, eqb-true, eqb-false, eq-eqb}
use Rattle.lists.proofs.Bools.{both, asked}
use Rattle.lists.proofs.Loops.{zero_one}
use Rattle.index_order.specs.Design.Order.{Fits, at}
use Rattle.entry_words.specs.declared.Map.{Map}
use Rattle.entry_words.specs.declared.Extent.{Extent}
use Rattle.rom_entries.specs.Design.Suits.{Only, Suits}

-- of the values passed no other picks it
pub record Passed (roms : List ℕ) (n k b j : ℕ) : Type 0 where
  pub picked : get_or roms b 0 ≡ k
  pub below : b < n
  pub one : (i : ℕ) → i < j → get_or roms i 0 ≡ k → i ≡ b

module _ (roms : List ℕ) (n k b : ℕ) where
  pub passed_none : (x : ℕ) → x ≡ get_or roms b 0 → eqb x k && ltb b n ≡ true → Passed roms n k b 0
  passed_none x e t =
      let (first, last) = both (eqb x k) (ltb b n) t in
      record { picked = sym e ∙ eqb-true x k first; below = ltb-true b n last; one = λ i l. absurd (omega arith) }

  pub passed_turn : (j x : ℕ) (ok : Bool) → (ok ≡ true → Passed roms n k b j) → x ≡ get_or roms j 0 → ok && (not (eqb x k) || eqb j b) ≡ true → Passed roms n k b (j + 1)
  passed_turn j x ok h e t =
      let (before, here) = both ok (not (eqb x k) || eqb j b) t in
      let p = h before in
      record {
        picked = p.picked;
        below = p.below;
        one = λ i l z. elim (eq-or-lt_of_le (le_of_suc-le-suc (rw add-one at l))) [
          | inl s ↦ s ∙ eqb-true j b (asked (eqb x k) (eqb j b) here (eq-eqb x k (e ∙ ap (λ (y : ℕ). get_or roms y 0) (sym s) ∙ z)))
          | inr s ↦ p.one i s z
        ];
      }

  pub passed_done : (j : ℕ) → n ≤ j → Passed roms n k b j → Only roms n k b
  passed_done j l p = record { picked = p.picked; below = p.below; one = λ i h. p.one i (omega arith) }

pub suits_told : (map picks order : Map) (extent : Extent) (roms : List ℕ) (k b m forced high pins n most : ℕ) (f o : Bool) → order.lines ≤ 31
    → (f ≡ true → Fits order.lines (at order) forced high pins) → (o ≡ true → Only roms n k b) → n ≡ 2 ^ picks.lines → most ≡ 2 ^ map.lines
    → f && o && eqb extent.start m && leb extent.words most ≡ true → Suits map picks order extent roms k b m forced high pins
suits_told map picks order extent roms k b m forced high pins n most f o few hf ho en em t =
    let (t₁, words) = both (f && o && eqb extent.start m) (leb extent.words most) t in
    let (t₂, start) = both (f && o) (eqb extent.start m) t₁ in
    let (fit, one) = both f o t₂ in
    record {
      lines = few;
      fits = hf fit;
      only = rw en at (ho one);
      start = eqb-true extent.start m start;
      words = rw em at (leb-true extent.words most words);
    }

-- what is tested of a table: its bits are few, and its words have bytes
either : (a b : Bool) → a || b ≡ false → (a ≡ false) × (b ≡ false)
either true b e = absurd (zero_one cc)
either false b e = (refl, e)

pub tested : (x w : ℕ) → ltb 31 x || eqb w 0 ≡ false → (x ≤ 31) × (w ≡ 0 → ⊥)
tested x w e = let (few, some) = either (ltb 31 x) (eqb w 0) e in (ltb-false 31 x few, eqb-false w 0 some)

pub width_of : (w : ℕ) → w ≤ 2 → (w ≡ 0 → ⊥) → (w ≡ 1) ⊎ (w ≡ 2)
width_of zero l d = absurd (d refl)
width_of (suc zero) l d = inl refl
width_of (suc (suc zero)) l d = inr refl
width_of (suc (suc (suc w))) l d = absurd (omega arith)
