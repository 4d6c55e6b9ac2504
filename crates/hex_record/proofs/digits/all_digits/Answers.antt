-- `all_digits` meets its contract. The loop's invariant: ok says whether those passed are digits. Assumes nothing.
use Rattle.std.proofs.Common.{◌≡◌, ℕ, ◌+◌, ◌-◌, ◌<◌, ◌&&◌, Bool, List, get_or, arith}
use Rattle.lists.specs.Each.{each}
use Rattle.lists.proofs.Each.{each_none, each_turn}
use Rattle.hex_record.specs.Digits.{is_digit}
use Rattle.hex_record.proofs.digits.all_digits.Goals as goal

-- a character more, where the first is passed over
turn : (line : List ℕ) (k : ℕ) (ok t : Bool) → 0 < k → ok ≡ each (k - 1) (λ j. is_digit (get_or line (j + 1) 0)) → t ≡ is_digit (get_or line k 0)
    → ok && t ≡ each (k + 1 - 1) (λ j. is_digit (get_or line (j + 1) 0))
turn line k ok t l e f =
    let p : k + 1 - 1 ≡ k - 1 + 1 = omega arith in
    let q : k - 1 + 1 ≡ k = omega arith in
    let g : t ≡ is_digit (get_or line (k - 1 + 1) 0) = rw q f in
    rw (p, g) (each_turn (λ j. is_digit (get_or line (j + 1) 0)) (k - 1) ok e)

pub loop-k-init : goal.loop-k-init
loop-k-init c = (omega arith, each_none _)

pub loop-k-preserved : goal.loop-k-preserved
loop-k-preserved c = let v = c.loop-k in (omega arith, turn _ v.k v.ok _ (omega arith) v.invariant.1 c.is_digit-ok.ensures)
