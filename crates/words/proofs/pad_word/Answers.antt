-- `pad_word` meets its contract. The loop's invariant: the pad word of k bytes. Assumes nothing.
use mathlib.Core.Path.{◌≡◌, refl}
use Prim.Native.Nat.{ℕ, ◌+◌, ◌*◌, ◌^◌, ◌<◌}
use native.Mathlib.Numerals.{add-one}
use native.Mathlib.Omega.{arith}
use Rattle.words.specs.Words.{pad_word}
use Rattle.words.proofs.Words.{pad_lt, word-short}
use Rattle.lists.proofs.Clauses.{with_bound}
use Rattle.words.proofs.pad_word.Goals.{In-loop-k}
use Rattle.words.proofs.pad_word.Goals as goal

begin : (pad : ℕ) → 0 ≡ pad_word 0 pad
unfolding pad_word
begin pad = refl

turn : (pad byte k v : ℕ) → byte ≡ pad → v ≡ pad_word k pad → byte + 256 * v ≡ pad_word (k + 1) pad
unfolding pad_word
turn pad byte k v e h = rw (e, h, add-one)

done : (pad k w v : ℕ) → pad < 256 → k ≡ w → v ≡ pad_word k pad → (v ≡ pad_word w pad) × (v < 2 ^ (8 * w))
done pad k w v p e h = rw (h, e) (refl, pad_lt w pad p)

room : (c : In-loop-k) → c.loop-k.whole < 2 ^ 16
room c =
    let v = c.loop-k in
    word-short v.k v.whole (omega arith) (rw v.invariant (pad_lt v.k c.args.pad (omega arith)))

pub loop-k-init : goal.loop-k-init
loop-k-init c = begin _

pub overflow_mul-whole : goal.overflow_mul-whole
overflow_mul-whole c = omega (arith, room c)

pub overflow_add-whole : goal.overflow_add-whole
overflow_add-whole c = omega (arith, room c)

pub loop-k-preserved : goal.loop-k-preserved
loop-k-preserved c = turn _ _ _ _ c.wide-byte.ensures.0 c.loop-k.invariant

pub returns : goal.returns
returns c = with_bound (done _ _ _ _ (omega arith) (omega arith) c.loop-k.invariant)
