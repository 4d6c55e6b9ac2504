-- The first k bytes of the text are in place. Assumes nothing.
use Rattle.std.proofs.Common.{length, ◌-◌, ◌≡◌, ◌++◌, ◌+◌, ◌≤◌, take}
use Rattle.say.proofs.put.Given as goal

abbrev pub invariant-loop-k : goal.invariant-loop-k
invariant-loop-k l = (length l.line ≡ length l.fn.line) × (take (l.at + l.k) l.line ≡ take l.at l.fn.line ++ take l.k l.text)
