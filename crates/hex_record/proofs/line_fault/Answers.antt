-- `line_fault` meets its contract: a case a fault, in their order. Assumes nothing.
use Rattle.std.proofs.Common.{◌≡◌, ◌+◌, ◌%◌, true, sym, ap, ◌∙◌}
use Rattle.std.specs.Cmp.Lexicographic.{bytes_decides}
use Rattle.refusal.specs.First.{fault_if}
use Rattle.refusal.specs.declared.Refusal.TheVariants.{PastChip}
use Rattle.lists.specs.Each.{total}
use Rattle.hex_record.specs.Record.{record_byte, sum_of, shaped}
use Rattle.hex_record.proofs.Shapes.{shape_of, bytes-there, end-sound, shape-fault, sum-fault, last-fault, past_by}
use Rattle.hex_record.proofs.line_fault.Goals.{Else-not-shaped}
use Rattle.hex_record.proofs.line_fault.Goals as goal

-- behind the test of the shape, and behind the sum
shape : (c : Else-not-shaped) → shaped c.args.line.now ≡ true
shape c = sym c.shaped.ensures ∙ c.if-not-shaped.false

pub returns-then-eq : goal.returns-then-eq
returns-then-eq c = end-sound _ _ _ ((bytes_decides _ _).0 (sym c.eq.ensures ∙ c.if-eq.true))

pub returns-then-not-shaped : goal.returns-then-not-shaped
returns-then-not-shaped c = shape-fault _ _ _ (sym c.shaped.ensures ∙ c.if-not-shaped.true)

pub sum-requires : goal.sum-requires
sum-requires c = rw c.count-n.ensures.value (bytes-there _ (shape_of _ (shape c)))

pub returns-then-sum-ne0 : goal.returns-then-sum-ne0
returns-then-sum-ne0 c = sum-fault _ _ _ _ (let h : shaped c.args.line.now ≡ true = sym c.shaped.ensures ∙ c.if-not-shaped.false in h) (let h : c.sum.result ≡ sum_of c.args.line.now = let line = c.args.line.now in c.sum.ensures ∙ ap (λ n. total (n + 5) (record_byte line) % 256) c.count-n.ensures.value in h) c.if-sum-ne0.true

pub returns : goal.returns
returns c =
    c.then_some.ensures
    ∙ ap (λ t. fault_if t PastChip)
    (c.past_chip-past.ensures ∙ past_by _ _ _ _ _ _ c.record_byte-kind.ensures.value c.count-n.ensures.value c.offset-at.ensures.value)
    ∙ last-fault _ _ _ _ (let h : shaped c.args.line.now ≡ true = sym c.shaped.ensures ∙ c.if-not-shaped.false in h) (let h : c.sum.result ≡ sum_of c.args.line.now = let line = c.args.line.now in c.sum.ensures ∙ ap (λ n. total (n + 5) (record_byte line) % 256) c.count-n.ensures.value in h) c.if-sum-ne0.false
