-- `build_fault` meets its contract. Assumes nothing.
use native.Mathlib.Omega.{arith}
use Rattle.domain.proofs.Bounds.{DescriptionIn, description_in_lem}
use Rattle.build_args.specs.Faults.{build_fault}
use Rattle.build_args.proofs.Facts.{described, selected, data-base}
use Rattle.build_faults.proofs.build_fault.Goals as goal

pub too_large-requires : goal.too_large-requires
too_large-requires c =
    let h = (let h : DescriptionIn c.args.b.description = description_in_lem c.args.b.description (described c.args.b c.requires) in h) in
    record { image_size = h.image_size.1; some_bytes = h.word_bytes.0; bytes = h.word_bytes.1 }

pub returns-then-too_large : goal.returns-then-too_large
unfolding build_fault
returns-then-too_large c = rw (← c.too_large.ensures.value, c.if-too_large.true)

pub lines_fault-requires : goal.lines_fault-requires
lines_fault-requires c =
    omega (arith, data-base c.args.b.cs_data (selected c.args.b c.requires))

pub lent_fault-requires : goal.lent_fault-requires
lent_fault-requires c =
    record { pins = c.too_large.ensures.num_addr_pins_bound c.if-too_large.false; bytes = (let h : DescriptionIn c.args.b.description = description_in_lem c.args.b.description (described c.args.b c.requires) in h).word_bytes.1 }

pub returns : goal.returns
unfolding build_fault
returns c =
    rw (← c.too_large.ensures.value, c.if-too_large.false, c.or.ensures, c.lines_fault.ensures, c.lent_fault.ensures)
