-- `earlier` meets its contract. Assumes nothing.
use Rattle.domain.proofs.Bounds.{chip0_in, config_in}
use Rattle.cs_data_layout.specs.Search.{earlier}
use Rattle.cs_data_layout.proofs.Bounds.{described}
use Rattle.cs_data_layout.proofs.earlier.earlier.Goals as goal

pub pins_fault-requires : goal.pins_fault-requires
pins_fault-requires c =
    let d = c.args.d in
    let e = described d c.requires.0 in
    let n = c.requires.1 in
    record {
      data-pins = (chip0_in d e).data-pins.1;
      multi-lines = λ m. record { commoned = (config_in d e m).commoned-lines; ignored = (config_in d e m).ignored-lines };
      few = n.few;
      pins = n.list c.requires.0;
    }

pub returns : goal.returns
unfolding earlier
returns c =
    rw (
      c.or-2.ensures,
      c.or.ensures,
      c.pins_fault.ensures,
      c.too_large.ensures,
      c.handed.ensures,
      c.missing_layout.ensures,
    )
