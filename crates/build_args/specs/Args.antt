-- What a build is asked for, the chips' bytes aside, as one record. Assumes nothing.
use Rattle.std.specs.Prelude.{List}
use Rattle.slot.specs.declared.description.Description.{Description}
use Rattle.addr_layout.specs.declared.layout.AddrLayout.{AddrLayout}
use Rattle.cs_data_layout.specs.declared.layout.CsDataLayout.{CsDataLayout}
use Rattle.build_args.specs.declared.images.ImageSpan.{ImageSpan}
use Rattle.build_args.specs.declared.BuildArgs.{BuildArgs}

abbrev pub args_of : Description → AddrLayout → CsDataLayout → List ImageSpan → BuildArgs
args_of d a c spans = record { description = d; addr = a; cs_data = c; spans = spans }
