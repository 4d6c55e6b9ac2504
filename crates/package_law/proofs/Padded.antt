-- The slot whose span is padded past GPIO 29, computed. Assumes nothing.
use mathlib.Core.Path.{refl}
use Rattle.lists.specs.Each.{each, tally}
use Rattle.lists.specs.Tab.{tab}
use Rattle.domain.specs.Domain.{socket_in, lines_in, chips_in, slot_in, no_candidate_above, package_in, description_in}
use Rattle.search.specs.Search.{best}
use Rattle.listing.specs.Listing.{twos, fault_from}
use Rattle.listing.specs.Choice.{rest_at, gpio_at}
use Rattle.addr_lines.specs.Lines.{line_socket, line_listed, addr_listed}
use Rattle.addr_lines.specs.Range.{reach}
use Rattle.select_span.specs.Selects.{fixed_span}
use Rattle.addr_choices.specs.Choices.{span_up_to, span_trial}
use Rattle.addr_layout.specs.Search.{addr_best}
use Rattle.addr_layout.specs.Layouts.{addr_layout_of}
use Rattle.package_law.specs.Padded.{last_three, PaddedLaw}

pub padded_law : PaddedLaw
unfolding each tally tab
    socket_in lines_in chips_in slot_in no_candidate_above package_in description_in
    best twos fault_from rest_at gpio_at
    line_socket line_listed addr_listed reach fixed_span span_up_to span_trial addr_best
padded_law = record { layout = addr_layout_of last_three (addr_listed last_three) 0; found = refl; base = refl; pins = refl }
