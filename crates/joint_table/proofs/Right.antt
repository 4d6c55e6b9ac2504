-- Each case of the joint table is answered as document 01 says: one statement, which antt computes. Assumes nothing.
use mathlib.Core.Path.{◌≡◌}
use mathlib.Core.List.{map}
use lib.Count.{count_leading_zeros, count_trailing_zeros}
use Rattle.lists.specs.Each.{each, tally}
use Rattle.lists.specs.Tab.{tab, joined}
use Rattle.gpio.specs.Set.{set_of}
use Rattle.slot.specs.SlotContext.{known_pairs, offset_from}
use Rattle.domain.specs.Domain.{socket_in, line_in, lines_in, chips_in, slot_in, package_in, description_in}
use Rattle.search.specs.Search.{best}
use Rattle.listing.specs.Listing.{twos, fault_from}
use Rattle.listing.specs.Choice.{rest_at, gpio_at}
use Rattle.listing.specs.Lines.{pin_candidates}
use Rattle.addr_lines.specs.Lines.{line_socket, line_listed, addr_listed}
use Rattle.addr_layout.specs.Layout.{layout_in}
use Rattle.addr_lines.specs.Range.{reach}
use Rattle.select_span.specs.Selects.{fixed_span}
use Rattle.addr_choices.specs.Choices.{span_up_to, span_trial}
use Rattle.addr_layout.specs.Search.{addr_best}
use Rattle.cs_pins.specs.Pins.{pin_listed, data_listed, active_listed, select_listed, commoned_listed, numbered, cs_search_in}
use Rattle.cs_checked.specs.Checked.{or_no_active, checked}
use Rattle.cs_verdict.specs.Verdict.{verdict_of}
use Rattle.cs_choices.specs.Nothing.{interior, last_refused}
use Rattle.cs_data_layout.specs.Search.{earlier, cs_best, none_fits}
use Rattle.bits.specs.Bits.{gather, scatter}
use Rattle.words.specs.Words.{word_from, chip_word_from, bytes_of, pad_word}
use Rattle.build_args.specs.Images.{chip_bytes}
use Rattle.build_args.specs.Domain as SlotDomain
use Rattle.refusal.specs.First.{first_of}
use Rattle.build_args.specs.Faults as Faults
use Rattle.rom_image.specs.Entry.{chip_address, chip_picked, scrambled, entry_at, table_of}
use Rattle.rom_image.specs.Build.{build_of}
use Rattle.joint_table.specs.Cases.{cases}
use Rattle.joint_table.proofs.Count.{counted}

pub right : map (λ c. c.answered) cases ≡ map (λ c. c.told) cases
unfolding cases
    each tally tab joined set_of count_leading_zeros count_trailing_zeros
    known_pairs offset_from
    socket_in line_in lines_in chips_in slot_in package_in description_in
    best twos fault_from rest_at gpio_at pin_candidates
    line_socket line_listed addr_listed layout_in reach fixed_span span_up_to span_trial addr_best
    pin_listed data_listed active_listed select_listed commoned_listed numbered cs_search_in or_no_active checked
    verdict_of interior last_refused earlier cs_best none_fits
    gather scatter word_from chip_word_from bytes_of pad_word chip_bytes
    SlotDomain.select_lines_in SlotDomain.cs_data_in SlotDomain.build_in
    first_of Faults.address_in Faults.picks_in Faults.data_positions_in Faults.build_fault
    chip_address chip_picked scrambled entry_at table_of build_of
right = simp counted
