-- Each premise holds just where its test passes. Assumes nothing.
use Rattle.premises.specs.Law.{PremiseLaw}
use Rattle.premises.proofs.Wired.{wired_is}
use Rattle.premises.proofs.Converse.{wired_if}
use Rattle.premises.proofs.HasRoom.{room_is, room_if}
use Rattle.premises.proofs.Unforced.{unforced_is, unforced_if}
use Rattle.premises.proofs.StoredWell.{stored_is, stored_if}

pub premise_law : PremiseLaw
premise_law = record {
  wired_is = wired_is;
  wired_if = wired_if;
  stored_is = stored_is;
  stored_if = stored_if;
  unforced_is = unforced_is;
  unforced_if = unforced_if;
  room_is = room_is;
  room_if = room_if;
}
