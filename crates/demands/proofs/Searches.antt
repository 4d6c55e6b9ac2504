-- Demand 2 of both searches. Assumes nothing.
use Rattle.demands.specs.Searches.{SecondDemand}
use Rattle.demands.proofs.AddressSearch.{address_demand}
use Rattle.demands.proofs.SelectSearch.{select_demand}

pub second_demand : SecondDemand
second_demand = record { address = address_demand; select = select_demand }
