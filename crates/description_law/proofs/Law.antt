-- The law of the description record. Assumes nothing.
use Rattle.description_law.specs.Law.{RecordLaw}
use Rattle.description_law.proofs.Encodes.{in_domain_decodes}
use Rattle.description_law.proofs.Valued.{described-valued}

pub record_law : RecordLaw
record_law = record { valued = described-valued; decodes = in_domain_decodes }
