use Rattle.packet_times.proofs.Examples.{joined, slow}
use Rattle.packet_times.proofs.laws.worked_heads.Goals as goal

pub returns-clause-joined : goal.returns-clause-joined
returns-clause-joined c = joined

pub returns-clause-slow : goal.returns-clause-slow
returns-clause-slow c = slow
