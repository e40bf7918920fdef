use Rattle.std.proofs.Common.{rules}
use Rattle.wokureti_c.proofs.exports.hold.Goals as goal

pub returns-clause-held : goal.returns-clause-held
returns-clause-held c held = (_, c.put.ensures, first_of (search rules, cc), first_of (search rules, cc))
