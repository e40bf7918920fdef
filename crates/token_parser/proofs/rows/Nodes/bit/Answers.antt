use Rattle.std.proofs.Common.{arith}
use Rattle.std.proofs.lemmas.List.{get_or-map}
use Rattle.bool_coder.specs.Odds.{prob_in}
use Rattle.token_parser.proofs.rows.Nodes.bit.Goals as goal

pub bit_by-requires : goal.bit_by-requires
bit_by-requires c =
    c.self.invariant.1 c.args.node (record { zero = 0; one = 0 }) (omega (arith, c.self.invariant.0, c.requires))

pub returns : goal.returns
returns c =
    rw (← c.self.view_is, get_or-map prob_in c.self.inside.odds.now c.args.node (record { zero = 0; one = 0 }) 0 (omega (arith, c.self.invariant.0, c.requires))) c.bit_by.ensures
