use Rattle.std.proofs.Common.{arith}
use Rattle.script_nodes.proofs.Ramps.{RampFacts, ramp_facts, weight_before, weight_behind, weight_between, mixed}
use Rattle.script_nodes.proofs.nodes.Ramp.weight.Goals as goal

pub returns-then-frame-self-clause-value : goal.returns-then-frame-self-clause-value
returns-then-frame-self-clause-value c = weight_before c.args.self.now c.args.frame c.if-frame-self.true

pub returns-then-passed-self-clause-value : goal.returns-then-passed-self-clause-value
returns-then-passed-self-clause-value c = weight_behind c.args.self.now c.args.frame c.if-frame-self.false c.if-passed-self.true

pub overflow_cast-result-2 : goal.overflow_cast-result-2
overflow_cast-result-2 c =
    let facts : RampFacts c.args.self.now = ramp_facts c.args.self.now c.requires in
    record { fits = omega (arith, mixed c.args.self.now.start c.args.self.now.end c.args.self.now.count _ facts.start facts.end c.if-passed-self.false) }

pub returns-clause-value : goal.returns-clause-value
returns-clause-value c = weight_between c.args.self.now c.args.frame c.if-frame-self.false c.if-passed-self.false

pub returns-clause-small : goal.returns-clause-small
returns-clause-small c =
    let facts : RampFacts c.args.self.now = ramp_facts c.args.self.now c.requires in
    mixed c.args.self.now.start c.args.self.now.end c.args.self.now.count _ facts.start facts.end c.if-passed-self.false
