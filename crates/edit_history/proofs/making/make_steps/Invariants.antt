use Rattle.std.proofs.Common.{◌≡◌, ◌+◌, ◌-◌, ◌≤◌, ◌++◌, List, drop, length, take}
use Rattle.std.specs.Vec.{vec_capacity, vec_len}
use Rattle.edit_history.specs.declared.step.Step.{Step}
use Rattle.edit_history.specs.Steps.{AreReady, all_made, content_of, last_first, ways_made}
use Rattle.edit_history.proofs.making.make_steps.Given as goal

abbrev pub invariant-steps : goal.invariant-steps
invariant-steps l = record {
  left : List Step;
  many : l._made + length left ≡ l.count;
  from : l.from.items ≡ take (vec_len l.fn.from - l.count) l.fn.from.items ++ last_first left;
  room : vec_len l.to + length left ≤ vec_capacity l.to;
  ready : AreReady left (content_of l.stores l.script l.current);
  ends : all_made left (content_of l.stores l.script l.current) ≡ all_made (last_first (drop (vec_len l.fn.from - l.count) l.fn.from.items)) (content_of l.fn.stores l.fn.script l.fn.current);
  to : l.to.items ++ ways_made left (content_of l.stores l.script l.current) ≡ l.fn.to.items ++ ways_made (last_first (drop (vec_len l.fn.from - l.count) l.fn.from.items)) (content_of l.fn.stores l.fn.script l.fn.current);
}
