use Rattle.std.proofs.Common.{◌≡◌, map}
use Rattle.std.specs.Rc.{rc_slice_items}
use Rattle.serve_program.proofs.runs.shared.Given as goal

abbrev pub invariant-loop-bytes : goal.invariant-loop-bytes
invariant-loop-bytes l = map rc_slice_items l.files.items ≡ map (λ bytes. bytes.items) l.yielded
