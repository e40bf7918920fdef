use Rattle.std.proofs.Common.{◌≡◌, map}
use Rattle.frame_session.specs.Cached.{store_of_file}
use Rattle.frame_session.proofs.session.stores_of.Given as goal

abbrev pub invariant-loop-file : goal.invariant-loop-file
invariant-loop-file l = l.stores.items ≡ map store_of_file l.yielded
