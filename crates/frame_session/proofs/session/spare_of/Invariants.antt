use Rattle.std.proofs.Common.{◌≡◌, take}
use Rattle.frame_session.specs.Sessions.{spare_of}
use Rattle.frame_session.proofs.session.spare_of.Given as goal

abbrev pub invariant-loop-file : goal.invariant-loop-file
invariant-loop-file l = l.spare ≡ spare_of (take l.file-index l.fn.files)
