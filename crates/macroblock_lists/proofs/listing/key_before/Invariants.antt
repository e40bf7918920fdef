use Rattle.std.proofs.Common.{◌≡◌, ℕ, ◌<◌, ◌≤◌, IfSome, slice_get, false}
use Rattle.frame_header.specs.Tags.{has_key_tag}
use Rattle.macroblock_lists.proofs.listing.key_before.Given as goal

abbrev pub invariant-loop-start : goal.invariant-loop-start
invariant-loop-start l = record {
  within : l.start ≤ l.place;
  others : (k : ℕ) → l.start ≤ k → k < l.place → IfSome (slice_get l.packets k) (λ packet. has_key_tag packet.bytes ≡ false);
}

abbrev pub decreases-loop-start : goal.decreases-loop-start
decreases-loop-start l = l.start
