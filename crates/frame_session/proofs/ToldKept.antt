-- What an observer is given, after a flush; the capacity after an edit.
use Rattle.std.proofs.Common.{◌≡◌, ℕ, List, Option, Some, None, ap}
use Rattle.std.specs.Io.KnownBytes.{Keeps}
use Rattle.std.proofs.KnownBytes.{Appends-kept}
use Rattle.frame_session.specs.declared.refusal.Refusal.{Refusal}
use Rattle.state_cache.specs.Reaching.{CacheValue}
use Rattle.frame_session.specs.Cached.{CacheWithout}
use Rattle.frame_session.specs.Replies.{refused_line}
use Rattle.frame_session.specs.Told.{Tells}

pub tells_kept : (r m r' : Option (List ℕ)) (told : Option Refusal) → Tells r m told → Keeps m r' → Tells r r' told
tells_kept r m r' None said kept = (said.0, Appends-kept r m r' said.0 said.1 kept, said.2)
tells_kept r m r' (Some refusal) said kept = Appends-kept r m r' (refused_line refusal) said kept

pub same_capacity : (source : ℕ) (id : Option ℕ) (old new : CacheValue) → CacheWithout source id old new → new.capacity ≡ old.capacity
same_capacity source None old new is = ap (λ (c : CacheValue). c.capacity) is
same_capacity source (Some id) old new is = is.2
