use Rattle.std.proofs.Common.{◌+◌, ◌∙◌, List, ap, sym}
use Rattle.state_cache.specs.Bytes.{cached_bytes, outcome_bytes}
use Rattle.state_cache.proofs.Evicted.{Stored}
use Rattle.state_cache.proofs.Shed.{removed_bytes}
use Rattle.state_cache.proofs.cache.evict.Goals as goal

pub returns-clause-bytes : goal.returns-clause-bytes
returns-clause-bytes c =
    let found = c.in_ok-outcome in
    let entry : Stored = (found.field-0-0, found.outcome) in
    ap (λ (es : List Stored). cached_bytes es + outcome_bytes found.outcome) found.ensures.entries ∙ removed_bytes c.args.kept.now.entries c.in_ok-victim.victim entry (sym found.ensures.entry)
