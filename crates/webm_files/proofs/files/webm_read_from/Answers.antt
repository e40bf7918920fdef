use Rattle.std.proofs.Common.{subst}
use Rattle.webm_files.specs.Packets.{HasCount}
use Rattle.webm_files.specs.Starts.{IsStart}
use Rattle.webm_files.proofs.FileLemmas.{is_few, is_webm, some_webm, too_many}
use Rattle.webm_files.proofs.files.webm_read_from.Goals as goal

pub returns-then-count-gt-MAX_PACKETS : goal.returns-then-count-gt-MAX_PACKETS
returns-then-count-gt-MAX_PACKETS g c =
    let found = c.in_ok-tracks in
    let start = subst (λ f. IsStart f found.tracks.now found.entry.now found.head) c.whole-bytes.ensures found.ensures.found in
    let count = subst (λ f. HasCount f c.number_of.result c.count_packets-count.result) c.whole-bytes.ensures c.count_packets-count.ensures in
    too_many _ _ _ _ _ _ start c.number_of.ensures count c.if-count-gt-MAX_PACKETS.true

pub returns-in_default : goal.returns-in_default
returns-in_default g c =
    let found = c.in_ok-tracks in
    let start = subst (λ f. IsStart f found.tracks.now found.entry.now found.head) c.whole-bytes.ensures found.ensures.found in
    let count = subst (λ f. HasCount f c.number_of.result c.count_packets-count.result) c.whole-bytes.ensures c.count_packets-count.ensures in
    some_webm _ _ _ _ start (is_few _ _ _ _ _ _ start c.number_of.ensures count c.if-count-gt-MAX_PACKETS.false)

pub returns : goal.returns
returns g c =
    let found = c.in_ok-tracks in
    let start = subst (λ f. IsStart f found.tracks.now found.entry.now found.head) c.whole-bytes.ensures found.ensures.found in
    let count = subst (λ f. HasCount f c.number_of.result c.count_packets-count.result) c.whole-bytes.ensures c.count_packets-count.ensures in
    is_webm _ _ _ _ _ start (is_few _ _ _ _ _ _ start c.number_of.ensures count c.if-count-gt-MAX_PACKETS.false) c.in-Ok.ensures
