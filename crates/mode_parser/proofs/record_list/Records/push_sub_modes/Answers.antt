use Rattle.std.proofs.Common.{◌≡◌, [], length, refl}
use Rattle.std.proofs.lemmas.List.{map-append}
use Rattle.std.proofs.Math.Seq.{get_or-append_seam}
use Rattle.mode_parser.specs.Records.{no_sub_modes}
use Rattle.mode_parser.proofs.RecordLists.{more-modes}
use Rattle.mode_parser.proofs.record_list.Records.push_sub_modes.Goals as goal

pub returns : goal.returns
returns c =
    let before = c.self.inside.lists.sub_modes.items in
    let kept = more-modes before c.self.inside.lists.vectors.items c.args.sub_modes c.self.inside.stored.items c.self.invariant in
    let last = get_or-append_seam before c.args.sub_modes [] no_sub_modes in
    let end : c.len-side.result ≡ length before = search in
    rw (c.in_ok-push-2.ensures.items, c.in_ok-push.ensures.items, map-append, kept, end, last, c.self.view_is) refl
