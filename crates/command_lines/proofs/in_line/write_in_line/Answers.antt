use Rattle.std.proofs.Common.{◌≡◌, ◌∷◌, ◌++◌, ◌-◌, ℕ, List, [], take, drop, length}
use Rattle.std.specs.Io.KnownBytes.{Appends}
use Rattle.command_lines.proofs.InLines.{front-said, front-whole, line-cases, line-said, line-whole}
use Rattle.command_lines.proofs.in_line.write_in_line.Goals as goal

pub loop-left-preserved-then-after-lt1 : goal.loop-left-preserved-then-after-lt1
loop-left-preserved-then-after-lt1 g c =
    let met = c.loop-left.invariant in
    let left : List ℕ = c.loop-left.left.now in
    let front : List ℕ = c.split_at.result.0.now in
    record {
      done = met.done ++ front;
      whole = front-whole met.done left c.args.text.now front c.split_at.result.1.now c.line_length.result met.whole c.split_at.ensures.front c.split_at.ensures.back;
      said = front-said met.done left front c.line_length.result _ _ _ c.line_length.ensures.value c.split_at.ensures.front met.said c.in_ok-write_all.ensures.bytes;
    }

pub loop-left-preserved : goal.loop-left-preserved
loop-left-preserved g c =
    let met = c.loop-left.invariant in
    let left : List ℕ = c.loop-left.left.now in
    let front : List ℕ = c.split_at.result.0.now in
    let after : List ℕ = c.split_at.result.1.now in
    let next = line-cases after c.in-len1-up.len_at_least in
    record {
      done = (met.done ++ front) ++ (next.0 ∷ []);
      whole = line-whole (met.done ++ front) after (take (length after - 1) (drop 1 after)) c.args.text.now next.0
          (front-whole met.done left c.args.text.now front after c.line_length.result met.whole c.split_at.ensures.front c.split_at.ensures.back) next.1;
      said = line-said (met.done ++ front) left after (take (length after - 1) (drop 1 after)) c.line_length.result next.0 _ _ _ c.line_length.ensures.value c.split_at.ensures.back next.1
          (front-said met.done left front c.line_length.result _ _ _ c.line_length.ensures.value c.split_at.ensures.front met.said c.in_ok-write_all.ensures.bytes) c.in_ok-write_all-2.ensures.bytes;
    }
