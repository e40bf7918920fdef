use Rattle.std.proofs.Common.{◌≡◌, ℕ, ◌+◌, List, ◌++◌, ap, sym, subst, ◌∙◌, arith, append_assoc, add-one}
use Rattle.md5.specs.Md5.{Holds}
use Rattle.pixel_planes.specs.Pictures.{shown_height, shown_rows, side_of}
use Rattle.stream_checks.proofs.samples.add_plane.Goals as goal

pub loop-y-preserved : goal.loop-y-preserved
loop-y-preserved c = λ m held.
    let p = c.args.picture.now in
    let done = shown_rows p c.args.component c.loop-y.y in
    let grown : (m ++ done) ++ c.shown_row.result.now ≡ m ++ shown_rows p c.args.component (c.loop-y.y + 1) =
    append_assoc m done c.shown_row.result.now
    ∙ ap (λ (row : List ℕ). m ++ (done ++ row)) c.shown_row.ensures.value
    ∙ ap (λ (n : ℕ). m ++ shown_rows p c.args.component n) (sym (add-one c.loop-y.y)) in
    subst (Holds c.update.new.self) grown (c.update.ensures (m ++ done) (c.loop-y.invariant m held))

pub returns : goal.returns
returns c = λ m held.
    let p = c.args.picture.now in
    let last : c.loop-y.y ≡ c.side-y-end.result = omega (arith, c.loop-y-test.false, c.loop-y.auto.y-end) in
    let all : c.loop-y.y ≡ shown_height p c.args.component = last ∙ c.side-y-end.ensures.value ∙ ap (side_of c.args.component) c.height.ensures.value in
    subst (λ (n : ℕ). Holds c.loop-y.hasher (m ++ shown_rows p c.args.component n)) all (c.loop-y.invariant m held)
