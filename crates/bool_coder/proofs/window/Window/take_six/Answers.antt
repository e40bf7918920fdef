use Rattle.std.proofs.Common.{◌≡◌, length, rules}
use Rattle.bool_coder.proofs.SixBytes.{eight-same, eight-value, rest-of-six, six-small}
use Rattle.bool_coder.proofs.window.Window.take_six.Goals as goal

pub returns-clause-same : goal.returns-clause-same
returns-clause-same c =
    let count : length c.args.first ≡ 8 = search rules in
    let fits = c.prove_bytes.ensures in
    λ range. rw (rest-of-six c.args.self.now.bytes.now, c.from_be_bytes.ensures, eight-value c.args.self.now.value c.args.self.now.left c.args.first c.requires.small c.requires.room fits) (eight-same _ _ c.args.first _ range count fits c.requires.next)

pub returns-clause-small : goal.returns-clause-small
returns-clause-small c =
    let fits = c.prove_bytes.ensures in
    rw (c.from_be_bytes.ensures, eight-value c.args.self.now.value c.args.self.now.left c.args.first c.requires.small c.requires.room fits) (six-small _ _ _ _ _ _ _ _ c.requires.small (fits 0) (fits 1) (fits 2) (fits 3) (fits 4) (fits 5))
