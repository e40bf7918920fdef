use Rattle.transforms.proofs.PairLanes.{kept, read_lanes, passed0, passed1, passed2, passed3}
use Rattle.transforms.proofs.pairs.passed.Goals as goal

pub times_sine-requires : goal.times_sine-requires
times_sine-requires c = read_lanes _

pub times_cosine-requires : goal.times_cosine-requires
times_cosine-requires c = read_lanes _

pub times_cosine-requires-2 : goal.times_cosine-requires-2
times_cosine-requires-2 c = read_lanes _

pub times_sine-requires-2 : goal.times_sine-requires-2
times_sine-requires-2 c = read_lanes _

pub returns-clause-first : goal.returns-clause-first
returns-clause-first c = rw (c.times_cosine-2.ensures, c.times_sine-2.ensures, kept c.args.i1 c.requires.1, kept c.args.i3 c.requires.3) (passed0 c.args.i0 c.args.i1 c.args.i2 c.args.i3 c.requires.0 c.requires.2)

pub returns-clause-second : goal.returns-clause-second
returns-clause-second c = rw (c.times_cosine.ensures, c.times_sine.ensures, kept c.args.i1 c.requires.1, kept c.args.i3 c.requires.3) (passed1 c.args.i0 c.args.i1 c.args.i2 c.args.i3 c.requires.0 c.requires.2)

pub returns-clause-third : goal.returns-clause-third
returns-clause-third c = rw (c.times_cosine.ensures, c.times_sine.ensures, kept c.args.i1 c.requires.1, kept c.args.i3 c.requires.3) (passed2 c.args.i0 c.args.i1 c.args.i2 c.args.i3 c.requires.0 c.requires.2)

pub returns-clause-fourth : goal.returns-clause-fourth
returns-clause-fourth c = rw (c.times_cosine-2.ensures, c.times_sine-2.ensures, kept c.args.i1 c.requires.1, kept c.args.i3 c.requires.3) (passed3 c.args.i0 c.args.i1 c.args.i2 c.args.i3 c.requires.0 c.requires.2)
